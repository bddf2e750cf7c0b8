-- A path is made of its parent and its name, so a parent has one child of a name.
use Rattle.std.proofs.Common.{◌≡◌, ℕ, Bool, true, false, not, eqb, cond, ◌&&◌, ◌||◌, [], ◌∷◌, ◌++◌, refl, sym, ap, subst, ◌∙◌, codes}
use mathlib.Core.Bool.{true≢false}
use Rattle.std.specs.List.{list_all}
use Rattle.std.proofs.lemmas.Bool.{eqb-true}
use Rattle.ephemerals.specs.Orders.{Bytes}
use Rattle.paths_and_acls.specs.Paths.{are_names, is_root, is_child_path, has_slash, before_last_slash, after_last_slash, or_root, parent_of, name_of, child_of}

pub root_is : (path : Bytes) → is_root path ≡ true → path ≡ codes "/"
root_is [] e = absurd (true≢false (sym e))
root_is (b ∷ []) e = ap (λ (n : ℕ). n ∷ []) (eqb-true b 47 e)
root_is (b ∷ c ∷ path) e = absurd (true≢false (sym e))

-- A path that has a parent isn't "/".
pub child_no_root : (path : Bytes) → is_child_path path ≡ true → is_root path ≡ false
child_no_root path child = by (is_root path) refl
  where
    by : (b : Bool) → is_root path ≡ b → b ≡ false
    by true is = absurd (true≢false (sym child ∙ ap is_child_path (root_is path is)))
    by false is = refl

all_after : (text : Bytes) → has_slash text ≡ false → after_last_slash text ≡ text
all_after [] none = refl
all_after (b ∷ text) none = rw none refl

pub or_true : (b : Bool) → (b || true) ≡ true
or_true true = refl
or_true false = refl

or_left : (a : Bool) → (a || false) ≡ true → a ≡ true
or_left true e = refl
or_left false e = e

divided : (text : Bytes) → has_slash text ≡ true → before_last_slash text ++ 47 ∷ after_last_slash text ≡ text
divided [] e = absurd (true≢false (sym e))
divided (b ∷ text) e = by (divided text) (has_slash text) refl e
  where
    by : (has_slash text ≡ true → before_last_slash text ++ 47 ∷ after_last_slash text ≡ text)
        → (more : Bool) → has_slash text ≡ more → (eqb b 47 || more) ≡ true
        → before_last_slash (b ∷ text) ++ 47 ∷ after_last_slash (b ∷ text) ≡ b ∷ text
    by later true h k = rw (h, or_true (eqb b 47)) (ap (λ (t : Bytes). b ∷ t) (later h))
    by later false h k =
        let is : eqb b 47 ≡ true = or_left (eqb b 47) k in
        rw (h, is) (ap (λ (t : Bytes). 47 ∷ t) (all_after text h) ∙ ap (λ (n : ℕ). n ∷ text) (sym (eqb-true b 47 is)))

pub and_false : (b : Bool) → (b && false) ≡ false
and_false true = refl
and_false false = refl

-- No name is empty.
no_double : (text : Bytes) → is_child_path (47 ∷ 47 ∷ text) ≡ true → ⊥
no_double text e = true≢false (sym e ∙ and_false (list_all (λ b. not (eqb b 0)) (47 ∷ text)))

child_by : (before after : Bytes) → is_child_path (before ++ 47 ∷ after) ≡ true
    → child_of (or_root before) after ≡ before ++ 47 ∷ after
child_by [] after e = refl
child_by (b ∷ before) after e = by (is_root (b ∷ before)) refl
  where
    by : (r : Bool) → is_root (b ∷ before) ≡ r
        → cond r ((b ∷ before) ++ after) ((b ∷ before) ++ 47 ∷ after) ≡ (b ∷ before) ++ 47 ∷ after
    by false h = refl
    by true h = absurd (no_double after (subst (λ (t : Bytes). is_child_path (t ++ 47 ∷ after) ≡ true)
        (root_is (b ∷ before) h) e))

slash_in : (path : Bytes) → is_child_path path ≡ true → has_slash path ≡ true
slash_in [] e = absurd (true≢false (sym e))
slash_in (b ∷ path) e = by (eqb b 47) e
  where
    by : (s : Bool) → (s && are_names path) ≡ true → (s || has_slash path) ≡ true
    by true h = refl
    by false h = absurd (true≢false (sym h))

pub child_is : (path : Bytes) → is_child_path path ≡ true → child_of (parent_of path) (name_of path) ≡ path
child_is path e =
    let whole = divided path (slash_in path e) in
    child_by (before_last_slash path) (after_last_slash path)
    (subst (λ (t : Bytes). is_child_path t ≡ true) (sym whole) e)
    ∙ whole

pub same_child : (p q : Bytes) → is_child_path p ≡ true → is_child_path q ≡ true → parent_of p ≡ parent_of q
    → name_of p ≡ name_of q → p ≡ q
same_child p q a b parents names =
    sym (child_is p a) ∙ (λ i. child_of (parents i) (names i)) ∙ child_is q b
