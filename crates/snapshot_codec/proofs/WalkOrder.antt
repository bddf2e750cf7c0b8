-- The walk over the nodes of a tree: each node occurs in it once, and after its parent.
use Rattle.std.specs.Prelude.{nat_lt}
use Rattle.std.proofs.Common.{◌≡◌, ◌<◌, ltb→lt, ℕ, suc, pred, Bool, true, false, not, cond, ◌&&◌, ◌||◌, ◌==◌, T, List, [], ◌∷◌, ◌++◌, Some, None, is_some, refl, sym, ap, subst, ◌∙◌, arith, if◌then◌else◌, true≢false}
use Rattle.std.specs.declared.cmp.Ordering.{Ordering}
use Rattle.std.specs.declared.cmp.Ordering.TheVariants.{Less, Equal, Greater}
use Rattle.std.specs.Cmp.{IsTotalOrder, tied_itself, on_total, nat_cmp_total, both_ways}
use Rattle.std.specs.Cmp.Lexicographic.{lists_total}
use Rattle.std.specs.FinMap as finmap
use Rattle.std.specs.FinMap.{find, is_sorted, nat_cmp-IsAntisymmetric, slice_cmp-IsAntisymmetric}
use Rattle.std.specs.FinMap.Entries.{below_all}
use Rattle.std.specs.List.{list_any}
use Rattle.std.specs.Ordering.{is_eq, is_lt, eq_by_cmp, nat_cmp, on, ordering_reverse, ordering_then}
use Rattle.std.proofs.lemmas.Bool.{eqb-true}
use Rattle.std.proofs.lemmas.Map.Lookups.{exact_bytes}
use Rattle.std.proofs.lemmas.Map.Views.{tells_apart}
use Rattle.ephemerals.specs.Orders.{Bytes, path_cmp}
use Rattle.ephemerals.proofs.Totals.{path_total}
use Rattle.paths_and_acls.specs.Paths.{is_name, is_root, is_path, has_slash, before_last_slash, after_last_slash, or_root, parent_of, name_of, child_of}
use Rattle.node_map.specs.Nodes.{Nodes}
use Rattle.node_map.specs.Agreement.{is_child_name}
use Rattle.snapshot_codec.specs.Parts.{root_path}
use Rattle.snapshot_codec.specs.Written.{byte_rank, walk_cmp, walk_of}
use Rattle.snapshot_codec.proofs.Formats.{root_is}
use Rattle.snapshot_codec.proofs.Making.{not_true}
use Rattle.snapshot_codec.proofs.Whole.{all_behind, or_true, child_is}

-- ---- lists in strict order

pub first : (a b : Bool) → T (a && b) → T a
first true b p = tt
first false b p = p

pub second : (a b : Bool) → T (a && b) → T b
second true b p = p
second false b p = absurd p

pub both : (a b : Bool) → T a → T b → T (a && b)
both true b p q = q
both false b p q = p

pub less : (o : Ordering) → T (is_lt o) → o ≡ Less
less Less p = refl
less Equal p = absurd p
less Greater p = absurd p

module _ {K X : Type 0} {R : K → K → Ordering} (o : IsTotalOrder R) where
  pub less_at : (k : K) (ahead : List (K × X)) (x : K × X) (bs : List (K × X)) → T (below_all R k (ahead ++ x ∷ bs))
      → R k x.0 ≡ Less
  less_at k [] x bs h = less (R k x.0) (first (is_lt (R k x.0)) (below_all R k bs) h)
  less_at k (a ∷ ahead) x bs h = less_at k ahead x bs (second (is_lt (R k a.0)) (below_all R k (ahead ++ x ∷ bs)) h)

  below_less : (x y : K) (es : List (K × X)) → R x y ≡ Less → T (below_all R y es) → T (below_all R x es)
  below_less x y [] p h = tt
  below_less x y (e ∷ es) p h =
      both (is_lt (R x e.0)) (below_all R x es)
      (subst (λ r. T (is_lt r)) (sym (o.trans x y e.0 p
      (less (R y e.0) (first (is_lt (R y e.0)) (below_all R y es) h)))) tt)
      (below_less x y es p (second (is_lt (R y e.0)) (below_all R y es) h))

  find_below : (q : K) (es : List (K × X)) → T (below_all R q es) → find R q es ≡ None
  find_below q [] h = refl
  find_below q (e ∷ es) h =
      ap (λ r. cond (is_eq r) (Some e.1) (find R q es))
      (less (R q e.0) (first (is_lt (R q e.0)) (below_all R q es) h))
      ∙ find_below q es (second (is_lt (R q e.0)) (below_all R q es) h)

  -- A key isn't found before its place.
  pub before_none : (ahead : List (K × X)) (x : K × X) (bs : List (K × X)) → T (is_sorted R (ahead ++ x ∷ bs))
      → find R x.0 ahead ≡ None
  before_none [] x bs h = refl
  before_none (a ∷ ahead) x bs h =
      ap (λ r. cond (is_eq r) (Some a.1) (find R x.0 ahead)) (o.antisymm x.0 a.0
      ∙ ap ordering_reverse (less_at a.0 ahead x bs
      (first (below_all R a.0 (ahead ++ x ∷ bs)) (is_sorted R (ahead ++ x ∷ bs)) h)))
      ∙ before_none ahead x bs (second (below_all R a.0 (ahead ++ x ∷ bs)) (is_sorted R (ahead ++ x ∷ bs)) h)

  -- A smaller key that is there is found before.
  pub before_some : (q : K) (ahead : List (K × X)) (x : K × X) (bs : List (K × X)) → T (is_sorted R (ahead ++ x ∷ bs))
      → R q x.0 ≡ Less → is_some (find R q (ahead ++ x ∷ bs)) ≡ true → is_some (find R q ahead) ≡ true
  before_some q [] x bs h l some =
      absurd (true≢false (sym some ∙ ap is_some (find_below q (x ∷ bs)
      (both (is_lt (R q x.0)) (below_all R q bs) (subst (λ r. T (is_lt r)) (sym l) tt)
      (below_less q x.0 bs l (first (below_all R x.0 bs) (is_sorted R bs) h))))))
  before_some q (a ∷ ahead) x bs h l some =
      by (before_some q ahead x bs (second (below_all R a.0 (ahead ++ x ∷ bs)) (is_sorted R (ahead ++ x ∷ bs)) h) l)
      (eq_by_cmp R q a.0) some
    where
      by : (is_some (find R q (ahead ++ x ∷ bs)) ≡ true → is_some (find R q ahead) ≡ true) → (b : Bool)
          → is_some (cond b (Some a.1) (find R q (ahead ++ x ∷ bs))) ≡ true
          → is_some (cond b (Some a.1) (find R q ahead)) ≡ true
      by later true k = refl
      by later false k = later k

  pub here_some : (x : K × X) (bs : List (K × X)) → is_some (find R x.0 (x ∷ bs)) ≡ true
  here_some x bs = ap (λ r. is_some (cond (is_eq r) (Some x.1) (find R x.0 bs))) (tied_itself o x.0)

  pub middle_some : (ahead : List (K × X)) (x : K × X) (bs : List (K × X))
      → is_some (find R x.0 (ahead ++ x ∷ bs)) ≡ true
  middle_some [] x bs = here_some x bs
  middle_some (a ∷ ahead) x bs = by (middle_some ahead x bs) (eq_by_cmp R x.0 a.0)
    where
      by : is_some (find R x.0 (ahead ++ x ∷ bs)) ≡ true → (b : Bool)
          → is_some (cond b (Some a.1) (find R x.0 (ahead ++ x ∷ bs))) ≡ true
      by later true = refl
      by later false = later

-- ---- the order of the walk

pub rank_exact : (a b : ℕ) → byte_rank a ≡ byte_rank b → a ≡ b
rank_exact a b = by (a == 47) (b == 47) refl refl
  where
    by : (s t : Bool) → (a == 47) ≡ s → (b == 47) ≡ t → (if s then 0 else suc a) ≡ (if t then 0 else suc b) → a ≡ b
    by true true e f h = eqb-true a 47 e ∙ sym (eqb-true b 47 f)
    by true false e f h = absurd (omega arith)
    by false true e f h = absurd (omega arith)
    by false false e f h = ap pred h

-- Bytes of equal rank are equal.
pub rank_exact_cmp : (a b : ℕ) → on byte_rank nat_cmp a b ≡ Equal → a ≡ b
rank_exact_cmp a b e = rank_exact a b (nat_cmp-IsAntisymmetric (byte_rank a) (byte_rank b) e)

pub rank_total : IsTotalOrder (on byte_rank nat_cmp)
rank_total = on_total byte_rank nat_cmp_total

pub walk_total : IsTotalOrder walk_cmp
walk_total = lists_total rank_total

pub walk_exact : (x y : Bytes) → walk_cmp x y ≡ Equal → x ≡ y
walk_exact = slice_cmp-IsAntisymmetric {R = on byte_rank nat_cmp} rank_exact_cmp

same_tie : (q k : Bytes) → eq_by_cmp walk_cmp q k ≡ eq_by_cmp path_cmp q k
same_tie q k =
    both_ways (eq_by_cmp walk_cmp q k) (eq_by_cmp path_cmp q k)
    (λ e. subst (λ (x : Bytes). eq_by_cmp path_cmp q x ≡ true) (tells_apart walk_exact q k e)
    (ap is_eq (tied_itself path_total q)))
    (λ e. subst (λ (x : Bytes). eq_by_cmp walk_cmp q x ≡ true) (tells_apart exact_bytes q k e)
    (ap is_eq (tied_itself walk_total q)))

pub same_find : {X : Type 0} (q : Bytes) (es : List (Bytes × X)) → find walk_cmp q es ≡ find path_cmp q es
same_find q [] = refl
same_find q (e ∷ es) = λ i. cond (same_tie q e.0 i) (Some e.1) (same_find q es i)

pub walk_find : (nodes : Nodes) (q : Bytes) → find path_cmp q (walk_of nodes) ≡ finmap.get nodes q
walk_find nodes q =
    sym (same_find q (walk_of nodes))
    ∙ sym (finmap.get-entries (finmap.from_entries {R = walk_cmp} (finmap.entries nodes)) q)
    ∙ finmap.get-from_entries walk_total (finmap.entries nodes) q
    ∙ same_find q (finmap.entries nodes)
    ∙ sym (finmap.get-entries nodes q)

pub walk_sorted : (nodes : Nodes) → T (is_sorted walk_cmp (walk_of nodes))
walk_sorted nodes = finmap.entries_sorted (finmap.from_entries {R = walk_cmp} (finmap.entries nodes))

prefix_less : (p : Bytes) (b : ℕ) (t : Bytes) → walk_cmp p (p ++ b ∷ t) ≡ Less
prefix_less [] b t = refl
prefix_less (x ∷ p) b t =
    ap (λ r. ordering_then r (walk_cmp p (p ++ b ∷ t))) (tied_itself rank_total x) ∙ prefix_less p b t

-- No path comes before "/".
pub none_before_root : (path : Bytes) → is_path path ≡ true → walk_cmp path root_path ≡ Less → ⊥
none_before_root [] is l = true≢false (sym is)
none_before_root (b ∷ t) is l = by (nat_lt (byte_rank b) 0) refl l
  where
    lesser : (o : Ordering) → o ≡ Less → T (is_lt o)
    lesser o e = subst (λ (x : Ordering). T (is_lt x)) (sym e) tt

    at_end : (r : Bytes) → walk_cmp r [] ≡ Less → ⊥
    at_end [] k = lesser Equal k
    at_end (c ∷ r) k = lesser Greater k

    then_end : (same : Bool) → ordering_then (cond same Equal Greater) (walk_cmp t []) ≡ Less → ⊥
    then_end true k = at_end t k
    then_end false k = lesser Greater k

    by : (lesser : Bool) → nat_lt (byte_rank b) 0 ≡ lesser
        → ordering_then (cond lesser Less (cond (byte_rank b == 0) Equal Greater)) (walk_cmp t []) ≡ Less → ⊥
    by true h k =
        let none : byte_rank b < 0 = ltb→lt (byte_rank b) 0 (subst T (sym h) tt) in
        absurd (omega arith)
    by false h k = then_end (byte_rank b == 0) k

-- ---- a child's path

three : (a b c : Bool) → (a && b && c) ≡ true → (a ≡ true) × (c ≡ true)
three true true true e = (refl, refl)
three true true false e = absurd (true≢false (sym e))
three true false c e = absurd (true≢false (sym e))
three false b c e = absurd (true≢false (sym e))

slashes : (text : Bytes) → list_any (λ b. b == 47) text ≡ has_slash text
slashes [] = refl
slashes (b ∷ text) = ap (λ (v : Bool). (b == 47) || v) (slashes text)

name_parts : (name : Bytes) → is_child_name name ≡ true → (is_name name ≡ true) × (has_slash name ≡ false)
name_parts name e =
    let p = three (is_name name) (not (list_any (λ b. b == 0) name)) (not (list_any (λ b. b == 47) name)) e in
    (p.0, sym (slashes name) ∙ not_true (list_any (λ b. b == 47) name) p.1)

slash_in : (xs name : Bytes) → has_slash (xs ++ 47 ∷ name) ≡ true
slash_in [] name = refl
slash_in (b ∷ xs) name = ap (λ (s : Bool). (b == 47) || s) (slash_in xs name) ∙ or_true (b == 47)

before_is : (xs name : Bytes) → has_slash name ≡ false → before_last_slash (xs ++ 47 ∷ name) ≡ xs
before_is [] name none = ap (λ (s : Bool). if s then 47 ∷ before_last_slash name else []) none
before_is (b ∷ xs) name none =
    ap (λ (s : Bool). if s then b ∷ before_last_slash (xs ++ 47 ∷ name) else []) (slash_in xs name)
    ∙ ap (λ (t : Bytes). b ∷ t) (before_is xs name none)

after_is : (xs name : Bytes) → has_slash name ≡ false → after_last_slash (xs ++ 47 ∷ name) ≡ name
after_is [] name none = all_behind name none
after_is (b ∷ xs) name none =
    ap (λ (s : Bool). if s then after_last_slash (xs ++ 47 ∷ name) else b ∷ (xs ++ 47 ∷ name)) (slash_in (b ∷ xs) name)
    ∙ after_is xs name none

abbrev pub IsBelow : Bytes → Bytes → Bytes → Type 0
IsBelow path name child = (path ≡ parent_of child) × (name ≡ name_of child) × (is_root child ≡ false)

below_root : (name : Bytes) → is_name name ≡ true → has_slash name ≡ false → IsBelow root_path name (root_path ++ name)
below_root [] is none = absurd (true≢false (sym is))
below_root (b ∷ name) is none = (
  ap or_root (sym (before_is [] (b ∷ name) none)),
  sym (after_is [] (b ∷ name) none),
  refl,
)

long_path : (path name : Bytes) → is_root path ≡ false → is_path path ≡ true
    → (or_root path ≡ path) × (is_root (path ++ 47 ∷ name) ≡ false)
long_path [] name other is = absurd (true≢false (sym is))
long_path (b ∷ []) name other is = (refl, refl)
long_path (b ∷ c ∷ path) name other is = (refl, refl)

below_path : (path name : Bytes) → is_root path ≡ false → is_path path ≡ true → has_slash name ≡ false
    → IsBelow path name (path ++ 47 ∷ name)
below_path path name other is none =
    let l = long_path path name other is in (
      sym (ap or_root (before_is path name none) ∙ l.0),
      sym (after_is path name none),
      l.1,
    )

pub child_below : (path name : Bytes) → is_path path ≡ true → is_child_name name ≡ true
    → IsBelow path name (child_of path name)
child_below path name is named = by (is_root path) refl
  where
    by : (b : Bool) → is_root path ≡ b → IsBelow path name (if b then path ++ name else path ++ 47 ∷ name)
    by true e =
        subst (λ (p : Bytes). IsBelow p name (p ++ name)) (sym (root_is path e))
        (below_root name (name_parts name named).0 (name_parts name named).1)
    by false e = below_path path name e is (name_parts name named).1

child_less : (p name : Bytes) → is_name name ≡ true → walk_cmp p (child_of p name) ≡ Less
child_less p [] is = absurd (true≢false (sym is))
child_less p (c ∷ name) is = by (is_root p)
  where
    by : (b : Bool) → walk_cmp p (if b then p ++ c ∷ name else p ++ 47 ∷ c ∷ name) ≡ Less
    by true = prefix_less p c name
    by false = prefix_less p 47 (c ∷ name)

pub parent_less : (path : Bytes) → is_path path ≡ true → is_child_name (name_of path) ≡ true
    → walk_cmp (parent_of path) path ≡ Less
parent_less path is named =
    subst (λ (p : Bytes). walk_cmp (parent_of path) p ≡ Less) (child_is path is)
    (child_less (parent_of path) (name_of path) (name_parts (name_of path) named).0)
