-- The owners of a map's nodes with their paths, as a list of pairs.
use Rattle.std.proofs.Common.{◌≡◌, ℤ, pos, List, [], ◌∷◌, ◌++◌, Bool, true, false, cond, not, ◌&&◌, ◌||◌, Some, None, refl, sym, ap, ◌∙◌, if◌then◌else◌}
use Rattle.std.specs.List.{list_any}
use Rattle.std.specs.Ordering.{eq_by_cmp, is_eq, int_eq, int_cmp}
use Rattle.std.specs.Cmp.{tied_itself}
use Rattle.std.proofs.lemmas.Map.Lookups.{exact_bytes, exact_signed}
use Rattle.std.proofs.lemmas.Map.Views.{tells_apart}
use Rattle.ephemerals.specs.Orders.{Bytes, path_cmp, pair_cmp}
use Rattle.node_map.specs.Agreement.{is_owner}
use Rattle.node_map.specs.declared.node.Node.{Node}
use Rattle.ephemerals.proofs.Totals.{path_total}
use Rattle.std.specs.FinMap as finmap
use Rattle.node_map.proofs.HashedNodes.{AreApart, apart_first, apart_rest, not_found_apart}
use Rattle.node_map.proofs.Counting.{AreDistinct}
use Rattle.std.proofs.Math.Bool.{and-false, and-true, or-false}
use Rattle.ephemerals.proofs.Ties.{tied_then, same_session}

-- The pair of an entry, in front of others.
abbrev pub with_owner : Bytes × Node → List (ℤ × Bytes) → List (ℤ × Bytes)
with_owner e ps =
    if int_eq e.1.stat.ephemeral_owner (pos 0) then ps else (e.1.stat.ephemeral_owner, e.0) ∷ ps

-- The owners of the nodes with their paths.
abbrev pub owners : List (Bytes × Node) → List (ℤ × Bytes)
owners [] = []
owners (e ∷ es) = with_owner e (owners es)

pub owners-any : (es : List (Bytes × Node)) → AreApart es → (s : ℤ) (p : Bytes)
    → list_any (eq_by_cmp pair_cmp (s, p)) (owners es) ≡ is_owner s (finmap.find path_cmp p es)
owners-any [] once s p = refl
owners-any (e ∷ es) once s p =
    by (owners-any es (apart_rest e es once) s p) (int_eq e.1.stat.ephemeral_owner (pos 0))
    refl (eq_by_cmp path_cmp p e.0) refl
  where
    owner : ℤ
    owner = e.1.stat.ephemeral_owner

    -- The path occurs once.
    none_left : eq_by_cmp path_cmp p e.0 ≡ true → finmap.find path_cmp p es ≡ None
    none_left t =
        ap (λ q. finmap.find path_cmp q es) (tells_apart exact_bytes p e.0 t)
        ∙ not_found_apart e.0 es (apart_first e es once)

    zero_owns : (o : ℤ) → int_eq o (pos 0) ≡ true → (not (int_eq s (pos 0)) && int_eq o s) ≡ false
    zero_owns o z = apart (int_eq o s) refl
      where
        apart : (b : Bool) → int_eq o s ≡ b → (not (int_eq s (pos 0)) && b) ≡ false
        apart true t =
            let same : o ≡ s = sym (tells_apart exact_signed s o (sym (same_session o s) ∙ t)) in
            ap (λ b. not b && true) (ap (λ x. int_eq x (pos 0)) (sym same) ∙ z)
        apart false t = and-false (not (int_eq s (pos 0)))

    -- For an owner other than 0, the session is the owner exactly if it isn't 0 and is the owner.
    owner_is : int_eq owner (pos 0) ≡ false → int_eq owner s ≡ (not (int_eq s (pos 0)) && int_eq owner s)
    owner_is z = split (int_eq owner s) refl
      where
        split : (b : Bool) → int_eq owner s ≡ b → b ≡ (not (int_eq s (pos 0)) && b)
        split true t =
            let same : owner ≡ s = sym (tells_apart exact_signed s owner (sym (same_session owner s) ∙ t)) in
            ap (λ b. not b && true) (sym z ∙ ap (λ x. int_eq x (pos 0)) same)
        split false t = sym (and-false (not (int_eq s (pos 0))))

    pair_is : eq_by_cmp pair_cmp (s, p) (owner, e.0)
        ≡ (int_eq owner s && eq_by_cmp path_cmp p e.0)
    pair_is =
        tied_then (int_cmp s owner) (path_cmp p e.0)
        ∙ ap (λ b. b && eq_by_cmp path_cmp p e.0) (sym (same_session owner s))

    by : list_any (eq_by_cmp pair_cmp (s, p)) (owners es) ≡ is_owner s (finmap.find path_cmp p es)
        → (z : Bool) → int_eq owner (pos 0) ≡ z → (t : Bool) → eq_by_cmp path_cmp p e.0 ≡ t
        → list_any (eq_by_cmp pair_cmp (s, p)) (if z then owners es else (owner, e.0) ∷ owners es)
        ≡ is_owner s (cond t (Some e.1) (finmap.find path_cmp p es))
    by rest true z true t = rest ∙ ap (is_owner s) (none_left t) ∙ sym (zero_owns owner z)
    by rest true z false t = rest
    by rest false z true t =
        (λ i. (pair_is ∙ ap (λ b. int_eq owner s && b) t ∙ and-true (int_eq owner s)) i
        || (rest ∙ ap (is_owner s) (none_left t)) i)
        ∙ or-false (int_eq owner s)
        ∙ owner_is z
    by rest false z false t =
        (λ i. (pair_is ∙ ap (λ b. int_eq owner s && b) t ∙ and-false (int_eq owner s)) i || rest i)

pub owners-distinct : (es : List (Bytes × Node)) → AreApart es
    → AreDistinct pair_cmp (owners es)
owners-distinct [] apart = tt
owners-distinct (e ∷ es) apart =
    by (owners-distinct es (apart_rest e es apart)) (int_eq e.1.stat.ephemeral_owner (pos 0))
  where
    by : AreDistinct pair_cmp (owners es) → (z : Bool)
        → AreDistinct pair_cmp (if z then owners es else (e.1.stat.ephemeral_owner, e.0) ∷ owners es)
    by rest true = rest
    by rest false = (
      owners-any es (apart_rest e es apart) e.1.stat.ephemeral_owner e.0
          ∙ ap (is_owner e.1.stat.ephemeral_owner)
          (not_found_apart e.0 es (apart_first e es apart)),
      rest,
    )

pub owners-push : (es : List (Bytes × Node)) (e : Bytes × Node)
    → owners (es ++ e ∷ []) ≡ owners es ++ with_owner e []
owners-push [] e = refl
owners-push (x ∷ es) e = by (owners-push es e) (int_eq x.1.stat.ephemeral_owner (pos 0))
  where
    by : owners (es ++ e ∷ []) ≡ owners es ++ with_owner e []
        → (z : Bool)
        → (if z then owners (es ++ e ∷ []) else (x.1.stat.ephemeral_owner, x.0) ∷ owners (es ++ e ∷ []))
        ≡ (if z then owners es else (x.1.stat.ephemeral_owner, x.0) ∷ owners es) ++ with_owner e []
    by rest true = rest
    by rest false = ap (λ ps. (x.1.stat.ephemeral_owner, x.0) ∷ ps) rest

-- An entry in the middle is found.
pub found-at : (before : List (Bytes × Node)) (e : Bytes × Node) (rest : List (Bytes × Node))
    → AreApart (before ++ e ∷ rest)
    → finmap.find path_cmp e.0 (before ++ e ∷ rest) ≡ Some e.1
found-at [] e rest apart =
    ap (λ r. cond (is_eq r) (Some e.1) (finmap.find path_cmp e.0 rest))
    (tied_itself path_total e.0)
found-at (x ∷ before) e rest apart =
    by (found-at before e rest (apart_rest x (before ++ e ∷ rest) apart))
    (eq_by_cmp path_cmp e.0 x.0) refl
  where
    by : finmap.find path_cmp e.0 (before ++ e ∷ rest) ≡ Some e.1
        → (t : Bool) → eq_by_cmp path_cmp e.0 x.0 ≡ t
        → cond t (Some x.1) (finmap.find path_cmp e.0 (before ++ e ∷ rest)) ≡ Some e.1
    by found true t =
        let none : finmap.find path_cmp x.0 (before ++ e ∷ rest) ≡ None =
        not_found_apart x.0 (before ++ e ∷ rest)
        (apart_first x (before ++ e ∷ rest) apart) in
        let clash : None ≡ Some e.1 =
        sym none
        ∙ ap (λ q. finmap.find path_cmp q (before ++ e ∷ rest))
        (sym (tells_apart exact_bytes e.0 x.0 t))
        ∙ found in
        cc
    by found false t = found
