-- The nodes that a loop has visited, each with its pair, and how many of them are owned.
use Rattle.std.proofs.Common.{◌≡◌, ℕ, ℤ, pos, ◌+◌, ◌<◌, ◌^◌, List, [], ◌∷◌, ◌++◌, true, false, not, ◌&&◌, Some, IsTrue, refl, sym, ap, subst, ◌∙◌, ◌↔◌, length, append-nil, length-append, ◌≤◌, arith, if◌then◌else◌}
use mathlib.Core.Bool.{true≢false}
use Rattle.std.specs.Ordering.{is_eq, int_eq}
use Rattle.std.specs.Cmp.{tied_itself, int_cmp_total}
use Rattle.std.specs.FinMap as finmap
use Rattle.std.specs.FinSet as set
use Rattle.ephemerals.specs.Orders.{Bytes, OwnerPairs, path_cmp, pair_cmp}
use Rattle.node_map.specs.Nodes.{Nodes}
use Rattle.node_map.specs.Agreement.{is_owner, AreOwned}
use Rattle.node_map.specs.declared.node.Node.{Node}
use Rattle.ephemerals.proofs.Totals.{path_total, pair_total, pair_exact}
use Rattle.pairs.proofs.Hashed.{map_of}
use Rattle.node_map.proofs.HashedNodes.{AreApart}
use Rattle.node_map.proofs.Counting.{AreDistinct, AreIn, as_many, all_counted}
use Rattle.ephemerals.proofs.Ties.{same_session}
use Rattle.node_map.proofs.OwnersOfNodes.{with_owner, owners, owners-any, owners-distinct, owners-push, found-at}

both_in : (s : OwnerPairs) (xs ys : List (ℤ × Bytes)) → AreIn {R = pair_cmp} s xs → AreIn {R = pair_cmp} s ys
    → AreIn {R = pair_cmp} s (xs ++ ys)
both_in s [] ys a b = b
both_in s (x ∷ xs) ys a b = (a.0, both_in s xs ys a.1 b)

length-push : {A : Type 0} (xs : List A) (x : A) → length (xs ++ x ∷ []) ≡ length xs + 1
length-push [] x = refl
length-push (y ∷ xs) x = let rest : length (xs ++ x ∷ []) ≡ length xs + 1 = length-push xs x in omega arith

-- The nodes visited so far, each with its pair, and how many of them are owned.
pub record AreCounted (nodes : Nodes) (pairs : OwnerPairs) (rest : List (Bytes × Node)) (owned : ℕ) : Type 0 where
  pub before : List (Bytes × Node)
  pub all : nodes ≡ map_of (before ++ rest)
  pub apart : AreApart (before ++ rest)
  pub fits : length (before ++ rest) < 2 ^ 63
  pub listed : AreIn {R = pair_cmp} pairs (owners before)
  pub counted : owned ≡ length (owners before)
  pub few : owned ≤ length before

pub counted-first : (es : List (Bytes × Node)) → AreApart es → length es < 2 ^ 63
    → (rest : List (Bytes × Node)) → rest ≡ es
    → (nodes : Nodes) → map_of es ≡ nodes → (pairs : OwnerPairs) → AreCounted nodes pairs rest 0
counted-first es apart fits rest is nodes view pairs = record {
  before = [];
  all = sym view ∙ ap map_of (sym is);
  apart = subst (λ xs. AreApart xs) (sym is) apart;
  fits = subst (λ xs. length xs < 2 ^ 63) (sym is) fits;
  listed = tt;
  counted = refl;
  few = omega arith;
}

moved : (before : List (Bytes × Node)) (e : Bytes × Node) (rest : List (Bytes × Node))
    → before ++ e ∷ rest ≡ (before ++ e ∷ []) ++ rest
moved [] e rest = refl
moved (x ∷ before) e rest = ap (λ xs. x ∷ xs) (moved before e rest)

module _ (nodes : Nodes) (pairs : OwnerPairs) (e : Bytes × Node) (rest : List (Bytes × Node)) (n : ℕ)
    (c : AreCounted nodes pairs (e ∷ rest) n) where
  -- One more entry; its pair, if it has one, is listed.
  further : (ps : List (ℤ × Bytes)) → with_owner e [] ≡ ps → AreIn {R = pair_cmp} pairs ps → length ps ≤ 1
      → AreCounted nodes pairs rest (n + length ps)
  further ps is here most =
      let all_owners : owners (c.before ++ e ∷ []) ≡ owners c.before ++ ps =
      owners-push c.before e
      ∙ ap (λ xs. owners c.before ++ xs) is in
      let counted : n ≡ length (owners c.before) = c.counted in
      let few : n ≤ length c.before = c.few in
      let joined : length (owners c.before ++ ps) ≡ length (owners c.before) + length ps =
      length-append (owners c.before) ps in
      let sum : n + length ps ≡ length (owners c.before ++ ps) = omega arith in
      let pushed : length (c.before ++ e ∷ []) ≡ length c.before + 1 = length-push c.before e in
      record {
        before = c.before ++ e ∷ [];
        all = c.all ∙ ap map_of (moved c.before e rest);
        apart = subst (λ xs. AreApart xs) (moved c.before e rest) c.apart;
        fits = subst (λ (xs : List (Bytes × Node)). length xs < 2 ^ 63) (moved c.before e rest) c.fits;
        listed =
            subst (AreIn {R = pair_cmp} pairs) (sym all_owners) (both_in pairs (owners c.before) ps c.listed here);
        counted = sum ∙ ap length (sym all_owners);
        few = omega arith;
      }

  pub unowned : int_eq e.1.stat.ephemeral_owner (pos 0) ≡ true → AreCounted nodes pairs rest n
  unowned zero =
      let same : n + 0 ≡ n = omega arith in
      subst (AreCounted nodes pairs rest) same
      (further [] (ap (λ b. if b then [] else (e.1.stat.ephemeral_owner, e.0) ∷ []) zero) tt
      (omega arith))

  pub one_more : int_eq e.1.stat.ephemeral_owner (pos 0) ≡ false
      → set.contains pairs (e.1.stat.ephemeral_owner, e.0) ≡ true → AreCounted nodes pairs rest (n + 1)
  one_more some here =
      further ((e.1.stat.ephemeral_owner, e.0) ∷ [])
      (ap (λ b. if b then [] else (e.1.stat.ephemeral_owner, e.0) ∷ []) some) (here, tt) (omega arith)

  pub has_room : n + 1 < 2 ^ 63
  has_room =
      let few : n ≤ length c.before = c.few in
      let fits : length (c.before ++ e ∷ rest) < 2 ^ 63 = c.fits in
      let sum : length (c.before ++ e ∷ rest) ≡ length c.before + length (e ∷ rest) =
      length-append c.before (e ∷ rest) in
      omega arith

  pub not_owned : int_eq e.1.stat.ephemeral_owner (pos 0) ≡ false
      → set.contains pairs (e.1.stat.ephemeral_owner, e.0) ≡ false → IsTrue false ↔ AreOwned nodes pairs
  not_owned some missing = (
    (λ t. absurd (true≢false (sym t))),
    (λ owned. absurd (true≢false
        (sym (ap (is_owner e.1.stat.ephemeral_owner) here ∙ (λ i. not (some i) && itself i))
        ∙ sym (owned e.1.stat.ephemeral_owner e.0)
        ∙ missing))),
  )
    where
      here : finmap.get nodes e.0 ≡ Some e.1
      here = ap (λ ns. finmap.get ns e.0) c.all
          ∙ finmap.get-from_entries path_total (c.before ++ e ∷ rest) e.0
          ∙ found-at c.before e rest c.apart

      itself : int_eq e.1.stat.ephemeral_owner e.1.stat.ephemeral_owner ≡ true
      itself =
          same_session e.1.stat.ephemeral_owner e.1.stat.ephemeral_owner
          ∙ ap is_eq (tied_itself int_cmp_total e.1.stat.ephemeral_owner)

pub all_owned : (nodes : Nodes) (pairs : OwnerPairs) (n : ℕ) → AreCounted nodes pairs [] n
    → (n ≡ set.len pairs) ↔ AreOwned nodes pairs
all_owned nodes pairs n c = (
  (λ same session path.
      as_many pair_total pair_exact pairs (owners c.before) distinct c.listed (sym c.counted ∙ same) (session, path)
      ∙ owners-any c.before apart session path ∙ ap (is_owner session) (found path)),
  (λ owned.
      c.counted
      ∙ all_counted pair_total pair_exact pairs (owners c.before) distinct
      (λ q. owned q.0 q.1 ∙ sym (owners-any c.before apart q.0 q.1 ∙ ap (is_owner q.0) (found q.1)))),
)
  where
    whole : c.before ++ [] ≡ c.before
    whole = append-nil c.before

    apart : AreApart c.before
    apart = subst (λ (es : List (Bytes × Node)). AreApart es) whole c.apart

    distinct : AreDistinct pair_cmp (owners c.before)
    distinct = owners-distinct c.before apart

    found : (path : Bytes) → finmap.find path_cmp path c.before ≡ finmap.get nodes path
    found path =
        sym (finmap.get-from_entries path_total c.before path)
        ∙ ap (λ es. finmap.get (map_of es) path) (sym whole)
        ∙ ap (λ ns. finmap.get ns path) (sym c.all)
