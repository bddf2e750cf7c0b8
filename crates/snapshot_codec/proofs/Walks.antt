-- The order of the walk keeps everything below a node together.
use Rattle.std.proofs.Common.{◌≡◌, ℕ, Bool, true, false, cond, ◌==◌, T, List, [], ◌∷◌, ◌++◌, map, refl, sym, ap, subst, ◌∙◌, arith, ltb→lt, ◌<◌}
use Rattle.std.specs.Prelude.{nat_lt}
use Rattle.std.specs.declared.cmp.Ordering.{Ordering}
use Rattle.std.specs.declared.cmp.Ordering.TheVariants.{Less, Equal, Greater}
use Rattle.std.specs.FinMap.{is_sorted}
use Rattle.std.specs.FinMap.Entries.{below_all}
use Rattle.std.specs.List.{AllByRecursion}
use Rattle.std.specs.List.Sorted.{IsStrictlySortedBy}
use Rattle.std.specs.Ordering.{is_lt, nat_cmp, on, ordering_reverse, ordering_then}
use Rattle.std.proofs.lemmas.Bool.{eqb-true}
use Rattle.ephemerals.specs.Orders.{Bytes}
use Rattle.node_map.specs.Nodes.{Nodes}
use Rattle.node_map.specs.declared.node.Node.{Node}
use Rattle.snapshot_codec.specs.Walks.{IsBelow, IsWalk}
use Rattle.snapshot_codec.specs.Written.{byte_rank, walk_cmp, walk_of}
use Rattle.snapshot_codec.proofs.WalkOrder.{first, second, less, less_at, rank_exact, rank_exact_cmp, rank_total, walk_total, walk_find, walk_sorted}

is_less : (o : Ordering) → o ≡ Less → T (is_lt o)
is_less o e = subst (λ (x : Ordering). T (is_lt x)) (sym e) tt

-- A byte that isn't above the slash is the slash.
only_slash : (c : ℕ) (y t : Bytes) → walk_cmp (c ∷ y) (47 ∷ t) ≡ Less → c ≡ 47
only_slash c y t l = by (nat_lt (byte_rank c) 0) (byte_rank c == 0) refl refl l
  where
    by : (lesser same : Bool) → nat_lt (byte_rank c) 0 ≡ lesser → (byte_rank c == 0) ≡ same
        → ordering_then (cond lesser Less (cond same Equal Greater)) (walk_cmp y t) ≡ Less → c ≡ 47
    by true same e f k =
        let none : byte_rank c < 0 = ltb→lt (byte_rank c) 0 (subst T (sym e) tt) in
        absurd (omega arith)
    by false true e f k = rank_exact c 47 (eqb-true (byte_rank c) 0 f)
    by false false e f k = absurd (is_less Greater k)

between_below : (p y t : Bytes) → walk_cmp p y ≡ Less → walk_cmp y (p ++ 47 ∷ t) ≡ Less → IsBelow p y
between_below [] [] t l m = absurd (is_less Equal l)
between_below [] (c ∷ y) t l m = (y, ap (λ (n : ℕ). n ∷ y) (only_slash c y t m))
between_below (a ∷ p) [] t l m = absurd (is_less Greater l)
between_below (a ∷ p) (c ∷ y) t l m =
    by (between_below p y t) (on byte_rank nat_cmp a c) refl l (ap (λ r. ordering_then r (walk_cmp y (p ++ 47 ∷ t)))
    (sym (rank_total.antisymm c a)) ∙ m)
  where
    by : (walk_cmp p y ≡ Less → walk_cmp y (p ++ 47 ∷ t) ≡ Less → IsBelow p y) → (o : Ordering)
        → on byte_rank nat_cmp a c ≡ o → ordering_then o (walk_cmp p y) ≡ Less
        → ordering_then (ordering_reverse o) (walk_cmp y (p ++ 47 ∷ t)) ≡ Less → IsBelow (a ∷ p) (c ∷ y)
    by later Less e k n = absurd (is_less Greater n)
    by later Equal e k n =
        let b = later k n in
        (b.0, λ i. sym (rank_exact_cmp a c e) i ∷ b.1 i)
    by later Greater e k n = absurd (is_less Greater k)

sorted_behind : (xs ys : List (Bytes × Node)) → T (is_sorted walk_cmp (xs ++ ys)) → T (is_sorted walk_cmp ys)
sorted_behind [] ys h = h
sorted_behind (x ∷ xs) ys h =
    sorted_behind xs ys (second (below_all walk_cmp x.0 (xs ++ ys)) (is_sorted walk_cmp (xs ++ ys)) h)

all_above : (k : Bytes) (es : List (Bytes × Node)) → T (below_all walk_cmp k es)
    → AllByRecursion (λ y. walk_cmp k y ≡ Less) (map (λ (e : Bytes × Node). e.0) es)
all_above k [] h = tt
all_above k (e ∷ es) h = (
  less (walk_cmp k e.0) (first (is_lt (walk_cmp k e.0)) (below_all walk_cmp k es) h),
  all_above k es (second (is_lt (walk_cmp k e.0)) (below_all walk_cmp k es) h),
)

keys_ascend : (es : List (Bytes × Node)) → T (is_sorted walk_cmp es)
    → IsStrictlySortedBy walk_cmp (map (λ (e : Bytes × Node). e.0) es)
unfolding IsStrictlySortedBy
keys_ascend [] h = tt
keys_ascend (e ∷ es) h = (
  all_above e.0 es (first (below_all walk_cmp e.0 es) (is_sorted walk_cmp es) h),
  keys_ascend es (second (below_all walk_cmp e.0 es) (is_sorted walk_cmp es) h),
)

pub nodes_are_walked : (nodes : Nodes) → IsWalk nodes (walk_of nodes)
nodes_are_walked nodes = record {
  nodes_found = walk_find nodes;
  ascends = keys_ascend (walk_of nodes) (walk_sorted nodes);
  together = λ before between behind rest x y z is below.
      let others = behind ++ z ∷ rest in
      let from_x = sorted_behind before (x ∷ (between ++ y ∷ others))
      (subst (λ (l : List (Bytes × Node)). T (is_sorted walk_cmp l)) is (walk_sorted nodes)) in
      let above_x = first (below_all walk_cmp x.0 (between ++ y ∷ others))
      (is_sorted walk_cmp (between ++ y ∷ others)) from_x in
      let from_y = sorted_behind between (y ∷ others)
      (second (below_all walk_cmp x.0 (between ++ y ∷ others)) (is_sorted walk_cmp (between ++ y ∷ others)) from_x) in
      let above_y = first (below_all walk_cmp y.0 others) (is_sorted walk_cmp others) from_y in
      between_below x.0 y.0 below.0 (less_at walk_total x.0 between y others above_x)
      (ap (walk_cmp y.0) (sym below.1) ∙ less_at walk_total y.0 behind z rest above_y);
}
