use Rattle.std.proofs.Common.{◌≡◌, ℕ, ◌+◌, ◌%◌, ◌^◌, List, Bool, true, false, cond, refl, sym, ap, ◌∙◌, arith}
use Rattle.std.specs.FinMap as finmap
use Rattle.std.specs.List.{count_by, sum_by}
use Rattle.std.specs.List.Sorted.{IsPermutation}
use Rattle.std.specs.Map.{keys_of}
use Rattle.std.proofs.lemmas.List.Recursion.{is_count_by}
use Rattle.std.proofs.lemmas.List.Sorted.{IsPermutation-map, sum_by-IsPermutation}
use Rattle.std.proofs.lemmas.List.Sums.{sum_by-cons}
use Rattle.node_map.specs.declared.node.Node.{Node}
use Rattle.read_processor.specs.LaterReads.{is_below, nodes_below}
use Rattle.read_processor.proofs.later_reads.nodes_below.Goals as goal

abbrev Bytes : Type 0
Bytes = List ℕ

module _ (p : Bytes → Bool) where
  abbrev ones : List Bytes → ℕ
  ones xs = sum_by (λ x. cond (p x) 1 0) xs

  counted : (xs : List Bytes) → ones xs ≡ count_by p xs
  counted xs = is_count_by ones p refl (λ y ys. sum_by-cons (λ x. cond (p x) 1 0) y ys ∙ by (p y) (ones ys)) xs
    where
      by : (b : Bool) (n : ℕ) → cond b 1 0 + n ≡ cond b (1 + n) n
      by true n = refl
      by false n = omega arith

  -- The order in which paths come doesn't count.
  same_count : (xs ys : List Bytes) → IsPermutation xs ys → count_by p ys ≡ count_by p xs
  same_count xs ys moved =
      sym (counted ys) ∙ sum_by-IsPermutation (λ x. cond (p x) 1 0) xs ys moved ∙ counted xs

none_yet : (n : ℕ) → 0 + n ≡ n
none_yet n = omega arith

pub loop-other-init : goal.loop-other-init
loop-other-init c =
    let nodes = c.args.tree.now.nodes in
    let below = is_below c.args.path.now in
    let all = c.nodes-other-items.result in
    let same : count_by below (keys_of all) ≡ nodes_below c.args.tree.now c.args.path.now =
    same_count below (finmap.keys nodes) (keys_of all)
    (IsPermutation-map (λ (e : Bytes × Node). e.0) (finmap.entries nodes) all c.nodes-other-items.ensures.entries) in (
      tt,
      tt,
      ap (λ (n : ℕ). n % 2 ^ 32)
          (none_yet (count_by below (keys_of c.into_iter-other-iterator.result))
          ∙ ap (λ (es : List (Bytes × Node)). count_by below (keys_of es))
          c.into_iter-other-iterator.ensures.into_iter_gives
          ∙ same),
    )
