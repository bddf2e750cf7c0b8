use Rattle.std.proofs.lemmas.List.Filters.{dedup_is}
use Rattle.std.proofs.lemmas.List.Kept.{Contains-dedup_nat, Contains-from_dedup}
use Rattle.std.proofs.lemmas.List.Sorted.{Contains-permutation, IsPermutation-sym}
use Rattle.std.proofs.lemmas.Map.Keys.{IsStrictlyIncreasing-dedup}
use Rattle.port_hints.proofs.marks.Marks.add_to.Goals as goal

pub returns-clause-kept : goal.returns-clause-kept
returns-clause-kept c =
    let is = dedup_is _ _ _ c.dedup.ensures.filtered in
    λ n h.
    rw is
    (Contains-dedup_nat _ n
    (Contains-permutation _ _ n c.sort_unstable.ensures.permutation (c.take-taken.ensures.kept n h)))

pub returns-clause-added : goal.returns-clause-added
returns-clause-added c =
    let is = dedup_is _ _ _ c.dedup.ensures.filtered in
    let sorts = IsPermutation-sym _ _ c.sort_unstable.ensures.permutation in
    λ n h. c.take-taken.ensures.added n (Contains-permutation _ _ n sorts (Contains-from_dedup _ _ n (rw is at h)))

pub returns-clause-sorted : goal.returns-clause-sorted
returns-clause-sorted c =
    rw (dedup_is _ _ _ c.dedup.ensures.filtered) (IsStrictlyIncreasing-dedup _ c.sort_unstable.ensures.sorted)
