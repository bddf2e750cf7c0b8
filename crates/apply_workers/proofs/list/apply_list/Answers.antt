use Rattle.std.proofs.Common.{◌≡◌, ◌++◌, take, sym, ap, ◌∙◌}
use Rattle.data_tree.specs.Meaning.{state_after, outcomes_of_txns}
use Rattle.apply_workers.proofs.AppendedLists.{part_applied}
use Rattle.apply_workers.proofs.list.apply_list.Goals as goal

pub loop-rest-preserved-in-None : goal.loop-rest-preserved-in-None
loop-rest-preserved-in-None g c = record {
  applied = part_applied _ _ _ c.loop-rest.tree c.loop-rest.rest.now c.loop-rest.outcomes.items
      c.split_at.result.0.now c.split_at.result.1.now _ _ c.loop-rest.invariant.applied c.split_at.ensures.by_index.0
      c.in_ok-apply_onto-in-None.ensures.tree c.in_ok-apply_onto-in-None.ensures.outcomes;
  next = c.in_ok-next-in-None.ensures;
}

pub loop-rest-preserved : goal.loop-rest-preserved
loop-rest-preserved g c =
    let s = c.loop-rest.tree in
    let rest = c.loop-rest.rest.now in
    let part = c.split_at-in-Some.result.0.now in
    let before = c.loop-rest.outcomes.items in
    let cut : part ≡ take c.in-Some.front.count rest =
    c.split_at-in-Some.ensures.front ∙ ap (λ n. take n rest) c.len.ensures in
    let lent : c.lend-batch.result ≡ part = c.lend-batch.ensures ∙ sym cut in
    let done = c.in_ok-next-in-Some.ensures in
    record {
      applied = part_applied _ _ _ s rest before part c.split_at-in-Some.result.1.now _ _
          c.loop-rest.invariant.applied c.split_at-in-Some.ensures.by_index.0
          (done.tree ∙ ap (state_after s) lent)
          (done.outcomes ∙ ap (λ ts. before ++ outcomes_of_txns s ts) lent);
      next = done.next;
    }
