use Rattle.std.proofs.Common.{get_or, slice_set, sym, ap, ◌∙◌}
use Rattle.forwarding.specs.Queue.{is_unsettled}
use Rattle.forwarding.proofs.Queued.{IsFirst, none_passes, is_first, none_settles, settles}
use Rattle.forwarding.proofs.queue.Queue.settle.Goals as goal

pub returns-in_default : goal.returns-in_default
returns-in_default c =
    none_settles c.args.self.now
    (none_passes is_unsettled c.args.self.now (sym c.in_default.is ∙ c.unsettled_place.ensures))

pub returns : goal.returns
returns c =
    let r = c.index_mut.result.now in
    let first : IsFirst is_unsettled c.args.self.now c.in-Some.place r =
    is_first is_unsettled c.args.self.now c.in-Some.place r (sym c.unsettled_place.ensures ∙ c.in-Some.is)
    (c.index_mut.ensures.value ∙ ap (λ q. get_or q c.in-Some.place r) c.self.view_is) in
    (λ i. slice_set (c.self.view_is i) c.in-Some.place (c.settle.ensures i))
    ∙ settles c.args.self.now c.in-Some.place r first
