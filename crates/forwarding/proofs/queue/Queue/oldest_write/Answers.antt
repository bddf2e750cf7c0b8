use Rattle.std.proofs.Common.{get_or, subst, sym, ap, ◌∙◌}
use Rattle.forwarding.specs.declared.request.PendingRequest.{PendingRequest}
use Rattle.forwarding.specs.Queue.{is_write}
use Rattle.forwarding.proofs.Queued.{IsFirst, none_passes, no_write, is_first, no_as_write, written_as, is_oldest_write}
use Rattle.forwarding.proofs.queue.Queue.oldest_write.Goals as goal

pub returns-in_default-clause-none : goal.returns-in_default-clause-none
returns-in_default-clause-none c =
    no_write c.args.self.now (none_passes is_write c.args.self.now (sym c.in_default.is ∙ c.write_place.ensures))

pub returns-in-None-clause-none : goal.returns-in-None-clause-none
returns-in-None-clause-none c =
    let r = c.index.result.now in
    let first : IsFirst is_write c.args.self.now c.in-Some.place r =
    is_first is_write c.args.self.now c.in-Some.place r (sym c.write_place.ensures ∙ c.in-Some.is)
    (c.index.ensures ∙ ap (λ q. get_or q c.in-Some.place r) c.self.view_is) in
    absurd (no_as_write r first.passes (sym c.in-None.is ∙ c.as_write.ensures))

pub returns-in-Some-as_write-clause-some : goal.returns-in-Some-as_write-clause-some
returns-in-Some-as_write-clause-some c =
    let r = c.index.result.now in
    let first : IsFirst is_write c.args.self.now c.in-Some.place r =
    is_first is_write c.args.self.now c.in-Some.place r (sym c.write_place.ensures ∙ c.in-Some.is)
    (c.index.ensures ∙ ap (λ q. get_or q c.in-Some.place r) c.self.view_is) in
    is_oldest_write c.args.self.now c.in-Some.place c.in-Some-as_write.write
    (subst (λ (x : PendingRequest). IsFirst is_write c.args.self.now c.in-Some.place x)
    (written_as r c.in-Some-as_write.write (sym c.in-Some-as_write.is ∙ c.as_write.ensures)) first)
