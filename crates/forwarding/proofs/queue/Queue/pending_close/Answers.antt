use mir.Val.{SFits}
use Rattle.std.proofs.Common.{rules, Some, get_or, subst, sym, ap, ◌∙◌, w32}
use Rattle.std.proofs.lemmas.Int.{to_z-of_z}
use Rattle.forwarding.specs.declared.request.PendingRequest.{PendingRequest}
use Rattle.forwarding.specs.Inner.{is_close_request}
use Rattle.forwarding.proofs.Queued.{IsFirst, none_passes, no_close, is_first, close_is_write, no_as_write, written_as, closes}
use Rattle.forwarding.proofs.queue.Queue.pending_close.Goals as goal

pub returns-in_default : goal.returns-in_default
returns-in_default c = sym
    (no_close c.args.self.now
    (none_passes is_close_request c.args.self.now (sym c.in_default.is ∙ c.close_place.ensures)))

pub returns-in-None : goal.returns-in-None
returns-in-None c =
    let r = c.index.result.now in
    let first : IsFirst is_close_request c.args.self.now c.in-Some.place r =
    is_first is_close_request c.args.self.now c.in-Some.place r (sym c.close_place.ensures ∙ c.in-Some.is)
    (c.index.ensures ∙ ap (λ q. get_or q c.in-Some.place r) c.self.view_is) in
    absurd (no_as_write r (close_is_write r first.passes) (sym c.in-None.is ∙ c.as_write.ensures))

pub returns-in-Some-as_write : goal.returns-in-Some-as_write
returns-in-Some-as_write c =
    let r = c.index.result.now in
    let first : IsFirst is_close_request c.args.self.now c.in-Some.place r =
    is_first is_close_request c.args.self.now c.in-Some.place r (sym c.close_place.ensures ∙ c.in-Some.is)
    (c.index.ensures ∙ ap (λ q. get_or q c.in-Some.place r) c.self.view_is) in
    let fits : SFits w32 c.in-Some-as_write.write.xid = search rules in
    ap Some (to_z-of_z w32 c.in-Some-as_write.write.xid fits) ∙ sym
    (closes c.args.self.now c.in-Some.place c.in-Some-as_write.write
    (subst (λ (x : PendingRequest). IsFirst is_close_request c.args.self.now c.in-Some.place x)
    (written_as r c.in-Some-as_write.write (sym c.in-Some-as_write.is ∙ c.as_write.ensures)) first))
