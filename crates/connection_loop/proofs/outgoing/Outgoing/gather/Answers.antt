use Rattle.std.proofs.Common.{nat_lt, true≢false, sym, ap, subst, ◌∙◌}
use Rattle.std.proofs.lemmas.Result.{err_from_is_err_and}
use Rattle.connection_loop.specs.Outgoing.{Unwritten, HasGathered}
use Rattle.connection_loop.proofs.Gathering.{one_more, one_lost, nothing_gathered, not_enough}
use Rattle.connection_loop.proofs.outgoing.Outgoing.gather.Goals as goal
use Rattle.connection_loop.proofs.outgoing.Outgoing.gather.Goals.{then-self-via-then-self, then-self-via-else-self+then-unwritten-ge-ENOUGH}

pub loop-gathered-preserved : goal.loop-gathered-preserved
loop-gathered-preserved c =
    one_more c.args.self.now c.loop-gathered.self c.put.new.self c.args.window.now c.loop-gathered.window
    c.note.new.self c.args.port.now c.loop-gathered.port c.receive.new.self c.loop-gathered.gathered c.in-Some.output c.loop-gathered.invariant
    (sym (ap (λ (u : Unwritten). u.closing) c.self.view_is) ∙ c.if-self.false) c.in-Some.ensures.some
    c.in-Some.ensures.sent c.in-Some.ensures.port c.in_ok-put.ensures.ok c.note.ensures

pub returns-in_err-put-clause-err : goal.returns-in_err-put-clause-err
returns-in_err-put-clause-err c =
    let lost = one_lost c.args.self.now c.loop-gathered.self c.put.new.self c.args.window.now c.loop-gathered.window
    c.args.port.now c.loop-gathered.port c.receive.new.self (nat_lt 0 c.loop-gathered.gathered) c.in-Some.output
    c.loop-gathered.invariant c.in-Some.ensures.some c.in-Some.ensures.sent c.in-Some.ensures.port c.in_err-put.ensures.err in
    let failed = err_from_is_err_and c.from_residual.result c.from_residual.ensures.1 in
    rw failed.1 lost

pub returns-then-self-clause-empty : goal.returns-then-self-clause-empty
returns-then-self-clause-empty c none stays =
    let at = c.loop-gathered in
    let so =
    subst (λ found. HasGathered c.args.self.now at.self c.args.window.now at.window c.args.port.now at.port found) none
    at.invariant in
    let same =
    nothing_gathered c.args.self.now at.self c.args.window.now at.window c.args.port.now at.port so in
    let closes = ap (λ (u : Unwritten). u.closing) (c.self.view_is ∙ same) ∙ stays in
    elim c.then-self.branch [
      | then-self-via-then-self w ↦ absurd (true≢false (sym w.if-self.true ∙ closes))
      | then-self-via-else-self+then-unwritten-ge-ENOUGH w ↦
          not_enough w.unwritten.result.now
          (w.unwritten.ensures ∙ ap (λ (u : Unwritten). u.bytes) same ∙ c.requires) w.if-unwritten-ge-ENOUGH.true
    ]
