use Rattle.std.proofs.Common.{◌∙◌, sym, subst}
use Rattle.intake.specs.Messages.{ComeByNumber}
use Rattle.intake.specs.Desk.{Desk, TakesTurn}
use Rattle.intake.proofs.Turning.{served, served_in_order}
use Rattle.intake.proofs.desk.Desk.serve.Goals as goal

pub returns-clause-turn : goal.returns-clause-turn
returns-clause-turn g c = λ m machine fresh full.
    let P : Desk → Type 0 = λ d. TakesTurn m c.args.self.now d in
    subst P (sym c.self.view_is)
    (served m c.as_slice.result.now c.args.self.now c.queue-queue.new.self c.serve_leader.new.self
    c.serve_clients.new.self c.queue-queue.ensures.desk (c.as_slice.ensures.value ∙ c.queue-queue.ensures.queue)
    (c.in_ok-serve_leader.ensures.ok m) c.in_ok-serve_clients.ensures.ok machine fresh full)

pub returns-clause-order : goal.returns-clause-order
returns-clause-order g c = λ fresh up.
    let P : Desk → Type 0 = λ d. ComeByNumber d.fresh in
    subst P (sym c.self.view_is)
    (served_in_order c.as_slice.result.now c.args.self.now c.queue-queue.new.self c.serve_leader.new.self
    c.serve_clients.new.self c.queue-queue.ensures.desk (c.as_slice.ensures.value ∙ c.queue-queue.ensures.queue)
    c.in_ok-serve_leader.ensures.own c.in_ok-serve_clients.ensures.ok fresh up)
