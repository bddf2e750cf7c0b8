use Rattle.std.proofs.Common.{◌≡◌, ℕ, List, Result, ◌++◌, ap, sym, ◌∙◌, subst}
use Rattle.observer_core.specs.declared.engine.Stop.{Stop}
use Rattle.intake.specs.Messages.{PortMessage}
use Rattle.intake.specs.Steps.{BeginsTurn}
use Rattle.intake.specs.Hub.{Hub, TurnsHub}
use Rattle.intake.proofs.Turning.{answers_ok}
use Rattle.intake.proofs.Hubs.{closed_turn}
use Rattle.intake.proofs.hub.Hub.turn.Goals as goal
use Rattle.intake.proofs.hub.Hub.turn.Goals.{in-Err-hand_over, in-Ok-hand_over}

pub returns-after-hand_over : goal.returns-after-hand_over
returns-after-hand_over g c =
    let old : Hub = c.args.self.now in
    let new : Hub = record {
      desk = c.hand_over.new.self;
      taken = c.hand_over.new.taken.items;
      since = c.self.inside.since.items;
    } in
    let P : Hub → Type 0 = λ h. BeginsTurn old.desk h.desk in
    let Q : Result ℕ Stop → Type 0 = λ r. TurnsHub r old new in
    let begins = subst P (sym c.self.view_is) c.in_ok-prepare.ensures.ok in
    let taken : c.self.inside.taken.items ≡ old.taken =
    ap (λ (h : Hub). h.taken) c.self.view_is ∙ c.prepare.ensures.list.0 in
    let since : new.since ≡ old.since = ap (λ (h : Hub). h.since) c.self.view_is ∙ c.prepare.ensures.list.1 in
    let turn = answers_ok c.in-Ok.count old.desk c.self.inside.desk c.serve.new.self begins c.in-Ok.ensures.turn
    c.in-Ok.ensures.count in
    elim c.match-hand_over.branch [
      | in-Err-hand_over w ↦ subst Q (sym w.result-is) (record {
        desk = closed_turn old.desk.machine old.desk c.serve.new.self new.desk c.in-Ok.count turn
            w.in-Err-hand_over.ensures.keeps w.in-Err-hand_over.ensures.closed;
        taken = ◌∙◌ {A = List PortMessage} w.in-Err-hand_over.ensures.kept taken;
        since = since;
      })
      | in-Ok-hand_over w ↦ subst Q (sym w.result-is) (
        c.serve.new.self,
        record {
          turn = turn;
          order = c.in-Ok.ensures.order begins.fresh begins.sorted;
          desk = w.in-Ok-hand_over.ensures.desk;
          taken = ◌∙◌ {A = List PortMessage} w.in-Ok-hand_over.ensures.taken
              (ap (λ l. l ++ c.serve.new.self.fresh) taken);
          since = since;
        },
      )
    ]
