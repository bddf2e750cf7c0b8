use Rattle.std.proofs.Common.{◌+◌, ℕ, List, Ok, drop, ap, subst, sym, ◌∙◌}
use Rattle.std.proofs.lemmas.List.{drop-drop, take_rest}
use Rattle.quorum_packet.specs.Lending.{Lent}
use Rattle.quorum_packet.specs.Steps.{ReadsFront}
use Rattle.quorum_packet.proofs.Finding.{found_goes, step_found, step_of}
use Rattle.quorum_packet.proofs.lending.LentItems.step.Goals as goal
use Rattle.quorum_packet.proofs.lending.LentItems.step.Goals.{in-None, in-Some-found}

pub returns-after-found-clause-steps : goal.returns-after-found-clause-steps
returns-after-found-clause-steps c =
    let old = c.self.inside in
    let bytes = drop old.used old.source.now in
    let front = subst (λ (b : List ℕ). ReadsFront (Ok (c.in-Ok.found, c.in-Ok.used)) old.progress.phase
    c.read_front.new.phase b) (take_rest old.source.now old.used) c.in-Ok.ensures.front in
    let goes = found_goes bytes old.progress.phase c.read_front.new.phase old.progress.fault
    c.args.self.now.place (ap (λ (l : Lent). l.place) c.self.view_is) c.in_default.not-Some
    (drop (old.used + c.in-Ok.used) old.source.now) c.in-Ok.used c.in-Ok.found front
    (sym (drop-drop c.in-Ok.used old.used old.source.now)) in
    elim c.match-found.branch [
      | in-None w ↦ step_found c.in-Ok.found c.match-found.result c.args.self.now.place _
          (w.result-is ∙ ap step_of (sym w.in-None.is)) goes
      | in-Some-found w ↦ step_found c.in-Ok.found c.match-found.result c.args.self.now.place _
          (w.result-is ∙ ap step_of (sym w.in-Some-found.is)) goes
    ]
