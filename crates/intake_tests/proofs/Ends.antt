-- The end of a finished port is still that of an open port, after messages went through it and after a turn.
use Rattle.std.proofs.Common.{◌≡◌, ℕ, Option, Some, None, Result, Ok, Err, ap, sym, ◌∙◌, subst}
use Rattle.std.specs.FinMap as finmap
use Rattle.observer_core.specs.Machine.{Machine}
use Rattle.observer_core.specs.declared.engine.Stop.{Stop}
use Rattle.intake.specs.declared.link.Link.{Link}
use Rattle.intake.specs.declared.port.PortEnd.{PortEnd}
use Rattle.intake.specs.Ports.{SamePort}
use Rattle.intake.specs.Links.{Links, IsEnd, IsEndBy, StaysOpen, AllStay}
use Rattle.intake.specs.Desk.{Desk, AnswersTurn}
use Rattle.intake.specs.Hub.{Hub, TurnsHub}

-- Both are equal to the same value.
moved : {X : Type 0} (a b c d : X) → b ≡ a → c ≡ a → d ≡ b → d ≡ c
moved a b c d one other later = later ∙ one ∙ sym other

end_kept : (port later : PortEnd) (old new : Option Link) → IsEndBy port old → SamePort port later → StaysOpen old new
    → IsEndBy later new
end_kept port later None new is_end same stays = elim is_end [ ]
end_kept port later (Some l) None is_end same stays = elim stays [ ]
end_kept port later (Some l) (Some k) (inbox, outbox) same stays = (
  (
    moved port.inbox.end.words l.inbox.end.words later.inbox.end.words k.inbox.end.words inbox.0 same.inbox.0.0
        stays.inbox.0.0,
    moved port.inbox.end.slots l.inbox.end.slots later.inbox.end.slots k.inbox.end.slots inbox.1 same.inbox.0.1
        stays.inbox.0.1,
    moved port.inbox.end.names l.inbox.end.names later.inbox.end.names k.inbox.end.names inbox.2 same.inbox.0.2
        stays.inbox.0.2,
    moved port.inbox.end.heap l.inbox.end.heap later.inbox.end.heap k.inbox.end.heap inbox.3 same.inbox.0.3
        stays.inbox.0.3,
  ),
  (
    moved l.outbox.end.words port.outbox.end.words k.outbox.end.words later.outbox.end.words outbox.0 stays.outbox.0.0
        same.outbox.0.0,
    moved l.outbox.end.slots port.outbox.end.slots k.outbox.end.slots later.outbox.end.slots outbox.1 stays.outbox.0.1
        same.outbox.0.1,
    moved l.outbox.end.names port.outbox.end.names k.outbox.end.names later.outbox.end.names outbox.2 stays.outbox.0.2
        same.outbox.0.2,
    moved l.outbox.end.heap port.outbox.end.heap k.outbox.end.heap later.outbox.end.heap outbox.3 stays.outbox.0.3
        same.outbox.0.3,
  ),
)

pub is_end_kept : (port later : PortEnd) (old new : Links) → IsEnd port old → SamePort port later → AllStay old new
    → IsEnd later new
is_end_kept port later old new is_end same stay =
    let P : ℕ → Type 0 = λ n. IsEndBy later (finmap.get new n) in
    subst P (sym same.number)
    (end_kept port later (finmap.get old port.number) (finmap.get new port.number) is_end same (stay.at port.number))

pub all_stay_in_a_turn : (took : ℕ) (m : Option Machine) (old new : Desk) → AnswersTurn (Ok took) m old new
    → AllStay old.links new.links
all_stay_in_a_turn took (Some m) old new turns = turns.1.stay
all_stay_in_a_turn took None old new turns = elim turns [ ]

pub all_stay_in_a_hubs_turn : (took : ℕ) (old new : Hub) → TurnsHub (Ok took) old new
    → AllStay old.desk.links new.desk.links
all_stay_in_a_hubs_turn took old new (turned, turn) =
    let P : Links → Type 0 = λ l. AllStay old.desk.links l in
    subst P (sym (ap (λ (d : Desk). d.links) turn.desk))
    (all_stay_in_a_turn took old.desk.machine old.desk turned turn.turn)
