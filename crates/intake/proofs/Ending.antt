-- The ends of open ports stay.
use Rattle.std.proofs.Common.{◌≡◌, ◌<◌, ◌+◌, ℕ, Option, Some, None, Result, Ok, Err, sym, subst, inl, inr, arith}
use Rattle.std.specs.FinMap as finmap
use Rattle.world.proofs.NatMaps.{get-kept}
use Rattle.observer_core.specs.Machine.{Machine}
use Rattle.observer_core.specs.declared.engine.Stop.{Stop}
use Rattle.observer_core.specs.declared.engine.Stop.TheVariants as stops
use Rattle.intake.specs.declared.link.Link.{Link}
use Rattle.intake.specs.declared.port.PortEnd.{PortEnd}
use Rattle.intake.specs.Ports.{SamePort}
use Rattle.intake.specs.Links.{IsEndBy, StaysOpen, AllStay}
use Rattle.intake.specs.Desk.{Desk, AddsPort, TakesNothing, AnswersTurn}
use Rattle.intake.specs.Hub.{Hub, TurnsHub}
use Rattle.intake.specs.Ends.{IsOpenEnd, EndsStay}
use Rattle.intake.proofs.Keeping.{ring_on, ring_over}

-- ---- of one port

stays_end : (end : PortEnd) (x y : Option Link) → StaysOpen x y → IsEndBy end x → IsEndBy end y
stays_end end None y s is = absurd is
stays_end end (Some x) None s is = absurd s
stays_end end (Some x) (Some y) s is = (
  ring_on end.inbox.end x.inbox.end y.inbox.end is.0 s.inbox.0,
  ring_over x.outbox.end y.outbox.end end.outbox.end s.outbox.0 is.1,
)

moved_end : (old new : PortEnd) (o : Option Link) → SamePort old new → IsEndBy old o → IsEndBy new o
moved_end old new None s is = is
moved_end old new (Some l) s is = (
  ring_over old.inbox.end new.inbox.end l.inbox.end s.inbox.0 is.0,
  ring_on l.outbox.end old.outbox.end new.outbox.end is.1 s.outbox.0,
)

-- ---- of a desk

-- The port's ends are the same in another desk.
same_end : (end : PortEnd) (old new : Desk) → finmap.get new.links end.number ≡ finmap.get old.links end.number
    → end.number < new.next → IsOpenEnd end old → IsOpenEnd end new
same_end end old new same number live = record {
  is_end = (let P : Option Link → Type 0 = λ o. IsEndBy end o in subst P (sym same) live.is_end);
  number = number;
}

moves : (d : Desk) (old new : PortEnd) → SamePort old new → IsOpenEnd old d → IsOpenEnd new d
moves d old new s live =
    let P : ℕ → Type 0 = λ n. IsEndBy new (finmap.get d.links n) in
    let below : old.number < d.next = live.number in
    let same : new.number ≡ old.number = s.number in
    record {
      is_end = subst P (sym same) (moved_end old new (finmap.get d.links old.number) s live.is_end);
      number = omega arith;
    }

adds : (end : PortEnd) (old new : Desk) (port : PortEnd) → AddsPort old port new → IsOpenEnd end old
    → IsOpenEnd end new
adds end old new port added live =
    let below : end.number < old.next = live.number in
    let number : port.number ≡ old.next = added.number in
    let next : new.next ≡ old.next + 1 = added.next in
    same_end end old new (added.others end.number (λ e. omega arith)) (omega arith) live

stays : (end : PortEnd) (old new : Desk) → AllStay old.links new.links → new.next ≡ old.next → IsOpenEnd end old
    → IsOpenEnd end new
stays end old new all next live =
    let below : end.number < old.next = live.number in
    record {
      is_end = stays_end end (finmap.get old.links end.number) (finmap.get new.links end.number) (all.at end.number)
          live.is_end;
      number = omega arith;
    }

waits : (end : PortEnd) (old new : Desk) → TakesNothing old new → IsOpenEnd end old → IsOpenEnd end new
waits end old new w live = stays end old new w.links.stay w.next live

-- ---- a turn

turned : (end : PortEnd) (result : Result ℕ Stop) (o : Option Machine) (old new : Desk) → AnswersTurn result o old new
    → IsOpenEnd end old → IsOpenEnd end new
turned end (Ok count) (Some m) old new t live = stays end old new t.1.stay t.1.next live
turned end (Ok count) None old new t live = absurd t
turned end (Err stops.NoMemory) (Some m) old new t live = elim t [
  | inl closed ↦ stays end old new closed.1.stay closed.1.next live
  | inr refused ↦ waits end old new refused.1 live
]
turned end (Err stops.NoMemory) None old new t live = absurd t
turned end (Err stops.Closed) (Some m) old new t live = absurd t
turned end (Err stops.Closed) None old new t live = waits end old new t.1 live

turned_hub : (end : PortEnd) (result : Result ℕ Stop) (old new : Hub) → TurnsHub result old new
    → IsOpenEnd end old.desk → IsOpenEnd end new.desk
turned_hub end (Ok count) old new t live =
    let after = turned end (Ok count) old.desk.machine old.desk t.0 t.1.turn live in
    let P : Desk → Type 0 = λ d. IsOpenEnd end d in
    subst P (sym t.1.desk) (record { is_end = after.is_end; number = after.number })
turned_hub end (Err stop) old new t live = turned end (Err stop) old.desk.machine old.desk new.desk t.desk live

-- ---- all steps

pub ends_stay : EndsStay
ends_stay = record {
  opens = λ old new port added. record {
    is_end = added.end;
    number = (let number : port.number ≡ old.next = added.number in
        let next : new.next ≡ old.next + 1 = added.next in omega arith);
  };
  moves = moves;
  adds = adds;
  turns = λ end result old new t live. turned end result old.machine old new t live;
  turns_hub = turned_hub;
  waits = waits;
  closes = λ end old n apart live.
      same_end end old (record old { links = finmap.remove old.links n }) (get-kept old.links n end.number apart)
      live.number live;
}
