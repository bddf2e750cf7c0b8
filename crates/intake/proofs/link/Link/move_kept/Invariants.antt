use Rattle.std.proofs.Common.{◌≡◌, [], length}
use Rattle.rtrb.specs.Ring.{SameProducer}
use Rattle.intake.specs.Links.{outputs_owed}
use Rattle.intake.proofs.link.Link.move_kept.Given as goal

abbrev pub invariant-loop-self : goal.invariant-loop-self
invariant-loop-self l = record {
  owes : outputs_owed l.self ≡ outputs_owed l.initial.self;
  outbox : SameProducer l.initial.self.outbox l.self.outbox;
  inbox : l.self.inbox ≡ l.initial.self.inbox;
  slot : l.self.slot ≡ l.initial.self.slot;
  none : l.initial.self.kept.items ≡ [] → l.self.kept.items ≡ [];
}

abbrev pub decreases-loop-self : goal.decreases-loop-self
decreases-loop-self l = length l.self.kept.items
