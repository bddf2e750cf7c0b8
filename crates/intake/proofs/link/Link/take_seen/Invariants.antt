use Rattle.std.proofs.Common.{◌≡◌, ◌++◌, length}
use Rattle.rtrb.specs.Ring.{received, known_items, SameConsumer}
use Rattle.intake.specs.Messages.{messages_of_port}
use Rattle.intake.proofs.link.Link.take_seen.Given as goal

abbrev pub invariant-loop-self : goal.invariant-loop-self
invariant-loop-self l = record {
  list : l.fresh.items ++ messages_of_port l.number (known_items l.self.inbox)
      ≡ l.initial.fresh.items ++ messages_of_port l.number (known_items l.initial.self.inbox);
  took : received l.self.inbox ++ known_items l.self.inbox
      ≡ received l.initial.self.inbox ++ known_items l.initial.self.inbox;
  inbox : SameConsumer l.initial.self.inbox l.self.inbox;
  outbox : l.self.outbox ≡ l.initial.self.outbox;
  kept : l.self.kept ≡ l.initial.self.kept;
  slot : l.self.slot ≡ l.initial.self.slot;
}

abbrev pub decreases-loop-self : goal.decreases-loop-self
decreases-loop-self l = length (known_items l.self.inbox)
