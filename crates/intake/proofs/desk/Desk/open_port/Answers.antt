use Rattle.std.proofs.Common.{ℕ, List, ap, sym, ◌∙◌, subst, refl, rules}
use Rattle.rtrb.specs.Ring.{sent, received, known_items, consumer_capacity}
use Rattle.intake.specs.declared.port.PortEnd.{PortEnd}
use Rattle.intake.specs.Ports.{HasRoom}
use Rattle.intake.specs.Desk.{AddsPort}
use Rattle.intake.proofs.Adding.{AreNew, seen_desk, added}
use Rattle.intake.proofs.Slots.{sound_added}
use Rattle.intake.proofs.desk.Desk.open_port.Goals as goal

pub returns-clause-ok : goal.returns-clause-ok
returns-clause-ok c =
    let end : PortEnd = record {
      number = c.self.inside.next;
      inbox = c.in_ok-to_hub.to_hub;
      outbox = c.in_ok-outbox.from_hub;
    } in
    let link = c.new-link.result in
    let inbox = c.new-link.ensures.ends.0 in
    let outbox = c.new-link.ensures.ends.1 in
    let new : AreNew end link = record {
      inbox = rw inbox c.in_ok-to_hub.ensures.pair;
      outbox = rw outbox c.in_ok-outbox.ensures.pair;
      room = ap (λ i. consumer_capacity i) inbox ∙ c.in_ok-to_hub.ensures.consumer.2
          ∙ sym c.in_ok-to_hub.ensures.producer.2;
      no_sent = c.in_ok-to_hub.ensures.producer.0;
      no_taken = ap (λ i. received i) inbox ∙ c.in_ok-to_hub.ensures.consumer.0;
      no_seen = ap (λ i. known_items i) inbox ∙ c.in_ok-to_hub.ensures.consumer.1;
      no_put = ap (λ o. sent o) outbox ∙ c.in_ok-outbox.ensures.producer.0;
      no_received = c.in_ok-outbox.ensures.consumer.0;
      no_kept = c.new-link.ensures.ends.2;
    } in
    let P : List ℕ → Type 0 = λ later. AddsPort c.args.self.now c.new-3.result
    (seen_desk c.self.inside.closed c.self.inside.engine c.add-2.new.self c.in-Some.next c.self.inside.fresh.items
    later) in
    subst P (sym c.reserve-2.ensures)
    (added c.self.inside.closed c.self.inside.engine c.self.inside.links c.add-2.new.self c.self.inside.next
    c.in-Some.next
    c.self.inside.fresh.items c.self.inside.later.items end c.new-3.result link c.args.self.now c.self.view_is c.new-3.ensures new refl
    c.in-Ok.ensures.ok (search rules))

pub returns-clause-room : goal.returns-clause-room
returns-clause-room c =
    let P : PortEnd → Type 0 = λ e. HasRoom c.args.capacity e in
    subst P (sym c.new-3.ensures) (record {
      messages = c.in_ok-to_hub.ensures.producer.1;
      inbox = c.in_ok-to_hub.ensures.producer.2;
      outbox = c.in_ok-outbox.ensures.consumer.2;
    })

pub invariant_of-self-2 : goal.invariant_of-self-2
invariant_of-self-2 c =
    sound_added c.self.inside.closed c.self.inside.engine c.self.inside.links c.add-2.new.self c.self.inside.next
    c.in-Some.next c.self.inside.marks.slots c.add.new.self.slots c.in_ok-slot.slot c.new-link.result c.in-Ok.ensures.ok
    (search rules) c.new-link.ensures.slot c.in_ok-slot.ensures.free c.in_ok-slot.ensures.given c.self.invariant
