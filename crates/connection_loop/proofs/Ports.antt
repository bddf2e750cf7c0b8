-- The same port, and again the same.
use Rattle.std.proofs.Common.{refl, ◌∙◌}
use Rattle.intake.specs.declared.port.PortEnd.{PortEnd}
use Rattle.intake.specs.Ports.{SamePort}

pub same_port : (before came after : PortEnd) → SamePort before came → SamePort came after → SamePort before after
same_port before came after first then =
    let a = first.inbox.0 in
    let b = then.inbox.0 in
    let c = first.outbox.0 in
    let d = then.outbox.0 in
    record {
      number = then.number ∙ first.number;
      inbox = ((b.0 ∙ a.0, b.1 ∙ a.1, b.2 ∙ a.2, b.3 ∙ a.3), then.inbox.1 ∙ first.inbox.1);
      outbox = ((d.0 ∙ c.0, d.1 ∙ c.1, d.2 ∙ c.2, d.3 ∙ c.3), then.outbox.1 ∙ first.outbox.1);
    }

pub same_itself : (port : PortEnd) → SamePort port port
same_itself port = record {
  number = refl;
  inbox = ((refl, refl, refl, refl), refl);
  outbox = ((refl, refl, refl, refl), refl);
}
