use Rattle.std.proofs.Common.{string_bytes, ◌-◌, ◌^◌, sym, ap, ◌∙◌}
use Rattle.texts.specs.Number.{number_up_to}
use Rattle.replay.specs.Command.{with_option}
use Rattle.replay.proofs.Options.{after_pair}
use Rattle.replay.proofs.command.limits_after.Goals as goal

pub loop-rest-preserved : goal.loop-rest-preserved
loop-rest-preserved c =
    after_pair string_bytes c.loop-rest.given c.in_ok-given.given c.in_ok-number.number c.loop-rest.rest.now
    c.name-item.result c.text-item.result c.in-len2-up.len_at_least c.name-item.is c.text-item.is
    (ap (number_up_to (2 ^ 64 - 1)) (sym c.as_bytes.ensures.value) ∙ sym c.number_up_to.ensures.value ∙ c.in_ok-number.was)
    (ap (λ n. with_option c.loop-rest.given n c.in_ok-number.number) (sym c.as_str.ensures.value)
    ∙ sym c.with_option.ensures ∙ c.in_ok-given.was)
    ∙ c.loop-rest.invariant
