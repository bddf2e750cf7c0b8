use Rattle.std.proofs.Common.{refl, sym, ap, ◌∙◌, length}
use Rattle.std.specs.Prelude.{nat_lt, position}
use Rattle.std.specs.List.{position_or_len}
use Rattle.zoo_config.specs.Form.{ends_key}
use Rattle.zoo_config.proofs.Places.{some_end, no_end}
use Rattle.zoo_config.proofs.form.key_length.Goals as goal

pub returns-in-Some : goal.returns-in-Some
returns-in-Some c =
    some_end c.args.text.now _ c.in-Some.place
    (ap (position ends_key) (sym c.as_bytes.ensures.value) ∙ sym c.key_end.ensures ∙ c.in-Some.is)

pub returns-in-None : goal.returns-in-None
returns-in-None c =
    no_end c.args.text.now (nat_lt (position_or_len ends_key c.args.text.now) (length c.args.text.now)) refl
    (ap (position ends_key) (sym c.as_bytes.ensures.value) ∙ sym c.key_end.ensures ∙ c.in-None.is)
