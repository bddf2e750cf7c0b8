use Rattle.std.proofs.Common.{sym, ◌∙◌}
use Rattle.zoo_config.proofs.Places.{sign_boundary}
use Rattle.zoo_config.proofs.form.without_sign.Goals as goal

pub range_from-requires : goal.range_from-requires
range_from-requires c =
    λ _. sign_boundary c.args.text.now c.utf8.text (sym c.begins_with_sign.ensures ∙ c.if-begins_with_sign.true)
