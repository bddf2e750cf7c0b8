use Rattle.std.proofs.Common.{sym, subst}
use Rattle.std.specs.Str.{IsCharBoundary}
use Rattle.zoo_config.proofs.Places.{key_boundary}
use Rattle.zoo_config.proofs.form.entry_of.Goals as goal

pub range-requires-clause-end_boundary : goal.range-requires-clause-end_boundary
range-requires-clause-end_boundary c =
    subst (λ n. IsCharBoundary c.as_str-text.result.now n) (sym c.key_length-length.ensures)
    (key_boundary c.as_str-text.result.now)

pub range_from-requires : goal.range_from-requires
range_from-requires c =
    λ _.
    subst (λ n. IsCharBoundary c.as_str-text.result.now n) (sym c.key_length-length.ensures)
    (key_boundary c.as_str-text.result.now)
