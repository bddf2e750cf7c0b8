use Rattle.std.proofs.Common.{sym, subst}
use Rattle.std.specs.List.{IsDistinct}
use Rattle.std.specs.Str.{bytes_eq}
use Rattle.pairs.proofs.OneText.{distinct-none, distinct-one}
use Rattle.pairs.proofs.text_table.TextTable.as_slice.Goals as goal

pub returns-in-Empty-clause-once : goal.returns-in-Empty-clause-once
returns-in-Empty-clause-once c = distinct-none

pub returns-in-One-clause-once : goal.returns-in-One-clause-once
returns-in-One-clause-once c = subst (IsDistinct bytes_eq) (sym c.from_ref.ensures.value) (distinct-one c.in-One.only)
