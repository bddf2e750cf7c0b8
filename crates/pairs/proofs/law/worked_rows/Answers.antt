use Rattle.std.proofs.Common.{refl}
use Rattle.pairs.proofs.law.worked_rows.Goals as goal

pub returns : goal.returns
returns c = record { rest = refl; no_rest = refl; word_and_rest = refl; word_alone = refl }
