use Rattle.std.proofs.Common.{refl, ap}
use Rattle.serve_options.proofs.row.Name.row.Goals as goal

pub returns-clause-word : goal.returns-clause-word
returns-clause-word c = ap (λ t. t.0) (c.row_in.ensures refl)

pub returns-clause-kind : goal.returns-clause-kind
returns-clause-kind c = ap (λ t. t.1) (c.row_in.ensures refl)

pub returns-clause-default : goal.returns-clause-default
returns-clause-default c = ap (λ t. t.2) (c.row_in.ensures refl)
