use Rattle.serve_options.proofs.Rows.{row_at}
use Rattle.serve_options.proofs.row.row_in.Goals as goal

pub returns : goal.returns
returns c = row_at c.args.rows.now c.args.name c.place.result _ c.place.ensures.place
