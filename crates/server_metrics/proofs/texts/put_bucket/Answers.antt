use Rattle.std.proofs.Common.{codes, decimal, ◌∙◌}
use Rattle.server_metrics.specs.Figures.{seconds_text}
use Rattle.server_metrics.proofs.Appended.{six_pieces}
use Rattle.server_metrics.proofs.texts.put_bucket.Goals as goal

pub returns-in-Ok : goal.returns-in-Ok
returns-in-Ok c =
    c.in-Ok.ensures.bytes
    ∙ six_pieces c.args.out.now.items c.args.name.now (codes "_bucket{le=\"") (seconds_text c.args.bucket.bound)
    (codes "\"} ") (decimal c.args.bucket.count) (codes "\n")
