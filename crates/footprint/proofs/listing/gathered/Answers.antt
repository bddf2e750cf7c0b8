use Rattle.std.proofs.Common.{◌∙◌, ap}
use Rattle.std.specs.FinSet as set
use Rattle.footprint.proofs.Gathering.{one_more}
use Rattle.footprint.proofs.listing.gathered.Goals as goal

pub loop-path-preserved : goal.loop-path-preserved
loop-path-preserved c =
    one_more c.args.paths.now c.loop-path.path-index c.path-item.result c.loop-path-test.true c.path-item.is
    c.loop-path.names c.insert.new.self c.loop-path.invariant
    (c.in_ok-insert.ensures.ok
    ∙ ap (set.insert c.loop-path.names) c.as_str.ensures)
