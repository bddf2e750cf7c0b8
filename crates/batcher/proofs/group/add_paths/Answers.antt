use Rattle.std.proofs.Common.{◌∙◌, ap, arith}
use Rattle.std.specs.FinSet as set
use Rattle.std.proofs.lemmas.List.{length-map}
use Rattle.batcher.specs.declared.owners.NewPath.{NewPath}
use Rattle.batcher.specs.Inner.Owners.{paths_of}
use Rattle.batcher.proofs.Steps.{gained_step, gained_all}
use Rattle.batcher.proofs.NewPaths.{path_is_next}
use Rattle.batcher.proofs.group.add_paths.Goals as goal

pub loop-new-preserved : goal.loop-new-preserved
loop-new-preserved c q =
    gained_step (paths_of c.args.paths.now) c.loop-new.new-index c.new-item.result.path
    (path_is_next c.args.paths.now c.loop-new.new-index c.new-item.result c.loop-new-test.true c.new-item.is)
    c.loop-new.names c.add_path.new.names
    (c.in_ok-add_path.ensures ∙ ap (set.insert c.loop-new.names) c.as_str.ensures) q _
    (c.loop-new.invariant q)

pub returns : goal.returns
returns c =
    let all = length-map c.args.paths.now (λ (n : NewPath). n.path) in
    let past = c.loop-new-test.false in
    gained_all (paths_of c.args.paths.now) c.loop-new.new-index (omega arith) c.args.names.now c.loop-new.names
    c.loop-new.invariant
