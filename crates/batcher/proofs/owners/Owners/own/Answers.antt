use Rattle.std.proofs.Common.{◌∙◌}
use Rattle.batcher.specs.Inner.Owners.{get_by_path, paths_of}
use Rattle.batcher.proofs.Steps.{owned_next}
use Rattle.batcher.proofs.NewPaths.{path_within, path_at}
use Rattle.batcher.proofs.owners.Owners.own.Goals as goal

pub loop-path-preserved : goal.loop-path-preserved
loop-path-preserved c =
    let news = c.args.paths.now in
    let i = c.loop-path.path-index in
    let new = c.path-item.result in
    record {
      names = c.own_path.ensures.names ∙ c.loop-path.invariant.names;
      beside = c.own_path.ensures.beside;
      owned = owned_next (paths_of news) i new.path (path_within news i c.loop-path-test.true)
          (path_at news i new c.loop-path-test.true c.path-item.is) (get_by_path c.args.self.now)
          (get_by_path c.loop-path.self) (get_by_path c.own_path.new.self) c.args.group c.loop-path.invariant.owned
          c.own_path.ensures.owners;
    }
