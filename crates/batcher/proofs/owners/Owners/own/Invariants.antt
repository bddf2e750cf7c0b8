use Rattle.std.proofs.Common.{◌≡◌}
use Rattle.batcher.specs.Inner.Owners.{get_by_path, paths_of, AreBeside}
use Rattle.batcher.proofs.Steps.{IsOwned}
use Rattle.batcher.proofs.owners.Owners.own.Given as goal

abbrev pub invariant-loop-path : goal.invariant-loop-path
invariant-loop-path l =
    record {
      names : l.self.names ≡ l.fn.self.names;
      beside : AreBeside l.self;
      owned : IsOwned (get_by_path l.fn.self) (get_by_path l.self) l.group (paths_of l.paths) l.path-index;
    }
