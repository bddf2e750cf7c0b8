use Rattle.std.proofs.Common.{◌≡◌, ◌++◌, drop}
use Rattle.batcher.specs.Inner.Owners.{get_by_path, paths_of, AreNumbered, HaveNumbered}
use Rattle.batcher.specs.Inner.Joining.{all_met, unowned_paths}
use Rattle.batcher.specs.declared.met.Met.TheVariants.{Nothing}
use Rattle.batcher.proofs.met.met_by.Given as goal

abbrev pub invariant-loop-path : goal.invariant-loop-path
invariant-loop-path l =
    record {
      kept : HaveNumbered l.fn.owners l.owners;
      met : all_met (get_by_path l.fn.owners) l.met (drop l.path-index l.paths)
          ≡ all_met (get_by_path l.fn.owners) Nothing l.paths;
      unowned : paths_of l.unowned.items ++ unowned_paths (get_by_path l.fn.owners) (drop l.path-index l.paths)
          ≡ unowned_paths (get_by_path l.fn.owners) l.paths;
      numbered : AreNumbered l.owners.names l.unowned.items;
    }
