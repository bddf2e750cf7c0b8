use Rattle.std.proofs.Common.{drop}
use Rattle.based_tree.specs.Inner.{SavesMore}
use Rattle.based_tree.proofs.Changes.{LeftToSave}
use Rattle.based_tree.proofs.saved.SavedCells.save_all.Given as goal

abbrev pub invariant-loop-path : goal.invariant-loop-path
invariant-loop-path l =
    record {
      more : SavesMore l.tree l.fn.self l.self;
      left : LeftToSave l.paths (drop l.path-index l.paths) l.self;
    }
