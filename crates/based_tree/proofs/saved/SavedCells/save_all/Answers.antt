use Rattle.std.proofs.Common.{◌+◌, drop, sym, ap, subst, ◌∙◌}
use Rattle.based_tree.specs.Inner.{is_saved}
use Rattle.std.proofs.lemmas.List.{drop_all}
use Rattle.pairs.proofs.Adding.{next_element}
use Rattle.based_tree.proofs.Bases.{nothing_more, saves_then}
use Rattle.based_tree.proofs.Changes.{LeftToSave, left-first, left-next, left-last}
use Rattle.based_tree.proofs.saved.SavedCells.save_all.Goals as goal

pub loop-path-init : goal.loop-path-init
loop-path-init c =
    record { more = nothing_more c.args.tree.now c.args.self.now; left = left-first c.args.paths.now c.args.self.now }

pub loop-path-preserved : goal.loop-path-preserved
loop-path-preserved c =
    let tree = c.args.tree.now in
    let all = c.args.paths.now in
    record {
      more = saves_then tree c.args.self.now c.loop-path.self c.save.new.self c.loop-path.invariant.more
          c.in_ok-save.ensures.more;
      left = left-next tree all c.path-item.result (drop (c.loop-path.path-index + 1) all) c.loop-path.self c.save.new.self
          (subst (λ ps. LeftToSave all ps c.loop-path.self)
          (next_element all c.loop-path.path-index c.path-item.result c.loop-path-test.true c.path-item.is)
          c.loop-path.invariant.left)
          c.in_ok-save.ensures.more (ap (is_saved c.save.new.self) (sym c.as_str.ensures) ∙ c.in_ok-save.ensures.here);
    }

pub returns : goal.returns
returns c =
    let all = c.args.paths.now in
    record {
      more = c.loop-path.invariant.more;
      here = left-last all c.loop-path.self
          (subst (λ ps. LeftToSave all ps c.loop-path.self)
          (drop_all c.loop-path.path-index all c.loop-path-test.false) c.loop-path.invariant.left);
    }
