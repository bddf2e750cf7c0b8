use Rattle.std.proofs.Common.{◌≡◌, true, sym, ap, subst, ◌∙◌, ◌∷◌}
use Rattle.paths_and_acls.specs.Paths.{parent_of}
use Rattle.txn_codec.specs.Row.{footprint_of_parts}
use Rattle.data_tree.specs.Meaning.{delete_operations}
use Rattle.based_tree.specs.Inner.{is_saved, deleted_footprint}
use Rattle.based_tree.proofs.Bases.{nothing_more, saves_then}
use Rattle.based_tree.proofs.Changes.{LeftToSave, left-first, left-next, left-last}
use Rattle.based_tree.proofs.saved.SavedCells.save_with_parents.Goals as goal

pub loop-path-init : goal.loop-path-init
loop-path-init c =
    let all = deleted_footprint c.args.paths.now in (
      tt,
      tt,
      nothing_more c.args.tree.now c.args.self.now,
      subst (λ ts. LeftToSave all (footprint_of_parts (delete_operations ts)) c.args.self.now)
          (sym (c.into_iter-path-iterator.ensures.into_iter_gives ∙ c.iter-path-items.ensures.texts))
          (left-first all c.args.self.now),
    )

pub loop-path-preserved : goal.loop-path-preserved
loop-path-preserved c =
    let tree = c.args.tree.now in
    let all = deleted_footprint c.args.paths.now in
    let path = c.in-Some.path.now in
    let rest = footprint_of_parts (delete_operations c.next.new.self) in
    let after = c.save_with_parent.new.self in
    let more = c.in_ok-save_with_parent.ensures.more in
    let here : is_saved after path ≡ true =
    ap (is_saved after) (sym c.as_str.ensures) ∙ c.in_ok-save_with_parent.ensures.path in
    let parent : is_saved after (parent_of path) ≡ true =
    ap (λ p. is_saved after (parent_of p)) (sym c.as_str.ensures) ∙ c.in_ok-save_with_parent.ensures.parent in (
      tt,
      tt,
      saves_then tree c.args.self.now c.loop-path.self after c.loop-path.invariant.2 more,
      left-next tree all (parent_of path) rest after after
          (left-next tree all path (parent_of path ∷ rest) c.loop-path.self after
          (subst (λ ts. LeftToSave all (footprint_of_parts (delete_operations ts)) c.loop-path.self)
          c.in-Some.ensures.steps c.loop-path.invariant.3)
          more here)
          (nothing_more tree after) parent,
    )

pub returns : goal.returns
returns c =
    let all = deleted_footprint c.args.paths.now in
    record {
      more = c.loop-path.invariant.2;
      here = left-last all c.loop-path.self
          (subst (λ ts. LeftToSave all (footprint_of_parts (delete_operations ts)) c.loop-path.self)
          c.in-None.ensures.steps.0 c.loop-path.invariant.3);
    }
