use Rattle.std.proofs.Common.{rules, to_z, of_z, w64, ◌≡◌, true, false, not, sym, ap, subst, ◌∙◌, ◌∷◌, []}
use Rattle.std.proofs.lemmas.Result.{on_ok_weaker}
use Rattle.paths_and_acls.specs.Paths.{parent_of}
use Rattle.txn_codec.specs.Row.{footprint_of_operation}
use Rattle.txn_codec.specs.declared.txn.Operation.{Operation}
use Rattle.based_tree.specs.Inner.{AreCellsReady, is_ephemeral_owner, is_quiet_operation}
use Rattle.based_tree.proofs.Changes.{one_ready, both_ready, both-saved, ready_if_saved, on_ok_both}
use Rattle.based_tree.proofs.saved.SavedCells.ready_operation.Goals as goal

pub returns-then-is_ephemeral_owner-clause-here : goal.returns-then-is_ephemeral_owner-clause-here
returns-then-is_ephemeral_owner-clause-here c =
    let path = c.as_str-path.result.now in
    let after = c.save_with_parent.new.self in
    let tree = c.args.tree.now in
    on_ok_both c.save_with_parent.result
    (λ here parent. subst (λ o. AreCellsReady (footprint_of_operation o) (is_quiet_operation o) c.args.zxid after tree)
    (sym c.in-Create.is)
    (subst (λ p. AreCellsReady (p ∷ parent_of p ∷ []) (is_quiet_operation (Operation.Create c.in-Create.create)) c.args.zxid after tree)
    c.as_str-path.ensures.text
    (ready_if_saved (path ∷ parent_of path ∷ []) (is_quiet_operation (Operation.Create c.in-Create.create)) c.args.zxid after
    tree (both-saved tree path (parent_of path) after here parent))))
    c.save_with_parent.ensures.path c.save_with_parent.ensures.parent

pub returns-else-is_ephemeral_owner-clause-here : goal.returns-else-is_ephemeral_owner-clause-here
returns-else-is_ephemeral_owner-clause-here c =
    let path = c.as_str-path.result.now in
    let after = c.make_ready_with_parent.new.self in
    let tree = c.args.tree.now in
    let quiet : not (is_ephemeral_owner c.in-Create.create.owner) ≡ true =
    ap not (sym c.is_ephemeral_owner.ensures ∙ c.if-is_ephemeral_owner.false) in
    let same : to_z w64 (of_z w64 c.args.zxid) ≡ c.args.zxid = search rules in
    on_ok_both c.make_ready_with_parent.result
    (λ here parent. subst (λ o. AreCellsReady (footprint_of_operation o) (is_quiet_operation o) c.args.zxid after tree)
    (sym c.in-Create.is)
    (subst (λ v. AreCellsReady (footprint_of_operation (Operation.Create c.in-Create.create)) v c.args.zxid after tree) (sym quiet)
    (subst (λ p. AreCellsReady (p ∷ parent_of p ∷ []) true c.args.zxid after tree) c.as_str-path.ensures.text
    (subst (λ z. AreCellsReady (path ∷ parent_of path ∷ []) true z after tree) same
    (both_ready true (to_z w64 (of_z w64 c.args.zxid)) after tree path (parent_of path) here parent)))))
    c.make_ready_with_parent.ensures.path c.make_ready_with_parent.ensures.parent

pub returns-in-Delete-clause-here : goal.returns-in-Delete-clause-here
returns-in-Delete-clause-here c =
    let path = c.as_str.result.now in
    let after = c.save_with_parent-in-Delete.new.self in
    let tree = c.args.tree.now in
    on_ok_both c.save_with_parent-in-Delete.result
    (λ here parent. subst (λ o. AreCellsReady (footprint_of_operation o) (is_quiet_operation o) c.args.zxid after tree)
    (sym c.in-Delete.is)
    (subst (λ p. AreCellsReady (p ∷ parent_of p ∷ []) false c.args.zxid after tree) c.as_str.ensures.text
    (ready_if_saved (path ∷ parent_of path ∷ []) false c.args.zxid after tree
    (both-saved tree path (parent_of path) after here parent))))
    c.save_with_parent-in-Delete.ensures.path c.save_with_parent-in-Delete.ensures.parent

pub returns-in-SetData-clause-here : goal.returns-in-SetData-clause-here
returns-in-SetData-clause-here c =
    let path = c.as_str-in-SetData.result.now in
    let after = c.make_ready.new.self in
    let tree = c.args.tree.now in
    let same : to_z w64 (of_z w64 c.args.zxid) ≡ c.args.zxid = search rules in
    on_ok_weaker c.make_ready.result
    (λ here. subst (λ o. AreCellsReady (footprint_of_operation o) (is_quiet_operation o) c.args.zxid after tree)
    (sym c.in-SetData.is)
    (subst (λ p. AreCellsReady (p ∷ []) true c.args.zxid after tree) c.as_str-in-SetData.ensures.text
    (subst (λ z. AreCellsReady (path ∷ []) true z after tree) same
    (one_ready true (to_z w64 (of_z w64 c.args.zxid)) after tree path here))))
    c.make_ready.ensures.here
