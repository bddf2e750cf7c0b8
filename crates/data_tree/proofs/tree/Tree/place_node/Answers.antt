use Rattle.std.proofs.Common.{◌≡◌, to_z, of_z, w64, sym, ap, ◌∙◌}
use Rattle.ephemerals.specs.Orders.{OwnerPairs}
use Rattle.ephemerals.specs.Pairs.{without_pair}
use Rattle.data_tree.proofs.UndonePairs.{undo_owned, kept_owned}
use Rattle.data_tree.proofs.tree.Tree.place_node.Goals as goal

pub returns-then-added-clause-err : goal.returns-then-added-clause-err
returns-then-added-clause-err c =
    let owner = to_z w64 (of_z w64 c.args.node.stat.ephemeral_owner) in
    let pairs : c.remove.new.self ≡ c.self.inside.ephemerals =
    c.remove.ensures
    ∙ ap (λ (s : OwnerPairs). without_pair s owner c.args.path.now) c.in_ok-added.ensures.ok
    ∙ undo_owned c.self.inside.ephemerals owner c.args.path.now (sym c.in_ok-added.ensures.added ∙ c.if-added.true) in
    (λ i. record { nodes = c.in-Err.ensures.err i; pairs = pairs i; sessions = c.self.inside.timeouts })
    ∙ c.self.view_is

pub returns-else-added-clause-err : goal.returns-else-added-clause-err
returns-else-added-clause-err c =
    let owner = to_z w64 (of_z w64 c.args.node.stat.ephemeral_owner) in
    let pairs : c.add.new.self ≡ c.self.inside.ephemerals =
    c.in_ok-added.ensures.ok
    ∙ kept_owned c.self.inside.ephemerals owner c.args.path.now (sym c.in_ok-added.ensures.added ∙ c.if-added.false) in
    (λ i. record { nodes = c.in-Err.ensures.err i; pairs = pairs i; sessions = c.self.inside.timeouts })
    ∙ c.self.view_is
