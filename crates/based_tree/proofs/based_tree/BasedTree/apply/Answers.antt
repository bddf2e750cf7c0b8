use Rattle.std.proofs.Common.{ap, ◌∙◌}
use Rattle.std.proofs.lemmas.Result.{on_ok_weaker}
use Rattle.data_tree.specs.State.{State}
use Rattle.data_tree.specs.Meaning.{effect_of_txn}
use Rattle.based_tree.specs.Based.{BasedTree}
use Rattle.based_tree.specs.Inner.{base_of}
use Rattle.based_tree.proofs.Bases.{based-step}
use Rattle.based_tree.proofs.based_tree.BasedTree.apply.Goals as goal

pub returns-clause-tree : goal.returns-clause-tree
returns-clause-tree c =
    let tree = c.self.inside.tree in
    let after = (effect_of_txn tree c.args.txn.now).state in
    on_ok_weaker c.apply.result
    (λ is.
    ap (λ (t : State). let b : BasedTree = record { base = base_of c.save_for.new.self t; tree = t } in b) is
    ∙ based-step c.self.inside.saved c.save_for.new.self tree after c.in_ok-save_for.ensures.base
    c.in_ok-save_for.ensures.step
    ∙ ap (λ (b : BasedTree). record b { tree = (effect_of_txn b.tree c.args.txn.now).state }) c.self.view_is)
    c.apply.ensures.state
