use Rattle.std.proofs.Common.{sym, ap, ◌∙◌}
use Rattle.std.proofs.lemmas.Result.{on_ok_weaker}
use Rattle.data_tree.specs.State.{State}
use Rattle.data_tree.specs.Meaning.{state_after}
use Rattle.based_tree.specs.Based.{BasedTree}
use Rattle.based_tree.specs.Inner.{base_of}
use Rattle.based_tree.proofs.Bases.{based-step}
use Rattle.based_tree.proofs.Changes.{all_keep}
use Rattle.based_tree.proofs.based_tree.BasedTree.apply_all.Goals as goal

pub returns-clause-tree : goal.returns-clause-tree
returns-clause-tree g c =
    let tree = c.self.inside.tree in
    let txns = c.args.txns.now in
    let saved = c.save_for_each.new.self in
    let keep = all_keep txns (sym c.ends_a_session.ensures ∙ c.if-ends_a_session.false) in
    on_ok_weaker c.doer.result
    (λ is.
    ap (λ (t : State). let b : BasedTree = record { base = base_of saved t; tree = t } in b) is
    ∙ based-step c.self.inside.saved saved tree (state_after tree txns) c.in_ok-save_for_each.ensures.base
    (c.in_ok-save_for_each.ensures.step keep)
    ∙ ap (λ (b : BasedTree). record b { tree = state_after b.tree txns }) c.self.view_is)
    (c.requires.tree _ _ c.doer.result _ c.doer.ensures)
