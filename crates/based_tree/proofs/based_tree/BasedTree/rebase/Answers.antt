use Rattle.std.proofs.Common.{rules, ◌≡◌, to_z, of_z, w64, sym, ap, subst, ◌∙◌}
use Rattle.based_tree.specs.Based.{BasedTree, at_base}
use Rattle.based_tree.specs.Inner.{HasNoNewer}
use Rattle.based_tree.proofs.Bases.{based-none}
use Rattle.based_tree.proofs.based_tree.BasedTree.rebase.Goals as goal

pub returns : goal.returns
returns c =
    let tree = c.self.inside.tree in
    let newest = c.newest_zxid.result in
    let same : to_z w64 (of_z w64 newest) ≡ newest = search rules in
    based-none c.none.result tree c.none.ensures.paths c.none.ensures.sessions
    (subst (λ z. HasNoNewer z tree) (sym (c.none.ensures.newest ∙ same)) c.newest_zxid.ensures)
    ∙ ap (λ (b : BasedTree). at_base b.tree) c.self.view_is
