use Rattle.std.proofs.Common.{rules, ◌≡◌, to_z, of_z, w64, sym, subst, ◌∙◌}
use Rattle.based_tree.specs.Inner.{HasNoNewer}
use Rattle.based_tree.proofs.Bases.{based-none}
use Rattle.based_tree.proofs.based_tree.BasedTree.new.Goals as goal

pub returns : goal.returns
returns c =
    let tree = c.args.tree in
    let none = c.none-saved.ensures in
    let newest = c.newest_zxid.result in
    let same : to_z w64 (of_z w64 newest) ≡ newest = search rules in
    based-none c.none-saved.result tree none.paths none.sessions
    (subst (λ z. HasNoNewer z tree) (sym (none.newest ∙ same)) c.newest_zxid.ensures)
