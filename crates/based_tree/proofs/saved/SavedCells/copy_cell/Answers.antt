use Rattle.std.proofs.Common.{rules, ◌≡◌, to_z, of_z, w64, sym, ap, ◌∙◌}
use Rattle.std.proofs.lemmas.Result.{on_ok_weaker}
use Rattle.based_tree.specs.Inner.{has_newer}
use Rattle.based_tree.proofs.Bases.{copied-newer, copied-older}
use Rattle.based_tree.proofs.saved.SavedCells.copy_cell.Goals as goal

pub returns-then-has_newer-clause-copied : goal.returns-then-has_newer-clause-copied
returns-then-has_newer-clause-copied c =
    let self = c.args.self.now in
    let same : to_z w64 (of_z w64 self.newest) ≡ self.newest = search rules in
    on_ok_weaker c.copy_owners.result
    (copied-newer self.newest c.args.tree.now c.args.path.now self.cells c.copy_owners.new.self
    (ap (λ z. has_newer z c.args.tree.now c.args.path.now) (sym same) ∙ sym c.has_newer.ensures ∙ c.if-has_newer.true))
    c.copy_owners.ensures

pub returns-clause-copied : goal.returns-clause-copied
returns-clause-copied c =
    let self = c.args.self.now in
    let same : to_z w64 (of_z w64 self.newest) ≡ self.newest = search rules in
    on_ok_weaker c.copy_cell.result
    (copied-older self.newest c.args.tree.now c.args.path.now self.cells c.copy_cell.new.self
    (ap (λ z. has_newer z c.args.tree.now c.args.path.now) (sym same) ∙ sym c.has_newer.ensures ∙ c.if-has_newer.false))
    c.copy_cell.ensures
