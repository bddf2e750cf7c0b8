use Rattle.std.proofs.Common.{rules, ◌≡◌, to_z, of_z, w64, ap, ◌∙◌}
use Rattle.std.specs.Option.{unwrap_or}
use Rattle.data_tree.specs.Cells.{cells_at, without_cells, with_cells}
use Rattle.based_tree.specs.Based.{BasedTree, at_base}
use Rattle.based_tree.specs.Inner.{without_newer}
use Rattle.based_tree.proofs.based_tree.BasedTree.go_back.Goals as goal

pub returns : goal.returns
returns c =
    let tree = c.self.inside.tree in
    let saved = c.self.inside.saved in
    let newest : to_z w64 (of_z w64 saved.newest) ≡ saved.newest = search rules in
    let older : c.remove_newer.new.tree ≡ without_newer saved.newest tree =
    c.in_ok-remove_newer.ensures ∙ ap (λ z. without_newer z tree) newest in
    let replaced : c.replace_cells.new.self
    ≡ with_cells (cells_at saved.paths saved.cells) (without_cells saved.paths (without_newer saved.newest tree)) =
    c.in_ok-replace_cells.ensures
    ∙ (λ i. with_cells (cells_at (c.in_ok-paths.ensures i) saved.cells) (without_cells (c.in_ok-paths.ensures i) (older i))) in
    c.rebase.ensures
    ∙ ap at_base
    (c.set_sessions_if.ensures
    ∙ (λ i. record (replaced i) { sessions = unwrap_or (c.take.ensures.value i) (replaced i).sessions })
    ∙ ap (λ (b : BasedTree). b.base) c.self.view_is)
