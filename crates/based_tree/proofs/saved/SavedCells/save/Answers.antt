use Rattle.std.proofs.Common.{◌≡◌, sym, ap, ◌∙◌}
use Rattle.std.proofs.lemmas.Result.{on_ok_weaker}
use Rattle.std.specs.FinSet as set
use Rattle.based_tree.proofs.Bases.{nothing_more, saved-one, saved-here}
use Rattle.based_tree.proofs.saved.SavedCells.save.Goals as goal

pub returns-then-contains-clause-more : goal.returns-then-contains-clause-more
returns-then-contains-clause-more c = nothing_more c.args.tree.now c.args.self.now

pub returns-clause-more : goal.returns-clause-more
returns-clause-more c =
    let old = c.args.self.now in
    let inserted : c.copy_cell.new.self.paths ≡ set.insert old.paths c.args.path.now =
    c.copy_cell.ensures.paths ∙ c.in_ok-insert.ensures.ok ∙ ap (set.insert old.paths) c.in_ok-new.ensures in
    on_ok_weaker c.copy_cell.result
    (λ copied. saved-one c.args.tree.now old c.copy_cell.new.self c.args.path.now
    (sym c.contains.ensures ∙ c.if-contains.false) inserted c.copy_cell.ensures.newest copied
    c.copy_cell.ensures.sessions)
    c.copy_cell.ensures.copied

pub returns-clause-here : goal.returns-clause-here
returns-clause-here c =
    let old = c.args.self.now in
    let inserted : c.copy_cell.new.self.paths ≡ set.insert old.paths c.args.path.now =
    c.copy_cell.ensures.paths ∙ c.in_ok-insert.ensures.ok ∙ ap (set.insert old.paths) c.in_ok-new.ensures in
    on_ok_weaker c.copy_cell.result
    (λ copied. saved-here old.paths c.copy_cell.new.self.paths c.args.path.now inserted)
    c.copy_cell.ensures.copied
