use Rattle.std.proofs.Common.{◌≡◌, [], rules, sym, ◌∙◌, ap}
use Rattle.std.proofs.lemmas.List.{nil_from_length}
use Rattle.paths_and_acls.proofs.Slashes.{uncut, none_before, parent_of_cut, or_root_some}
use Rattle.paths_and_acls.specs.Paths.{or_root}
use Rattle.paths_and_acls.proofs.path.parent_of.Goals as goal

pub returns-in-None : goal.returns-in-None
returns-in-None c = sym (ap or_root (none_before c.args.path.now (uncut c.args.path.now c.in-None.ensures.cases)))

pub returns-then-is_empty : goal.returns-then-is_empty
returns-then-is_empty c =
    let found = c.in-Some.ensures.cases in
    let none : c.in-Some.front.now ≡ [] = nil_from_length c.in-Some.front.now (search rules) in
    sym (parent_of_cut c.args.path.now found.0 found.1 found.2 ∙ ap or_root (sym found.3 ∙ none))

pub returns-else-is_empty : goal.returns-else-is_empty
returns-else-is_empty c =
    let found = c.in-Some.ensures.cases in
    or_root_some c.in-Some.front.now (λ none. search rules) ∙ ap or_root found.3
    ∙ sym (parent_of_cut c.args.path.now found.0 found.1 found.2)
