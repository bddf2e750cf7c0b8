use Rattle.std.proofs.Common.{sym, ◌∙◌}
use Rattle.paths_and_acls.proofs.Slashes.{uncut, all_after, name_of_cut}
use Rattle.paths_and_acls.proofs.path.name_of.Goals as goal

pub returns-in-None : goal.returns-in-None
returns-in-None c = sym (all_after c.args.path.now (uncut c.args.path.now c.in-None.ensures.cases))

pub returns-in-Some : goal.returns-in-Some
returns-in-Some c =
    let found = c.in-Some.ensures.cases in
    found.4 ∙ sym (name_of_cut c.args.path.now found.0 found.1 found.2)
