use Rattle.std.proofs.Common.{◌≡◌, true, false, not, arith, ◌∙◌}
use Rattle.std.proofs.lemmas.Grind.{common_steps}
use Rattle.paths_and_acls.proofs.Names.{goes_on, names_go_on}
use Rattle.paths_and_acls.proofs.path.are_names.Goals as goal

pub returns-then-byte-eq0 : goal.returns-then-byte-eq0
returns-then-byte-eq0 c = let h : false ≡ goes_on true c.args.text.now = grind (arith, common_steps) in h
    ∙ names_go_on c.args.text.now

pub returns : goal.returns
returns c = let h : not c.loop-byte.after_slash ≡ goes_on true c.args.text.now = grind (arith, common_steps) in h
    ∙ names_go_on c.args.text.now
