use Rattle.std.proofs.Common.{rules, ◌≡◌, get_or, sym, ◌∙◌}
use Rattle.serve_options.proofs.Spelled.{found_at}
use Rattle.serve_options.proofs.given.find_given.Goals as goal

-- The option has the name, and none before it has.
pub returns-then-eq : goal.returns-then-eq
returns-then-eq c =
    let given = c.args.given.now in
    let k = c.loop-option.option-index in
    let same : (get_or given k _).name ≡ c.args.name = search rules in
    sym (c.loop-option.invariant ∙ found_at c.args.name given k _ c.loop-option-test.true same)
