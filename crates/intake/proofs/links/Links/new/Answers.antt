use Rattle.std.proofs.Common.{◌≡◌, sym, subst, rules}
use Rattle.std.specs.FinMap as finmap
use Rattle.intake.specs.Links.{Links, links_of, KeepersAreAmong}
use Rattle.intake.proofs.Kept.{none_keeps}
use Rattle.intake.proofs.links.Links.new.Goals as goal

pub invariant_of-result : goal.invariant_of-result
invariant_of-result c =
    let P : Links → Type 0 = λ l. KeepersAreAmong c.new-2.result.items l in
    let none : links_of c.new.result ≡ finmap.empty = search rules in
    subst P (sym none) (none_keeps c.new-2.result.items)
