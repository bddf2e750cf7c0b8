use Rattle.std.proofs.Common.{ap, sym, ◌∙◌, Some}
use Rattle.std.specs.FinMap as finmap
use Rattle.world.proofs.NatMaps.{keys-popped, first-removed}
use Rattle.world.proofs.connections.Connections.close_first.Goals as goal

pub returns-clause-first : goal.returns-clause-first
returns-clause-first c =
    sym (ap (λ m. finmap.keys m) c.self.view_is)
    ∙ keys-popped (Some (c.in-Some.number, c.in-Some.field-0-1)) c.self.inside.map.entries c.pop_first.new.self.entries
    c.in-Some.ensures.removal c.in-Some.ensures.all_above c.in-Some.ensures.ordered

pub returns-clause-closed : goal.returns-clause-closed
returns-clause-closed c =
    first-removed (Some (c.in-Some.number, c.in-Some.field-0-1)) c.self.inside.map.entries c.pop_first.new.self.entries
    c.in-Some.ensures.removal c.in-Some.ensures.all_above
    ∙ ap (λ m. finmap.remove m c.in-Some.number) c.self.view_is
