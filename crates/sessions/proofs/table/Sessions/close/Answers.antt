use mir.Val.{SFits}
use Rattle.std.proofs.Common.{rules, ◌≡◌, ap, sym, ◌∙◌, Some, None, to_z, of_z, w64}
use Rattle.std.specs.FinMap as finmap
use Rattle.std.specs.Cmp.{nat_cmp_total}
use Rattle.std.proofs.lemmas.Map.Lookups.{exact_unsigned}
use Rattle.std.proofs.lemmas.Int.{to_z-of_z}
use Rattle.values.proofs.Keyed.{remove_absent}
use Rattle.sessions.proofs.Agreeing.{closed, unclosed}
use Rattle.sessions.proofs.table.Sessions.close.Goals as goal

pub invariant_of-self : goal.invariant_of-self
invariant_of-self c =
    let none : finmap.get c.self.inside.connections c.args.connection ≡ None = sym c.take.ensures.was ∙ c.in-None.is in
    rw (c.take.ensures.removed
    ∙ remove_absent nat_cmp_total exact_unsigned c.self.inside.connections c.args.connection none) c.self.invariant

pub returns-in-None : goal.returns-in-None
returns-in-None c =
    let none : finmap.get c.self.inside.connections c.args.connection ≡ None = sym c.take.ensures.was ∙ c.in-None.is in
    rw (c.take.ensures.removed, ← c.self.view_is) (unclosed _ c.args.connection none)

pub invariant_of-self-in-Some : goal.invariant_of-self-in-Some
invariant_of-self-in-Some c =
    let here : finmap.get c.self.inside.connections c.args.connection ≡ Some c.in-Some.connection =
    sym c.take.ensures.was ∙ c.in-Some.is in
    let fits : SFits w64 c.session.result = search rules in
    let session : to_z w64 (of_z w64 c.session.result) ≡ c.in-Some.connection.session =
    to_z-of_z w64 c.session.result fits ∙ c.session.ensures in
    rw (c.remove.ensures.removed ∙ ap (finmap.remove c.self.inside.owners) session, c.take.ensures.removed)
    (closed _ c.args.connection c.in-Some.connection c.self.invariant here)
