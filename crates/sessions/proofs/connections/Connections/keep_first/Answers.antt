use Rattle.std.proofs.Common.{◌≡◌, ap, sym, ◌∙◌, subst, refl, Option, Some, None}
use Rattle.std.specs.Prelude.{IsSome}
use Rattle.std.specs.FinMap as finmap
use Rattle.std.specs.Cmp.{nat_cmp_total}
use Rattle.std.proofs.lemmas.Map.Lookups.{exact_unsigned}
use Rattle.sessions.specs.State.{ConnectedClient}
use Rattle.sessions.specs.Inner.{with_first_ids}
use Rattle.values.proofs.Keyed.{get-map_of, map_of-insert}
use Rattle.sessions.proofs.connections.Connections.keep_first.Goals as goal

pub returns-in-None : goal.returns-in-None
returns-in-None c =
    let none : None ≡ finmap.get c.args.self.now c.args.number =
    c.in-None.ensures.value ∙ sym (get-map_of nat_cmp_total exact_unsigned c.self.inside.map c.args.number)
    ∙ ap (λ m. finmap.get m c.args.number) c.self.view_is in
    ap (λ m. finmap.from_entries m.entries) c.get_mut.follows.holds-at-none ∙ c.self.view_is
    ∙ ap (λ (o : Option ConnectedClient). with_first_ids c.args.self.now c.args.number c.args.count o) none

pub returns : goal.returns
returns c =
    let some : Some c.in-Some.connection.now ≡ finmap.get c.args.self.now c.args.number =
    c.in-Some.ensures.value ∙ sym (get-map_of nat_cmp_total exact_unsigned c.self.inside.map c.args.number)
    ∙ ap (λ m. finmap.get m c.args.number) c.self.view_is in
    let w = c.keep_first.new.self in
    map_of-insert nat_cmp_total exact_unsigned c.args.number c.self.inside.map (c.get_mut.follows.lender w) w
    ((c.get_mut.follows.holds w).3 (subst IsSome c.in-Some.ensures.value refl))
    ∙ (λ i. finmap.insert (c.self.view_is i) c.args.number (c.keep_first.ensures i))
    ∙ ap (λ (o : Option ConnectedClient). with_first_ids c.args.self.now c.args.number c.args.count o) some
