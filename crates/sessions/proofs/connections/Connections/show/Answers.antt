use Rattle.std.proofs.Common.{◌≡◌, ap, sym, ◌∙◌, subst, refl, Option, Some, None}
use Rattle.std.specs.Prelude.{IsSome}
use Rattle.std.specs.FinMap as finmap
use Rattle.std.specs.Cmp.{nat_cmp_total}
use Rattle.std.proofs.lemmas.Map.Lookups.{exact_unsigned}
use Rattle.std.proofs.lemmas.Result.{on_ok_weaker, on_err_weaker}
use Rattle.sessions.specs.State.{ConnectedClient}
use Rattle.sessions.specs.Inner.{with_shown_id}
use Rattle.values.proofs.Keyed.{get-map_of, map_of-insert, insert_same}
use Rattle.sessions.proofs.connections.Connections.show.Goals as goal

pub returns-in-None-clause-ok : goal.returns-in-None-clause-ok
returns-in-None-clause-ok c =
    let none : None ≡ finmap.get c.args.self.now c.args.number =
    c.in-None.ensures.value ∙ sym (get-map_of nat_cmp_total exact_unsigned c.self.inside.map c.args.number)
    ∙ ap (λ m. finmap.get m c.args.number) c.self.view_is in
    ap (λ m. finmap.from_entries m.entries) c.get_mut.follows.holds-at-none ∙ c.self.view_is
    ∙ ap (λ (o : Option ConnectedClient). with_shown_id c.args.self.now c.args.number c.args.id o) none

pub returns-clause-ok : goal.returns-clause-ok
returns-clause-ok c =
    let some : Some c.in-Some.connection.now ≡ finmap.get c.args.self.now c.args.number =
    c.in-Some.ensures.value ∙ sym (get-map_of nat_cmp_total exact_unsigned c.self.inside.map c.args.number)
    ∙ ap (λ m. finmap.get m c.args.number) c.self.view_is in
    let w = c.show.new.self in
    on_ok_weaker c.show.result (λ shows.
    map_of-insert nat_cmp_total exact_unsigned c.args.number c.self.inside.map (c.get_mut.follows.lender w) w
    ((c.get_mut.follows.holds w).3 (subst IsSome c.in-Some.ensures.value refl))
    ∙ (λ i. finmap.insert (c.self.view_is i) c.args.number (shows i))
    ∙ ap (λ (o : Option ConnectedClient). with_shown_id c.args.self.now c.args.number c.args.id o) some)
    c.show.ensures.ok

pub returns-clause-err : goal.returns-clause-err
returns-clause-err c =
    let some : Some c.in-Some.connection.now ≡ finmap.get c.args.self.now c.args.number =
    c.in-Some.ensures.value ∙ sym (get-map_of nat_cmp_total exact_unsigned c.self.inside.map c.args.number)
    ∙ ap (λ m. finmap.get m c.args.number) c.self.view_is in
    let w = c.show.new.self in
    on_err_weaker c.show.result (λ same.
    map_of-insert nat_cmp_total exact_unsigned c.args.number c.self.inside.map (c.get_mut.follows.lender w) w
    ((c.get_mut.follows.holds w).3 (subst IsSome c.in-Some.ensures.value refl))
    ∙ (λ i. finmap.insert (c.self.view_is i) c.args.number (same i))
    ∙ insert_same nat_cmp_total exact_unsigned c.args.self.now c.args.number c.in-Some.connection.now
    (sym some)) c.show.ensures.err
