use Rattle.std.proofs.Common.{◌≡◌, ap, sym, ◌∙◌, subst, refl, Option, Some, None, List, ℕ, true, false}
use Rattle.std.specs.Prelude.{IsSome}
use Rattle.std.specs.FinMap as finmap
use Rattle.world.specs.World.{OpenConnection}
use Rattle.world.specs.Clients.{heard_in}
use Rattle.world.specs.Clients.{rest_at, with_rest}
use Rattle.world.proofs.NatMaps.{seen, get-seen, seen-insert, insert-same}
use Rattle.world.proofs.Heard.{heard_as}
use Rattle.world.proofs.connections.Connections.replace_rest.Goals as goal

pub returns-in-None-clause-old : goal.returns-in-None-clause-old
returns-in-None-clause-old c =
    ap (λ (o : Option OpenConnection). rest_at (heard_in o))
    (c.in-None.ensures.value ∙ sym (get-seen c.self.inside.map c.args.number)
    ∙ ap (λ m. finmap.get m c.args.number) c.self.view_is)

pub returns-in-None-clause-new : goal.returns-in-None-clause-new
returns-in-None-clause-new c =
    let none : None ≡ finmap.get c.args.self.now c.args.number =
    c.in-None.ensures.value ∙ sym (get-seen c.self.inside.map c.args.number)
    ∙ ap (λ m. finmap.get m c.args.number) c.self.view_is in
    ap (λ m. seen m.entries) c.get_mut.follows.holds-at-none ∙ c.self.view_is
    ∙ ap (λ (o : Option OpenConnection). with_rest c.args.self.now c.args.number (heard_in o) c.args.rest) none

pub returns-then-connection-clause-old : goal.returns-then-connection-clause-old
returns-then-connection-clause-old c =
    let k : OpenConnection = record {
      rest = c.connection.inside.rest;
      is_leaving = c.connection.inside.is_leaving;
      address = c.connection.inside.address;
    } in
    ap rest_at (sym (heard_as k true c.if-connection.true))
    ∙ ap (λ (k : OpenConnection). rest_at (heard_in (Some k))) c.connection.view_is
    ∙ ap (λ (o : Option OpenConnection). rest_at (heard_in o))
    (c.in-Some.ensures.value ∙ sym (get-seen c.self.inside.map c.args.number)
    ∙ ap (λ m. finmap.get m c.args.number) c.self.view_is)

pub returns-then-connection-clause-new : goal.returns-then-connection-clause-new
returns-then-connection-clause-new c =
    let n = c.args.number in
    let now = c.in-Some.connection.now in
    let k : OpenConnection = record {
      rest = c.connection.inside.rest;
      is_leaving = c.connection.inside.is_leaving;
      address = c.connection.inside.address;
    } in
    let unheard : None ≡ heard_in (finmap.get c.args.self.now n) =
    sym (heard_as k true c.if-connection.true)
    ∙ ap (λ (k : OpenConnection). heard_in (Some k)) c.connection.view_is
    ∙ ap heard_in (c.in-Some.ensures.value ∙ sym (get-seen c.self.inside.map n)
    ∙ ap (λ m. finmap.get m n) c.self.view_is) in
    seen-insert n c.self.inside.map (c.get_mut.follows.lender now) now
    ((c.get_mut.follows.holds now).3 (subst IsSome c.in-Some.ensures.value refl))
    ∙ insert-same (seen c.self.inside.map.entries) n now (get-seen c.self.inside.map n ∙ sym c.in-Some.ensures.value)
    ∙ c.self.view_is
    ∙ ap (λ (o : Option OpenConnection). with_rest c.args.self.now n o c.args.rest) unheard

pub returns-clause-old : goal.returns-clause-old
returns-clause-old c =
    let k : OpenConnection = record {
      rest = c.connection.inside.rest;
      is_leaving = c.connection.inside.is_leaving;
      address = c.connection.inside.address;
    } in
    ap Some c.replace.ensures.value
    ∙ ap rest_at (sym (heard_as k false c.if-connection.false))
    ∙ ap (λ (k : OpenConnection). rest_at (heard_in (Some k))) c.connection.view_is
    ∙ ap (λ (o : Option OpenConnection). rest_at (heard_in o))
    (c.in-Some.ensures.value ∙ sym (get-seen c.self.inside.map c.args.number)
    ∙ ap (λ m. finmap.get m c.args.number) c.self.view_is)

pub returns-clause-new : goal.returns-clause-new
returns-clause-new c =
    let n = c.args.number in
    let k : OpenConnection = record {
      rest = c.connection.inside.rest;
      is_leaving = c.connection.inside.is_leaving;
      address = c.connection.inside.address;
    } in
    let with_bytes : List ℕ → OpenConnection = λ (rest : List ℕ). record k { rest = rest } in
    let w = with_bytes c.replace.new.dest in
    let heard : Some k ≡ heard_in (finmap.get c.args.self.now n) =
    sym (heard_as k false c.if-connection.false)
    ∙ ap (λ (k : OpenConnection). heard_in (Some k)) c.connection.view_is
    ∙ ap heard_in (c.in-Some.ensures.value ∙ sym (get-seen c.self.inside.map n)
    ∙ ap (λ m. finmap.get m n) c.self.view_is) in
    seen-insert n c.self.inside.map (c.get_mut.follows.lender w) w
    ((c.get_mut.follows.holds w).3 (subst IsSome c.in-Some.ensures.value refl))
    ∙ ap (λ m. finmap.insert m n w) c.self.view_is
    ∙ ap (λ (rest : List ℕ). finmap.insert c.args.self.now n (with_bytes rest)) c.replace.ensures.after
    ∙ ap (λ (o : Option OpenConnection). with_rest c.args.self.now n o c.args.rest) heard
