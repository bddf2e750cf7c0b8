use Rattle.std.proofs.Common.{◌≡◌, ap, sym, ◌∙◌, subst, true, refl, Option, Some, None}
use Rattle.std.specs.Prelude.{IsSome}
use Rattle.std.specs.FinMap as finmap
use Rattle.world.specs.World.{OpenConnection}
use Rattle.world.specs.Clients.{with_leaver}
use Rattle.world.proofs.NatMaps.{seen, get-seen, seen-insert}
use Rattle.world.proofs.connections.Connections.leave.Goals as goal

pub returns-in-None : goal.returns-in-None
returns-in-None c =
    let none : None ≡ finmap.get c.args.self.now c.args.number =
    c.in-None.ensures.value ∙ sym (get-seen c.self.inside.map c.args.number)
    ∙ ap (λ m. finmap.get m c.args.number) c.self.view_is in
    ap (λ m. seen m.entries) c.get_mut.follows.holds-at-none ∙ c.self.view_is
    ∙ ap (λ (o : Option OpenConnection). with_leaver c.args.self.now c.args.number o) none

pub returns : goal.returns
returns c =
    let leaving : OpenConnection → OpenConnection = λ (k : OpenConnection). record k { is_leaving = true } in
    let w : OpenConnection = record {
      rest = c.connection.inside.rest;
      is_leaving = true;
      address = c.connection.inside.address;
    } in
    let some : Some c.in-Some.connection.now ≡ finmap.get c.args.self.now c.args.number =
    c.in-Some.ensures.value ∙ sym (get-seen c.self.inside.map c.args.number)
    ∙ ap (λ m. finmap.get m c.args.number) c.self.view_is in
    seen-insert c.args.number c.self.inside.map (c.get_mut.follows.lender w) w
    ((c.get_mut.follows.holds w).3 (subst IsSome c.in-Some.ensures.value refl))
    ∙ ap (λ m. finmap.insert m c.args.number w) c.self.view_is
    ∙ ap (λ (k : OpenConnection). finmap.insert c.args.self.now c.args.number (leaving k)) c.connection.view_is
    ∙ ap (λ (o : Option OpenConnection). with_leaver c.args.self.now c.args.number o) some
