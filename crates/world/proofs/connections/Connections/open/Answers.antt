use Rattle.std.proofs.Common.{ap, ◌∙◌, List, ℕ, false}
use Rattle.std.specs.FinMap as finmap
use Rattle.world.specs.World.{OpenConnection}
use Rattle.world.proofs.NatMaps.{seen-insert}
use Rattle.world.proofs.connections.Connections.open.Goals as goal

pub returns : goal.returns
returns c =
    let v : List ℕ → OpenConnection = λ (rest : List ℕ). record {
      rest = rest;
      is_leaving = false;
      address = c.args.address;
    } in
    seen-insert c.args.number c.self.inside.map c.insert.new.self (v c.new.result) c.in_ok-insert.ensures.updates
    ∙ ap (λ m. finmap.insert m c.args.number (v c.new.result)) c.self.view_is
    ∙ ap (λ (rest : List ℕ). finmap.insert c.args.self.now c.args.number (v rest)) c.new.ensures
