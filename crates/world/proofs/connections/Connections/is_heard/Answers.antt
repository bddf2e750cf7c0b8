use Rattle.std.proofs.Common.{ap, sym, ◌∙◌, Option, Some}
use Rattle.std.specs.Prelude.{is_some}
use Rattle.std.specs.FinMap as finmap
use Rattle.world.specs.World.{OpenConnection}
use Rattle.world.specs.Clients.{heard_in}
use Rattle.world.proofs.NatMaps.{get-seen}
use Rattle.world.proofs.Heard.{heard_some}
use Rattle.world.proofs.connections.Connections.is_heard.Goals as goal

pub returns-in-None : goal.returns-in-None
returns-in-None c =
    ap (λ (o : Option OpenConnection). is_some (heard_in o))
    (c.in-None.ensures.value ∙ sym (get-seen c.self.inside.map c.args.number)
    ∙ ap (λ m. finmap.get m c.args.number) c.self.view_is)

pub returns : goal.returns
returns c =
    sym (heard_some c.connection.inside.rest c.connection.inside.is_leaving c.connection.inside.address)
    ∙ ap (λ (k : OpenConnection). is_some (heard_in (Some k))) c.connection.view_is
    ∙ ap (λ (o : Option OpenConnection). is_some (heard_in o))
    (c.in-Some.ensures.value ∙ sym (get-seen c.self.inside.map c.args.number)
    ∙ ap (λ m. finmap.get m c.args.number) c.self.view_is)
