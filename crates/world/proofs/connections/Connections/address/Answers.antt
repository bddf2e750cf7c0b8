use Rattle.std.proofs.Common.{ap, sym, ◌∙◌, Option, Some}
use Rattle.std.specs.FinMap as finmap
use Rattle.world.specs.World.{OpenConnection}
use Rattle.world.specs.Clients.{address_in}
use Rattle.world.proofs.NatMaps.{get-seen}
use Rattle.world.proofs.connections.Connections.address.Goals as goal

pub returns-in-None : goal.returns-in-None
returns-in-None c =
    ap (λ (o : Option OpenConnection). address_in o)
    (c.in-None.ensures.value ∙ sym (get-seen c.self.inside.map c.args.number)
    ∙ ap (λ m. finmap.get m c.args.number) c.self.view_is)

pub returns : goal.returns
returns c =
    c.as_ref.ensures.value
    ∙ ap (λ (k : OpenConnection). address_in (Some k)) c.connection.view_is
    ∙ ap (λ (o : Option OpenConnection). address_in o)
    (c.in-Some.ensures.value ∙ sym (get-seen c.self.inside.map c.args.number)
    ∙ ap (λ m. finmap.get m c.args.number) c.self.view_is)
