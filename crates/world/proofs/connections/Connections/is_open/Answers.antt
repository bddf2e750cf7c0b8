use Rattle.std.proofs.Common.{ap, sym, ◌∙◌}
use Rattle.std.specs.Option.{is_some}
use Rattle.std.specs.FinMap as finmap
use Rattle.world.proofs.NatMaps.{get-seen}
use Rattle.world.proofs.connections.Connections.is_open.Goals as goal

pub returns : goal.returns
returns c =
    c.contains_key.ensures
    ∙ sym (ap is_some (get-seen c.self.inside.map c.args.number))
    ∙ ap (λ m. is_some (finmap.get m c.args.number)) c.self.view_is
