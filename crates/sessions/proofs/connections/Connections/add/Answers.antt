use Rattle.std.proofs.Common.{◌∙◌, ℤ, List, to_z, of_z, w32, w64}
use Rattle.std.specs.FinMap as finmap
use Rattle.std.specs.Cmp.{nat_cmp_total}
use Rattle.std.proofs.lemmas.Map.Lookups.{exact_unsigned}
use Rattle.std.proofs.lemmas.Int.{to_z-of_z}
use Rattle.jute.specs.declared.owned.Id.{Id}
use Rattle.sessions.specs.State.{ConnectedClient}
use Rattle.values.proofs.Keyed.{map_of-insert}
use Rattle.sessions.proofs.connections.Connections.add.Goals as goal

pub returns-clause-ok : goal.returns-clause-ok
returns-clause-ok c =
    let shown : ℤ → ℤ → List Id → ConnectedClient =
    λ session time_out ids. record { session = session; time_out = time_out; ids = ids } in
    map_of-insert nat_cmp_total exact_unsigned c.args.number c.self.inside.map c.insert.new.self
    (shown (to_z w64 (of_z w64 c.args.session)) (to_z w32 (of_z w32 c.args.time_out)) c.new.result.items) c.in_ok-insert.ensures.updates
    ∙ (λ i. finmap.insert (c.self.view_is i) c.args.number
    (shown (to_z-of_z w64 c.args.session c.ranges.session i) (to_z-of_z w32 c.args.time_out c.ranges.time_out i)
    (c.new.ensures.items i)))
