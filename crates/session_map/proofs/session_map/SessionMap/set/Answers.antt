use Rattle.std.proofs.Common.{◌∙◌, to_z, of_z, w64}
use Rattle.std.specs.FinMap as finmap
use Rattle.std.specs.Cmp.{int_cmp_total}
use Rattle.std.proofs.lemmas.Map.Lookups.{exact_signed}
use Rattle.std.proofs.lemmas.Int.{to_z-of_z}
use Rattle.values.proofs.Keyed.{map_of-insert}
use Rattle.session_map.proofs.session_map.SessionMap.set.Goals as goal

pub returns-clause-ok : goal.returns-clause-ok
returns-clause-ok c =
    map_of-insert int_cmp_total exact_signed (to_z w64 (of_z w64 c.args.session)) c.self.inside.map c.insert.new.self
    c.args.connection c.in_ok-insert.ensures.updates
    ∙ (λ i. finmap.insert (c.self.view_is i) (to_z-of_z w64 c.args.session c.ranges.session i) c.args.connection)
