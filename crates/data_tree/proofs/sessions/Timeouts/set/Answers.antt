use Rattle.std.proofs.Common.{◌∙◌, to_z, of_z, w32, w64}
use Rattle.std.proofs.lemmas.Map.Lookups.{exact_signed}
use Rattle.std.specs.Cmp.{int_cmp_total}
use Rattle.std.specs.FinMap as finmap
use Rattle.std.proofs.lemmas.Int.{to_z-of_z}
use Rattle.values.proofs.Keyed.{map_of-insert}
use Rattle.data_tree.proofs.sessions.Timeouts.set.Goals as goal

pub returns-clause-ok : goal.returns-clause-ok
returns-clause-ok c =
    map_of-insert int_cmp_total exact_signed (to_z w64 (of_z w64 c.args.session)) c.self.inside.map c.insert.new.self
    (to_z w32 (of_z w32 c.args.timeout)) c.in_ok-insert.ensures.updates
    ∙ (λ i. finmap.insert (c.self.view_is i) (to_z-of_z w64 c.args.session c.ranges.session i)
    (to_z-of_z w32 c.args.timeout c.ranges.timeout i))
