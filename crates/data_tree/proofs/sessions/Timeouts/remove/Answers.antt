use Rattle.std.proofs.Common.{◌∙◌, to_z, of_z, w64}
use Rattle.std.proofs.lemmas.Map.Lookups.{exact_signed}
use Rattle.std.specs.Cmp.{int_cmp_total}
use Rattle.std.specs.FinMap as finmap
use Rattle.std.proofs.lemmas.Int.{to_z-of_z}
use Rattle.values.proofs.Keyed.{map_of-remove}
use Rattle.data_tree.proofs.sessions.Timeouts.remove.Goals as goal

pub returns : goal.returns
returns c =
    map_of-remove int_cmp_total exact_signed (to_z w64 (of_z w64 c.args.session)) c.self.inside.map c.remove.new.self c.remove.ensures.updates
    ∙ (λ i. finmap.remove (c.self.view_is i) (to_z-of_z w64 c.args.session c.ranges.session i))
