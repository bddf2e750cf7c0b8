use Rattle.std.proofs.Common.{sym, ◌∙◌, to_z, of_z, w64}
use Rattle.std.specs.FinMap as finmap
use Rattle.std.specs.Cmp.{int_cmp_total}
use Rattle.std.proofs.lemmas.Map.Lookups.{exact_signed}
use Rattle.std.proofs.lemmas.Int.{to_z-of_z}
use Rattle.values.proofs.Keyed.{get-map_of}
use Rattle.session_map.proofs.session_map.SessionMap.get.Goals as goal

pub returns : goal.returns
returns c =
    c.copied.ensures ∙ c.get.ensures.value
    ∙ sym (get-map_of int_cmp_total exact_signed c.self.inside.map (to_z w64 (of_z w64 c.args.session)))
    ∙ (λ i. finmap.get (c.self.view_is i) (to_z-of_z w64 c.args.session c.ranges.session i))
