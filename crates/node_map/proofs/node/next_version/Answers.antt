use Rattle.std.proofs.Common.{rules, ◌≡◌, ◌+ℤ◌, negsuc, pos, to_z, of_z, w32, ap, sym, ◌∙◌, ◌<◌, ◌^◌, FitsSigned}
use Rattle.std.specs.Int.{int_wrap}
use Rattle.std.proofs.lemmas.Int.{wrapping_add_onto, to_z-of_z}
use Rattle.std.proofs.Math.Facts.{Fits-of_z}
use Rattle.node_map.specs.Updates.{next_cversion}
use Rattle.node_map.proofs.node.next_version.Goals as goal

pub returns-then-wanted-eqminus1 : goal.returns-then-wanted-eqminus1
returns-then-wanted-eqminus1 c =
    let fits : FitsSigned w32 (pos 1) = search rules in
    let below : of_z w32 c.args.stored < 2 ^ 32 = search (rules, Fits-of_z c.ranges.stored) in
    let wanted : negsuc 0 ≡ c.args.wanted =
    ap (to_z w32) (sym c.if-wanted-eqminus1.true)
    ∙ to_z-of_z w32 c.args.wanted c.ranges.wanted in
    wrapping_add_onto w32 (of_z w32 c.args.stored) (pos 1) below fits
    ∙ ap (λ z. int_wrap w32 (z +ℤ pos 1)) (to_z-of_z w32 c.args.stored c.ranges.stored)
    ∙ ap (next_cversion c.args.stored) wanted
