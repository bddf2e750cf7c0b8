use Rattle.std.proofs.Common.{rules, ◌+ℤ◌, pos, of_z, w32, w64, ap, ◌∙◌, ◌<◌, ◌^◌, FitsSigned}
use Rattle.std.specs.Int.{int_wrap}
use Rattle.std.proofs.lemmas.Int.{wrapping_add_onto, to_z-of_z}
use Rattle.std.proofs.Math.Facts.{Fits-of_z}
use Rattle.audit.proofs.count.one_more.Goals as goal

pub returns : goal.returns
returns c =
    let one : FitsSigned w32 (pos 1) = search rules in
    let fits : FitsSigned w32 c.args.count.now.cversion = search rules in
    let zxid : FitsSigned w64 c.args.header.now.zxid = search rules in
    let below : of_z w32 c.args.count.now.cversion < 2 ^ 32 = search (rules, Fits-of_z fits) in
    λ i. record {
      cversion = (wrapping_add_onto w32 (of_z w32 c.args.count.now.cversion) (pos 1) below one
          ∙ ap (λ z. int_wrap w32 (z +ℤ pos 1)) (to_z-of_z w32 c.args.count.now.cversion fits)) i;
      pzxid = to_z-of_z w64 c.args.header.now.zxid zxid i;
    }
