use Rattle.std.proofs.Common.{rules, ◌≡◌, ◌<◌, ◌%◌, ◌+◌, ◌^◌, ◌||◌, false, ℤ, pos, negsuc, ◌+ℤ◌, to_z, of_z, w32, sym, ap, ◌∙◌, FitsSigned}
use Rattle.std.specs.Int.{int_wrap}
use Rattle.std.specs.Option.{option_copied}
use Rattle.std.specs.Ordering.{int_eq}
use Rattle.std.proofs.lemmas.Int.{wrapping_add_onto, to_z-of_z}
use Rattle.std.proofs.Math.Facts.{Fits-of_z}
use Rattle.audit.specs.Clean.{counts_up}
use Rattle.audit.proofs.Bits.{same_bits, other_number, below_word}
use Rattle.audit.proofs.clean.counts_up.Goals as goal

pub returns-else-wanted-eqminus1 : goal.returns-else-wanted-eqminus1
returns-else-wanted-eqminus1 c =
    let stored : ℤ = c.in-Some.parent.now.stat.cversion in
    let one : FitsSigned w32 (pos 1) = search rules in
    let fits : FitsSigned w32 c.in-Some.parent.now.stat.cversion = search rules in
    let below : of_z w32 c.in-Some.parent.now.stat.cversion < 2 ^ 32 = search (rules, Fits-of_z fits) in
    let next : to_z w32 ((of_z w32 c.in-Some.parent.now.stat.cversion + 1) % 2 ^ 32)
    ≡ int_wrap w32 (c.in-Some.parent.now.stat.cversion +ℤ pos 1) =
    wrapping_add_onto w32 (of_z w32 c.in-Some.parent.now.stat.cversion) (pos 1) below one
    ∙ ap (λ (z : ℤ). int_wrap w32 (z +ℤ pos 1)) (to_z-of_z w32 c.in-Some.parent.now.stat.cversion fits) in
    let other : int_eq c.args.wanted (negsuc 0) ≡ false = other_number c.args.wanted c.if-wanted-eqminus1.false in
    let variant = c.in-Some.is in
    same_bits c.args.wanted ((of_z w32 c.in-Some.parent.now.stat.cversion + 1) % 2 ^ 32)
    (int_wrap w32 (c.in-Some.parent.now.stat.cversion +ℤ pos 1)) c.ranges.wanted
    (below_word (of_z w32 c.in-Some.parent.now.stat.cversion + 1)) next
    ∙ (λ i. sym other i || int_eq c.args.wanted (int_wrap w32 (c.in-Some.parent.now.stat.cversion +ℤ pos 1)))
    ∙ ap (λ o. counts_up c.args.wanted (option_copied o)) (sym c.in-Some.is)
