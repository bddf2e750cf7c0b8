use Rattle.std.proofs.Common.{rules, ◌≡◌, ◌++◌, FitsSigned, Some, length, to_z, of_z, w32, w64, ap, subst, ◌∙◌, ℤ, append_assoc}
use Rattle.std.specs.FinMap as finmap
use Rattle.jute.specs.Format.{int, long, count_format, count_limit, pair_of}
use Rattle.snapshot_codec.proofs.Behind.{Left, wrote}
use Rattle.snapshot_codec.proofs.writer.put_sessions.Goals as goal

pub loop-id-preserved : goal.loop-id-preserved
loop-id-preserved c =
    let ids = finmap.entries c.args.sessions.now in
    let old = c.args.out.now.items ++ (count_format count_limit).written (Some (length ids)) in
    let now = c.loop-id.out.items in
    let id = c.in-Some.id.now in
    let timeout = c.in-Some.timeout.now in
    let id_is : to_z w64 (of_z w64 id) ≡ id = search rules in
    let timeout_is : to_z w32 (of_z w32 timeout) ≡ timeout = search rules in
    let long_fits : FitsSigned w64 id = search rules in
    let int_fits : FitsSigned w32 timeout = search rules in (
      tt,
      tt,
      wrote (pair_of long int).written (pair_of long int).Fits old ids now c.put_int-in-loop-id.new.out.items
          (id, timeout)
          c.next.new.self
          (c.in_ok-put_int-2.ensures
          ∙ (λ i. (c.in_ok-put_long.ensures ∙ ap (λ (z : ℤ). now ++ long.written z) id_is) i ++ int.written
          (timeout_is i))
          ∙ append_assoc now (long.written id) (int.written timeout))
          (long_fits, int_fits)
          (subst (λ r. Left (pair_of long int).written (pair_of long int).Fits old ids now r) c.in-Some.ensures.steps
          c.loop-id.invariant.2),
    )
