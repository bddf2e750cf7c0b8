use mir.Val.{SFits}
use Rattle.std.proofs.Common.{rules, ◌<◌, ℤ, pos, [], ◌∷◌, map, take, get_or, length, sym, ap, ◌∙◌, w64, arith}
use Rattle.std.proofs.lemmas.List.{take_more, map-append}
use Rattle.std.proofs.lemmas.Int.{to_z-of_z}
use Rattle.std.specs.Cmp.{int_cmp_total}
use Rattle.std.proofs.lemmas.Map.Lookups.{exact_signed}
use Rattle.std.specs.FinSet as set
use Rattle.forwarding.proofs.touched.Touched.of_rows.Goals as goal

pub loop-session-preserved : goal.loop-session-preserved
loop-session-preserved c =
    let i = c.loop-session.session-index in
    let session : ℤ = (get_or c.args.rows.now c.loop-session.session-index (pos 0, pos 0)).0 in
    let fits : SFits w64 (get_or c.args.rows.now c.loop-session.session-index (pos 0, pos 0)).0 = search rules in
    let within : c.loop-session.session-index < length c.args.rows.now = omega arith in
    let so_far = map (λ (row : ℤ × ℤ). row.0) (take c.loop-session.session-index c.args.rows.now) in
    c.in_ok-touch.ensures.ok
    ∙ (λ k. set.insert (c.loop-session.invariant k)
    (to_z-of_z w64 (get_or c.args.rows.now c.loop-session.session-index (pos 0, pos 0)).0 fits k))
    ∙ sym (set.from_list_push int_cmp_total exact_signed
    (map (λ (row : ℤ × ℤ). row.0) (take c.loop-session.session-index c.args.rows.now))
    (get_or c.args.rows.now c.loop-session.session-index (pos 0, pos 0)).0)
    ∙ ap (λ (ks : _). set.from_list ks)
    (sym (map-append (λ (row : ℤ × ℤ). row.0) (take c.loop-session.session-index c.args.rows.now)
    (get_or c.args.rows.now c.loop-session.session-index (pos 0, pos 0) ∷ [])))
    ∙ ap (λ (rows : _). set.from_list (map (λ (row : ℤ × ℤ). row.0) rows))
    (sym (take_more c.args.rows.now c.loop-session.session-index (pos 0, pos 0) within))
