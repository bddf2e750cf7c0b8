use mir.Val.{SFits}
use Rattle.std.proofs.Common.{rules, ◌≡◌, true, None, ap, ◌∙◌, w64}
use Rattle.std.proofs.lemmas.Int.{to_z-of_z}
use Rattle.std.specs.Cmp.{int_cmp_total}
use Rattle.std.proofs.lemmas.Map.Lookups.{exact_signed}
use Rattle.std.specs.FinMap as finmap
use Rattle.forwarding.specs.State.{pending_table_of}
use Rattle.forwarding.specs.Pending.{is_idle}
use Rattle.values.proofs.Keyed.{remove_absent, remove_inserted}
use Rattle.forwarding.proofs.Agreeing.{agreement_is_kept}
use Rattle.forwarding.proofs.table.Pending.push_connect.Goals as goal

pub invariant_of-self-in-Ok : goal.invariant_of-self-in-Ok
invariant_of-self-in-Ok c =
    let free : is_idle (pending_table_of c.self.inside.queues c.self.inside.syncs c.self.inside.connects
    c.self.inside.touched) c.args.number ≡ true =
    ap (λ s. is_idle s c.args.number) c.self.view_is ∙ c.requires.idle in
    let none : finmap.get c.self.inside.connects c.args.connect.session ≡ None =
    ap (λ s. finmap.get s.connects c.args.connect.session) c.self.view_is ∙ c.requires.free in
    let fits : SFits w64 c.args.connect.session = search rules in
    rw (
      c.in-Ok.ensures.ok,
      c.in_ok-set.ensures.ok
          ∙ ap (λ session. finmap.insert c.self.inside.connects session c.args.number)
          (to_z-of_z w64 c.args.connect.session fits),
    )
    (agreement_is_kept.pushes_connect _ c.args.number c.args.connect c.self.invariant free none)

pub invariant_of-self-in-Err : goal.invariant_of-self-in-Err
invariant_of-self-in-Err c =
    let none : finmap.get c.self.inside.connects c.args.connect.session ≡ None =
    ap (λ s. finmap.get s.connects c.args.connect.session) c.self.view_is ∙ c.requires.free in
    let fits : SFits w64 c.args.connect.session = search rules in
    rw (
      c.in-Err.ensures.err,
      c.remove_connect.ensures
          ∙ ap (λ m. finmap.remove m c.args.connect.session) (c.in_ok-set.ensures.ok
          ∙ ap (λ session. finmap.insert c.self.inside.connects session c.args.number)
          (to_z-of_z w64 c.args.connect.session fits))
          ∙ remove_inserted int_cmp_total exact_signed c.self.inside.connects c.args.connect.session c.args.number
          ∙ remove_absent int_cmp_total exact_signed c.self.inside.connects c.args.connect.session none,
    )
    c.self.invariant

pub returns-in-Err-clause-err : goal.returns-in-Err-clause-err
returns-in-Err-clause-err c =
    let none : finmap.get c.self.inside.connects c.args.connect.session ≡ None =
    ap (λ s. finmap.get s.connects c.args.connect.session) c.self.view_is ∙ c.requires.free in
    let fits : SFits w64 c.args.connect.session = search rules in
    rw (
      c.in-Err.ensures.err,
      c.remove_connect.ensures
          ∙ ap (λ m. finmap.remove m c.args.connect.session) (c.in_ok-set.ensures.ok
          ∙ ap (λ session. finmap.insert c.self.inside.connects session c.args.number)
          (to_z-of_z w64 c.args.connect.session fits))
          ∙ remove_inserted int_cmp_total exact_signed c.self.inside.connects c.args.connect.session c.args.number
          ∙ remove_absent int_cmp_total exact_signed c.self.inside.connects c.args.connect.session none,
    )
    c.self.view_is
