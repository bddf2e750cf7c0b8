use Rattle.std.proofs.Common.{rules, ◌≡◌, ap, sym, ◌∙◌, Some, None, to_z, of_z, w32, w64}
use Rattle.std.specs.FinMap as finmap
use Rattle.std.specs.Cmp.{nat_cmp_total}
use Rattle.std.proofs.lemmas.Map.Lookups.{exact_unsigned}
use Rattle.std.proofs.lemmas.Int.{to_z-of_z}
use Rattle.sessions.specs.State.{SessionTable}
use Rattle.values.proofs.Keyed.{remove_absent, remove_inserted, not-some}
use Rattle.sessions.proofs.Agreeing.{joins, joins_older, gives_older}
use Rattle.sessions.proofs.table.Sessions.admit.Goals as goal

pub invariant_of-self-in-Err : goal.invariant_of-self-in-Err
invariant_of-self-in-Err c =
    let free : finmap.get c.self.inside.connections c.args.connection ≡ None =
    ap (λ (s : SessionTable). finmap.get s.connections c.args.connection) c.self.view_is ∙ c.requires in
    rw (
      c.in-Err.ensures.err,
      c.close.ensures ∙ ap (λ m. finmap.remove m c.args.connection) c.in_ok-add.ensures.ok
          ∙ remove_inserted nat_cmp_total exact_unsigned c.self.inside.connections c.args.connection _
          ∙ remove_absent nat_cmp_total exact_unsigned c.self.inside.connections c.args.connection free,
    ) c.self.invariant

pub returns-in-Err-clause-err : goal.returns-in-Err-clause-err
returns-in-Err-clause-err c =
    let free : finmap.get c.self.inside.connections c.args.connection ≡ None =
    ap (λ (s : SessionTable). finmap.get s.connections c.args.connection) c.self.view_is ∙ c.requires in
    rw (
      c.in-Err.ensures.err,
      c.close.ensures ∙ ap (λ m. finmap.remove m c.args.connection) c.in_ok-add.ensures.ok
          ∙ remove_inserted nat_cmp_total exact_unsigned c.self.inside.connections c.args.connection _
          ∙ remove_absent nat_cmp_total exact_unsigned c.self.inside.connections c.args.connection free,
    ) c.self.view_is

pub invariant_of-self-in-Some : goal.invariant_of-self-in-Some
invariant_of-self-in-Some c =
    let here : to_z w64 (of_z w64 c.args.session) ≡ c.args.session = to_z-of_z w64 c.args.session c.ranges.session in
    let free : finmap.get c.self.inside.connections c.args.connection ≡ None =
    ap (λ (s : SessionTable). finmap.get s.connections c.args.connection) c.self.view_is ∙ c.requires in
    let has : finmap.get c.self.inside.owners c.args.session ≡ Some c.in-Some.older =
    (λ i. finmap.get c.self.inside.owners (sym here i)) ∙ sym c.get-older.ensures ∙ c.in-Some.is in
    rw (c.in-Ok.ensures.ok, c.close-in-Some.ensures, c.in_ok-add.ensures.ok, here)
    (joins_older _ c.args.connection c.args.session _ c.in-Some.older c.self.invariant free has)

pub invariant_of-self-in-Ok : goal.invariant_of-self-in-Ok
invariant_of-self-in-Ok c =
    let here : to_z w64 (of_z w64 c.args.session) ≡ c.args.session = to_z-of_z w64 c.args.session c.ranges.session in
    let free : finmap.get c.self.inside.connections c.args.connection ≡ None =
    ap (λ (s : SessionTable). finmap.get s.connections c.args.connection) c.self.view_is ∙ c.requires in
    let none : finmap.get c.self.inside.owners c.args.session ≡ None =
    (λ i. finmap.get c.self.inside.owners (sym here i)) ∙ sym c.get-older.ensures
    ∙ not-some c.get-older.result c.in_default.not-Some in
    rw (c.in-Ok.ensures.ok, c.in_ok-add.ensures.ok, here)
    (joins _ c.args.connection c.args.session _ c.self.invariant free none)

pub returns-in-Some-clause-ok : goal.returns-in-Some-clause-ok
returns-in-Some-clause-ok c =
    let here : to_z w64 (of_z w64 c.args.session) ≡ c.args.session = to_z-of_z w64 c.args.session c.ranges.session in
    let same_time : to_z w32 (of_z w32 c.args.time_out) ≡ c.args.time_out =
    to_z-of_z w32 c.args.time_out c.ranges.time_out in
    let free : finmap.get c.self.inside.connections c.args.connection ≡ None =
    ap (λ (s : SessionTable). finmap.get s.connections c.args.connection) c.self.view_is ∙ c.requires in
    let has : finmap.get c.self.inside.owners c.args.session ≡ Some c.in-Some.older =
    (λ i. finmap.get c.self.inside.owners (sym here i)) ∙ sym c.get-older.ensures ∙ c.in-Some.is in
    let told : to_z w32 (of_z w32 c.response_for-response.result.time_out) ≡ c.response_for-response.result.time_out =
    to_z-of_z w32 c.response_for-response.result.time_out (search rules) in
    rw (
      c.in-Ok.ensures.ok,
      c.close-in-Some.ensures,
      c.in_ok-add.ensures.ok,
      told,
      c.response_for-response.ensures,
      here,
      same_time,
      ← c.self.view_is,
    )
    (gives_older _ c.args.connection c.args.session c.args.time_out c.in-Some.older c.self.invariant free has)
