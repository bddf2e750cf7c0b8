use Rattle.std.proofs.Common.{◌≡◌, pos, false, not, ◌&&◌, ap, sym, subst, ◌∙◌, IfOk, of_z, w64}
use Rattle.std.proofs.lemmas.Int.{to_z-of_z}
use Rattle.std.proofs.lemmas.Result.{on_ok_weaker}
use Rattle.std.specs.Ordering.{int_eq}
use Rattle.std.specs.FinSet as set
use Rattle.ephemerals.specs.Orders.{OwnerPairs}
use Rattle.ephemerals.specs.Pairs.{with_pair}
use Rattle.ephemerals.specs.Inner.OwnersView.{number_of_session}
use Rattle.ephemerals.proofs.Ties.{apart_sessions}
use Rattle.ephemerals.proofs.OwnersView.{contains-owners, owners-with}
use Rattle.ephemerals.proofs.owners.Ephemerals.add.Goals as goal

pub returns-clause-ok : goal.returns-clause-ok
returns-clause-ok c =
    let number : c.number_of_session.result ≡ number_of_session c.args.session =
    c.number_of_session.ensures ∙ ap number_of_session (to_z-of_z w64 c.args.session c.ranges.session) in
    let apart : int_eq c.args.session (pos 0) ≡ false =
    apart_sessions c.args.session (pos 0) (λ e. c.if-session-eq0.false (ap (of_z w64) e)) in
    on_ok_weaker c.insert.result
    (λ is. owners-with c.self.inside.pairs c.insert.new.self c.args.session c.args.path.now apart
    (is ∙ ap (λ n. set.insert c.self.inside.pairs (c.args.path.now, n)) number)
    ∙ ap (λ (s : OwnerPairs). with_pair s c.args.session c.args.path.now) c.self.view_is)
    c.insert.ensures.ok

pub returns-clause-added : goal.returns-clause-added
returns-clause-added c =
    let number : c.number_of_session.result ≡ number_of_session c.args.session =
    c.number_of_session.ensures ∙ ap number_of_session (to_z-of_z w64 c.args.session c.ranges.session) in
    let apart : int_eq c.args.session (pos 0) ≡ false =
    apart_sessions c.args.session (pos 0) (λ e. c.if-session-eq0.false (ap (of_z w64) e)) in
    subst (λ b. IfOk c.insert.result (λ added. added ≡ b))
    (ap not (ap (λ n. set.contains c.self.inside.pairs (c.args.path.now, n)) number
    ∙ sym (contains-owners c.self.inside.pairs c.args.session c.args.path.now)
    ∙ ap (λ (s : OwnerPairs). set.contains s (c.args.session, c.args.path.now)) c.self.view_is)
    ∙ ap (λ b. not b && not (set.contains c.args.self.now (c.args.session, c.args.path.now))) (sym apart))
    c.insert.ensures.added
