use Rattle.std.proofs.Common.{◌≡◌, pos, false, ap, ◌∙◌, of_z, w64}
use Rattle.std.proofs.lemmas.Int.{to_z-of_z}
use Rattle.std.specs.Ordering.{int_eq}
use Rattle.std.specs.FinSet as set
use Rattle.ephemerals.specs.Orders.{OwnerPairs}
use Rattle.ephemerals.specs.Pairs.{without_pair}
use Rattle.ephemerals.specs.Inner.OwnersView.{number_of_session}
use Rattle.ephemerals.proofs.Ties.{apart_sessions}
use Rattle.ephemerals.proofs.OwnersView.{owners-without}
use Rattle.ephemerals.proofs.owners.Ephemerals.remove.Goals as goal

pub returns : goal.returns
returns c =
    let number : c.number_of_session.result ≡ number_of_session c.args.session =
    c.number_of_session.ensures ∙ ap number_of_session (to_z-of_z w64 c.args.session c.ranges.session) in
    let apart : int_eq c.args.session (pos 0) ≡ false =
    apart_sessions c.args.session (pos 0) (λ e. c.if-session-eq0.false (ap (of_z w64) e)) in
    owners-without c.self.inside.pairs c.remove.new.self c.args.session c.args.path.now apart
    (c.remove.ensures ∙ ap (λ n. set.remove c.self.inside.pairs (c.args.path.now, n)) number)
    ∙ ap (λ (s : OwnerPairs). without_pair s c.args.session c.args.path.now) c.self.view_is
