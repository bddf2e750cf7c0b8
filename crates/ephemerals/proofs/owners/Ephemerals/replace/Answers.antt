use Rattle.std.proofs.Common.{◌≡◌, ap, sym, ◌∙◌, to_z, of_z, w64}
use Rattle.std.proofs.lemmas.Int.{to_z-of_z}
use Rattle.ephemerals.specs.Pairs.{with_pair, without_pair, with_other_owner}
use Rattle.ephemerals.proofs.OtherOwner.{with_other_owner-same, with_other_owner-apart}
use Rattle.ephemerals.proofs.Ties.{apart_sessions}
use Rattle.ephemerals.proofs.owners.Ephemerals.replace.Goals as goal

pub returns-then-old-new-clause-ok : goal.returns-then-old-new-clause-ok
returns-then-old-new-clause-ok c =
    let same : c.args.old ≡ c.args.new =
    sym (to_z-of_z w64 c.args.old c.ranges.old)
    ∙ ap (to_z w64) c.if-old-new.true
    ∙ to_z-of_z w64 c.args.new c.ranges.new in
    c.in_ok-add.ensures.ok
    ∙ (λ i. with_pair c.args.self.now (to_z-of_z w64 c.args.new c.ranges.new i) c.args.path.now)
    ∙ with_other_owner-same c.args.self.now c.args.new c.args.path.now
    ∙ (λ i. with_other_owner c.args.self.now c.args.path.now (sym same i) c.args.new)

pub returns-clause-ok : goal.returns-clause-ok
returns-clause-ok c =
    c.remove.ensures
    ∙ (λ i. without_pair (c.in_ok-add.ensures.ok i) (to_z-of_z w64 c.args.old c.ranges.old i) c.args.path.now)
    ∙ (λ i. without_pair (with_pair c.args.self.now (to_z-of_z w64 c.args.new c.ranges.new i) c.args.path.now)
    c.args.old c.args.path.now)
    ∙ with_other_owner-apart c.args.self.now c.args.old c.args.new c.args.path.now
    (apart_sessions c.args.old c.args.new (λ e. c.if-old-new.false (ap (of_z w64) e)))
