use Rattle.std.proofs.Common.{[], ◌∷◌, refl, subst}
use Rattle.intake.specs.Desk.{Desk}
use Rattle.intake.specs.Steps.{ServesPorts}
use Rattle.intake.proofs.Adding.{seen_desk}
use Rattle.intake.proofs.Turning.{left_ok, serves_fed}
use Rattle.intake.proofs.desk.Desk.serve_client.Goals as goal

pub returns-then-stays_blocked-clause-ok : goal.returns-then-stays_blocked-clause-ok
returns-then-stays_blocked-clause-ok g c =
    left_ok c.leave.result c.args.number c.args.self.now c.args.self.now c.leave.new.self refl c.leave.ensures.ok

pub returns-then-not-reaches-clause-ok : goal.returns-then-not-reaches-clause-ok
returns-then-not-reaches-clause-ok g c =
    let before = seen_desk c.self.inside.closed c.self.inside.engine c.self.inside.links c.self.inside.next
    c.self.inside.fresh.items c.self.inside.later.items in
    left_ok c.leave-then-not-reaches.result c.args.number before c.args.self.now c.leave-then-not-reaches.new.self
    c.self.view_is c.leave-then-not-reaches.ensures.ok

pub returns-clause-ok : goal.returns-clause-ok
returns-clause-ok g c =
    let before = seen_desk c.self.inside.closed c.self.inside.engine c.self.inside.links c.self.inside.next
    c.self.inside.fresh.items c.self.inside.later.items in
    let P : Desk → Type 0 = λ d. ServesPorts (c.args.number ∷ []) d c.feed.new.self in
    subst P c.self.view_is
    (serves_fed c.args.number before c.feed.new.self c.if-number-eq0.false c.in_ok-taken.ensures.ok)
