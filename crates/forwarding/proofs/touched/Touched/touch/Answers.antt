use Rattle.std.proofs.Common.{◌∙◌, sym, to_z, of_z, w64}
use Rattle.std.specs.FinSet as set
use Rattle.std.proofs.lemmas.Int.{to_z-of_z}
use Rattle.forwarding.proofs.SessionSets.{insert_touched, last_touched}
use Rattle.forwarding.proofs.touched.Touched.touch.Goals as goal

pub returns-then-eq-clause-ok : goal.returns-then-eq-clause-ok
returns-then-eq-clause-ok c =
    sym c.self.view_is
    ∙ sym (insert_touched _ _ (last_touched _ c.self.inside.last (to_z w64 (of_z w64 c.args.session))
    (sym c.eq.ensures ∙ c.if-eq.true) c.self.invariant))
    ∙ (λ i. set.insert (c.self.view_is i) (to_z-of_z w64 c.args.session c.ranges.session i))
