use Rattle.std.proofs.Common.{◌∙◌, subst, sym, to_z, of_z, w64}
use Rattle.std.specs.FinSet as set
use Rattle.forwarding.specs.Inner.{IsTouched}
use Rattle.std.proofs.lemmas.Int.{to_z-of_z}
use Rattle.std.specs.Cmp.{int_cmp_total}
use Rattle.std.proofs.lemmas.Map.Lookups.{exact_signed}
use Rattle.values.proofs.Keyed.{set_of-insert}
use Rattle.forwarding.proofs.SessionSets.{touched_by_insert}
use Rattle.forwarding.proofs.touched.Touched.insert.Goals as goal

pub returns-clause-ok : goal.returns-clause-ok
returns-clause-ok c =
    set_of-insert int_cmp_total exact_signed (to_z w64 (of_z w64 c.args.session)) c.self.inside.sessions c.insert.new.self
    c.in_ok-insert.ensures.updates
    ∙ (λ i. set.insert (c.self.view_is i) (to_z-of_z w64 c.args.session c.ranges.session i))

pub invariant_of-self-2 : goal.invariant_of-self-2
invariant_of-self-2 c =
    subst (λ t. IsTouched t (to_z w64 (of_z w64 c.args.session)))
    (sym (set_of-insert int_cmp_total exact_signed (to_z w64 (of_z w64 c.args.session)) c.self.inside.sessions c.insert.new.self
    c.in_ok-insert.ensures.updates))
    (touched_by_insert (set.from_list c.self.inside.sessions.keys) (to_z w64 (of_z w64 c.args.session)))
