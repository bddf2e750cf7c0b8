use Rattle.std.proofs.Common.{subst, refl}
use Rattle.std.specs.Prelude.{IsSome}
use Rattle.world.proofs.NatMaps.{seen}
use Rattle.intake.proofs.Keeping.{written_over, looks_there, stays_took}
use Rattle.intake.proofs.Kept.{among_same}
use Rattle.intake.proofs.links.Links.look.Goals as goal

pub returns : goal.returns
returns c =
    let now = c.look.new.self in
    let w = written_over c.self.inside.map (c.get_mut.follows.lender now) c.args.self.now c.args.number
    c.in-Some.link.now now
    c.self.view_is c.in-Some.ensures.value
    ((c.get_mut.follows.holds now).3 (subst IsSome c.in-Some.ensures.value refl)) in
    looks_there c.args.self.now c.args.number c.in-Some.link.now now (seen (c.get_mut.follows.lender now).entries) w
    (stays_took c.in-Some.link.now now c.look.ensures.inbox.0 c.look.ensures.outbox.0 c.look.ensures.slot)
    c.look.ensures.inbox.1 c.look.ensures.outbox

pub invariant_of-self-2 : goal.invariant_of-self-2
invariant_of-self-2 c =
    let now = c.look.new.self in
    let old = seen c.self.inside.map.entries in
    let w = written_over c.self.inside.map (c.get_mut.follows.lender now) old c.args.number c.in-Some.link.now now refl
    c.in-Some.ensures.value ((c.get_mut.follows.holds now).3 (subst IsSome c.in-Some.ensures.value refl)) in
    among_same c.self.inside.keeping.items old c.args.number c.in-Some.link.now now
    (seen (c.get_mut.follows.lender now).entries) w c.look.ensures.outbox.1 c.self.invariant
