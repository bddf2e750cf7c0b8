use Rattle.std.proofs.Common.{ap, ◌∙◌, subst, refl}
use Rattle.std.specs.Prelude.{IsSome}
use Rattle.world.proofs.NatMaps.{seen}
use Rattle.intake.proofs.Keeping.{written_over, all_stay, none_there, rests_is, takes_is, takes_ok, stays_took}
use Rattle.intake.proofs.Kept.{among_same}
use Rattle.intake.proofs.links.Links.take.Goals as goal

pub returns : goal.returns
returns c =
    let now = c.take.new.self in
    let new = seen (c.get_mut.follows.lender now).entries in
    let w = written_over c.self.inside.map (c.get_mut.follows.lender now) c.args.self.now c.args.number
    c.in-Some.link.now now
    c.self.view_is c.in-Some.ensures.value
    ((c.get_mut.follows.holds now).3 (subst IsSome c.in-Some.ensures.value refl)) in
    let same = stays_took c.in-Some.link.now now c.take.ensures.inbox c.take.ensures.outbox.0 c.take.ensures.slot in
    record {
      ok = takes_ok c.take.result c.args.self.now c.args.number c.in-Some.link.now now new c.args.fresh.now.items
          c.take.new.fresh.items w same c.take.ensures.list c.take.ensures.took c.take.ensures.waits
          c.take.ensures.outbox;
      stay = all_stay c.args.self.now c.args.number c.in-Some.link.now now new w same;
    }

pub returns-in-None : goal.returns-in-None
returns-in-None c =
    let new = seen c.get_mut.follows.lender-at-none.entries in
    let is = ap (λ m. seen m.entries) c.get_mut.follows.holds-at-none ∙ c.self.view_is in
    record {
      ok = takes_is c.args.self.now new c.args.number c.args.fresh.now.items is
          (none_there c.self.inside.map c.args.self.now c.args.number c.self.view_is c.in-None.ensures.value);
      stay = (rests_is c.args.self.now new is).stay;
    }

pub invariant_of-self-2 : goal.invariant_of-self-2
invariant_of-self-2 c =
    let now = c.take.new.self in
    let old = seen c.self.inside.map.entries in
    let w = written_over c.self.inside.map (c.get_mut.follows.lender now) old c.args.number c.in-Some.link.now now refl
    c.in-Some.ensures.value ((c.get_mut.follows.holds now).3 (subst IsSome c.in-Some.ensures.value refl)) in
    among_same c.self.inside.keeping.items old c.args.number c.in-Some.link.now now
    (seen (c.get_mut.follows.lender now).entries) w c.take.ensures.outbox.1 c.self.invariant
