use Rattle.std.proofs.Common.{◌++◌, length, ap, sym, ◌∙◌, subst, refl}
use Rattle.std.specs.Prelude.{IsSome}
use Rattle.std.specs.FinMap as finmap
use Rattle.world.proofs.NatMaps.{seen, get-seen}
use Rattle.intake.specs.Links.{Links, taken_from, waiting_from, put_to}
use Rattle.intake.proofs.Keeping.{written_over, rests_at, none_there, no_end, end_there, is_there}
use Rattle.intake.proofs.Kept.{among_same}
use Rattle.intake.proofs.links.Links.left.Goals as goal

pub returns-in-None-clause-count : goal.returns-in-None-clause-count
returns-in-None-clause-count c =
    absurd (no_end c.args.end.now (finmap.get c.args.self.now c.args.end.now.number)
    (none_there c.self.inside.map c.args.self.now c.args.end.now.number c.self.view_is c.in-None.ensures.value)
    c.requires)

pub returns-in-None-clause-sent : goal.returns-in-None-clause-sent
returns-in-None-clause-sent c =
    absurd (no_end c.args.end.now (finmap.get c.args.self.now c.args.end.now.number)
    (none_there c.self.inside.map c.args.self.now c.args.end.now.number c.self.view_is c.in-None.ensures.value)
    c.requires)

pub returns-in-None-clause-received : goal.returns-in-None-clause-received
returns-in-None-clause-received c =
    absurd (no_end c.args.end.now (finmap.get c.args.self.now c.args.end.now.number)
    (none_there c.self.inside.map c.args.self.now c.args.end.now.number c.self.view_is c.in-None.ensures.value)
    c.requires)

pub left-requires : goal.left-requires
left-requires c = end_there c.args.end.now (finmap.get c.args.self.now c.args.end.now.number) c.in-Some.link.now
    (c.in-Some.ensures.value ∙ sym (get-seen c.self.inside.map c.args.end.now.number)
    ∙ ap (λ (l : Links). finmap.get l c.args.end.now.number) c.self.view_is) c.requires

pub returns-clause-count : goal.returns-clause-count
returns-clause-count c =
    let now = c.left.new.self in
    let w = written_over c.self.inside.map (c.get_mut.follows.lender now) c.args.self.now c.args.end.now.number
    c.in-Some.link.now now
    c.self.view_is c.in-Some.ensures.value
    ((c.get_mut.follows.holds now).3 (subst IsSome c.in-Some.ensures.value refl)) in
    c.left.ensures.count ∙ ap (λ o. length (waiting_from o))
    (sym (is_there c.args.self.now c.args.end.now.number c.in-Some.link.now now
    (seen (c.get_mut.follows.lender now).entries) w))

pub returns-clause-sent : goal.returns-clause-sent
returns-clause-sent c =
    let now = c.left.new.self in
    let w = written_over c.self.inside.map (c.get_mut.follows.lender now) c.args.self.now c.args.end.now.number
    c.in-Some.link.now now
    c.self.view_is c.in-Some.ensures.value
    ((c.get_mut.follows.holds now).3 (subst IsSome c.in-Some.ensures.value refl)) in
    ap (λ o. taken_from o ++ waiting_from o)
    (is_there c.args.self.now c.args.end.now.number c.in-Some.link.now now
    (seen (c.get_mut.follows.lender now).entries) w) ∙ c.left.ensures.sent

pub returns-clause-received : goal.returns-clause-received
returns-clause-received c =
    let now = c.left.new.self in
    let w = written_over c.self.inside.map (c.get_mut.follows.lender now) c.args.self.now c.args.end.now.number
    c.in-Some.link.now now
    c.self.view_is c.in-Some.ensures.value
    ((c.get_mut.follows.holds now).3 (subst IsSome c.in-Some.ensures.value refl)) in
    c.left.ensures.received ∙ ap put_to
    (sym (is_there c.args.self.now c.args.end.now.number c.in-Some.link.now now
    (seen (c.get_mut.follows.lender now).entries) w))

pub returns-clause-links : goal.returns-clause-links
returns-clause-links c =
    let now = c.left.new.self in
    let w = written_over c.self.inside.map (c.get_mut.follows.lender now) c.args.self.now c.args.end.now.number
    c.in-Some.link.now now
    c.self.view_is c.in-Some.ensures.value
    ((c.get_mut.follows.holds now).3 (subst IsSome c.in-Some.ensures.value refl)) in
    rests_at c.args.self.now c.args.end.now.number c.in-Some.link.now now (seen (c.get_mut.follows.lender now).entries)
    w c.left.ensures.link c.left.ensures.took c.left.ensures.owes

pub invariant_of-self-2 : goal.invariant_of-self-2
invariant_of-self-2 c =
    let now = c.left.new.self in
    let old = seen c.self.inside.map.entries in
    let w = written_over c.self.inside.map (c.get_mut.follows.lender now) old c.args.end.now.number c.in-Some.link.now now refl
    c.in-Some.ensures.value ((c.get_mut.follows.holds now).3 (subst IsSome c.in-Some.ensures.value refl)) in
    among_same c.self.inside.keeping.items old c.args.end.now.number c.in-Some.link.now now
    (seen (c.get_mut.follows.lender now).entries) w c.left.ensures.kept c.self.invariant
