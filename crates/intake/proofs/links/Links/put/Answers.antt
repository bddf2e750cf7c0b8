use Rattle.std.proofs.Common.{◌≡◌, None, ℕ, List, [], ◌∷◌, arith, ap, sym, ◌∙◌, subst, refl, inl, inr}
use Rattle.std.specs.Prelude.{IsSome, Contains, OnOk}
use Rattle.std.specs.FinMap as finmap
use Rattle.std.proofs.lemmas.List.Elements.{Contains-append_left, Contains-append_right}
use Rattle.world.proofs.NatMaps.{seen}
use Rattle.intake.specs.Links.{Links, AllStay, PutsShares}
use Rattle.intake.proofs.Keeping.{written_over, all_stay, puts_ok, drops_is, stays_put, none_there}
use Rattle.intake.proofs.Kept.{among_written, keeps_some, keeps_none}
use Rattle.intake.proofs.links.Links.put.Goals as goal
use Rattle.intake.proofs.links.Links.put.Goals.{else-keeps-via-then-keeps+else-not-kept_before, else-keeps-via-else-keeps}

pub returns-in-None-clause-ok : goal.returns-in-None-clause-ok
returns-in-None-clause-ok c =
    let new = seen c.get_mut.follows.lender-at-none.entries in
    let is = ap (λ m. seen m.entries) c.get_mut.follows.holds-at-none ∙ c.self.view_is in
    let P : ℕ → Type 0 = λ k. None ≡ finmap.get c.args.self.now k in
    drops_is c.args.self.now new c.args.output is
    (subst P c.port_of-number.ensures
    (none_there c.self.inside.map c.args.self.now c.port_of-number.result c.self.view_is c.in-None.ensures.value))

pub invariant_of-self-then-not-kept_before : goal.invariant_of-self-then-not-kept_before
invariant_of-self-then-not-kept_before c =
    let now = c.put-put.new.self in
    let number = c.port_of-number.result in
    let old = seen c.self.inside.map.entries in
    let w = written_over c.self.inside.map (c.get_mut.follows.lender now) old number c.in-Some.link.now now refl
    c.in-Some.ensures.value ((c.get_mut.follows.holds now).3 (subst IsSome c.in-Some.ensures.value refl)) in
    let P : List ℕ → Type 0 = λ l. Contains l number in
    let listed = c.push_reserved.ensures.items in
    let kept = c.in_ok-reserve.ensures.items in
    among_written c.self.inside.keeping.items c.push_reserved.new.self.items old number c.in-Some.link.now now
    (seen (c.get_mut.follows.lender now).entries) w
    (λ n there. let Q : List ℕ → Type 0 = λ l. Contains l n in
    subst Q (sym listed)
    (Contains-append_left c.reserve.new.self.items (number ∷ []) n (subst Q (sym kept) there)))
    (λ h. inr (subst P (sym listed)
    (Contains-append_right c.reserve.new.self.items (number ∷ []) number (0, omega arith, refl))))
    c.self.invariant

pub invariant_of-self-else-not-kept_before : goal.invariant_of-self-else-not-kept_before
invariant_of-self-else-not-kept_before c =
    let now = c.put-put.new.self in
    let number = c.port_of-number.result in
    let old = seen c.self.inside.map.entries in
    let w = written_over c.self.inside.map (c.get_mut.follows.lender now) old number c.in-Some.link.now now refl
    c.in-Some.ensures.value ((c.get_mut.follows.holds now).3 (subst IsSome c.in-Some.ensures.value refl)) in
    let kept = c.in_ok-reserve.ensures.items in
    among_written c.self.inside.keeping.items c.reserve.new.self.items old number c.in-Some.link.now now
    (seen (c.get_mut.follows.lender now).entries) w
    (λ n there. let Q : List ℕ → Type 0 = λ l. Contains l n in subst Q (sym kept) there)
    (λ h. elim h [
      | inl none ↦ absurd (keeps_some c.keeps-kept_before.result c.in-Some.link.now.kept.items
          c.keeps-kept_before.ensures c.if-not-kept_before.false none)
      | inr there ↦ inr (let Q : List ℕ → Type 0 = λ l. Contains l number in subst Q (sym kept) there)
    ])
    c.self.invariant

pub invariant_of-self-else-keeps : goal.invariant_of-self-else-keeps
invariant_of-self-else-keeps c =
    let now = c.put-put.new.self in
    let number = c.port_of-number.result in
    let old = seen c.self.inside.map.entries in
    let w = written_over c.self.inside.map (c.get_mut.follows.lender now) old number c.in-Some.link.now now refl
    c.in-Some.ensures.value ((c.get_mut.follows.holds now).3 (subst IsSome c.in-Some.ensures.value refl)) in
    let kept = c.in_ok-reserve.ensures.items in
    among_written c.self.inside.keeping.items c.reserve.new.self.items old number c.in-Some.link.now now
    (seen (c.get_mut.follows.lender now).entries) w
    (λ n there. let Q : List ℕ → Type 0 = λ l. Contains l n in subst Q (sym kept) there)
    (λ h. inl (keeps_none c.keeps.result now.kept.items c.keeps.ensures c.if-keeps.false))
    c.self.invariant

pub returns-then-not-kept_before-clause-ok : goal.returns-then-not-kept_before-clause-ok
returns-then-not-kept_before-clause-ok c =
    let now = c.put-put.new.self in
    let new = seen (c.get_mut.follows.lender now).entries in
    let w = written_over c.self.inside.map (c.get_mut.follows.lender now) c.args.self.now c.port_of-number.result
    c.in-Some.link.now now
    c.self.view_is c.in-Some.ensures.value
    ((c.get_mut.follows.holds now).3 (subst IsSome c.in-Some.ensures.value refl)) in
    let same = stays_put c.in-Some.link.now now c.put-put.ensures.outbox c.put-put.ensures.inbox
    c.put-put.ensures.slot in
    puts_ok c.put-put.result c.args.self.now c.port_of-number.result c.in-Some.link.now now new c.args.output
    c.port_of-number.ensures w same c.put-put.ensures.inbox c.put-put.ensures.owes c.put-put.ensures.full

pub returns-then-not-kept_before-clause-stay : goal.returns-then-not-kept_before-clause-stay
returns-then-not-kept_before-clause-stay c =
    let now = c.put-put.new.self in
    let new = seen (c.get_mut.follows.lender now).entries in
    let w = written_over c.self.inside.map (c.get_mut.follows.lender now) c.args.self.now c.port_of-number.result
    c.in-Some.link.now now
    c.self.view_is c.in-Some.ensures.value
    ((c.get_mut.follows.holds now).3 (subst IsSome c.in-Some.ensures.value refl)) in
    all_stay c.args.self.now c.port_of-number.result c.in-Some.link.now now new w
    (stays_put c.in-Some.link.now now c.put-put.ensures.outbox c.put-put.ensures.inbox c.put-put.ensures.slot)

pub returns-else-keeps-clause-ok : goal.returns-else-keeps-clause-ok
returns-else-keeps-clause-ok c =
    let now = c.put-put.new.self in
    let new = seen (c.get_mut.follows.lender now).entries in
    let w = written_over c.self.inside.map (c.get_mut.follows.lender now) c.args.self.now c.port_of-number.result
    c.in-Some.link.now now
    c.self.view_is c.in-Some.ensures.value
    ((c.get_mut.follows.holds now).3 (subst IsSome c.in-Some.ensures.value refl)) in
    let same = stays_put c.in-Some.link.now now c.put-put.ensures.outbox c.put-put.ensures.inbox
    c.put-put.ensures.slot in
    let ok = puts_ok c.put-put.result c.args.self.now c.port_of-number.result c.in-Some.link.now now new c.args.output
    c.port_of-number.ensures w same c.put-put.ensures.inbox c.put-put.ensures.owes c.put-put.ensures.full in
    let P : Links → Type 0 = λ l. OnOk c.put-put.result (PutsShares c.args.self.now (c.args.output ∷ []) l) in
    elim c.else-keeps.branch [
      | else-keeps-via-then-keeps+else-not-kept_before b ↦ subst P (sym b.self-is) ok
      | else-keeps-via-else-keeps b ↦ subst P (sym b.self-is) ok
    ]

pub returns-else-keeps-clause-stay : goal.returns-else-keeps-clause-stay
returns-else-keeps-clause-stay c =
    let now = c.put-put.new.self in
    let new = seen (c.get_mut.follows.lender now).entries in
    let w = written_over c.self.inside.map (c.get_mut.follows.lender now) c.args.self.now c.port_of-number.result
    c.in-Some.link.now now
    c.self.view_is c.in-Some.ensures.value
    ((c.get_mut.follows.holds now).3 (subst IsSome c.in-Some.ensures.value refl)) in
    let stay = all_stay c.args.self.now c.port_of-number.result c.in-Some.link.now now new w
    (stays_put c.in-Some.link.now now c.put-put.ensures.outbox c.put-put.ensures.inbox c.put-put.ensures.slot) in
    let P : Links → Type 0 = λ l. AllStay c.args.self.now l in
    elim c.else-keeps.branch [
      | else-keeps-via-then-keeps+else-not-kept_before b ↦ subst P (sym b.self-is) stay
      | else-keeps-via-else-keeps b ↦ subst P (sym b.self-is) stay
    ]
