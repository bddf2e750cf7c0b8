use Rattle.std.proofs.Common.{◌≡◌, false, length, refl, ap, sym, ◌∙◌, subst, rules}
use Rattle.port_hints.specs.Slots.{Slots, Given}
use Rattle.intake.specs.Links.{seen_at}
use Rattle.intake.specs.Desk.{Desk, IsSoundDesk}
use Rattle.intake.specs.Steps.{FeedsPort}
use Rattle.intake.proofs.Keeping.{all_stay_on}
use Rattle.intake.proofs.Adding.{seen_desk}
use Rattle.intake.proofs.Slots.{sound_stays, sound_closed, plays_open}
use Rattle.intake.proofs.Turning.{rest_after, plays_seen, fed}
use Rattle.intake.proofs.desk.Desk.feed.Goals as goal

pub returns-clause-ok : goal.returns-clause-ok
returns-clause-ok g c =
    let before = seen_desk c.self.inside.closed c.self.inside.engine c.self.inside.links c.self.inside.next
    c.self.inside.fresh.items c.self.inside.later.items in
    let after = seen_desk false c.play.new.engine c.put_all.new.self c.self.inside.next c.take.new.fresh.items
    c.self.inside.later.items in
    let seen = seen_at c.self.inside.links c.args.number in
    let begins : c.len-before.result ≡ length c.self.inside.fresh.items = search rules in
    let P : Desk → Type 0 = λ d. FeedsPort c.args.number d after in
    subst P c.self.view_is
    (fed c.args.number before after c.take.new.self c.play.new.outputs.items c.in_ok-take.ensures.ok
    c.in_ok-put_all.ensures.ok
    (λ m is. plays_seen c.self.inside.closed c.self.inside.engine c.play.new.engine _
    seen c.in_ok-outputs.outputs.items c.play.new.outputs.items m
    c.in_ok-play.ensures
    (rest_after c.deref.result.now c.self.inside.fresh.items seen c.len-before.result
    (c.deref.ensures.value ∙ c.in_ok-take.ensures.ok.list) begins)
    c.in_ok-outputs.ensures.items is)
    refl refl)

pub invariant_of-self : goal.invariant_of-self
invariant_of-self g c =
    sound_closed c.self.inside.closed c.self.inside.engine c.self.inside.engine c.self.inside.links c.take.new.self
    c.self.inside.next c.self.inside.marks.slots
    c.take.ensures.stay c.self.invariant

pub invariant_of-self-in_err-outputs : goal.invariant_of-self-in_err-outputs
invariant_of-self-in_err-outputs g c =
    sound_closed c.self.inside.closed c.self.inside.engine c.self.inside.engine c.self.inside.links c.take.new.self
    c.self.inside.next c.self.inside.marks.slots
    c.take.ensures.stay c.self.invariant

pub invariant_of-self-in_err-play : goal.invariant_of-self-in_err-play
invariant_of-self-in_err-play g c =
    sound_closed c.self.inside.closed c.self.inside.engine c.play.new.engine c.self.inside.links c.take.new.self
    c.self.inside.next c.self.inside.marks.slots
    c.take.ensures.stay c.self.invariant

pub invariant_of-self-in_err-put_all : goal.invariant_of-self-in_err-put_all
invariant_of-self-in_err-put_all g c =
    sound_closed c.self.inside.closed c.self.inside.engine c.play.new.engine c.self.inside.links c.put_all.new.self
    c.self.inside.next c.self.inside.marks.slots
    (all_stay_on c.self.inside.links c.take.new.self c.put_all.new.self c.take.ensures.stay c.put_all.ensures.stay) c.self.invariant

pub invariant_of-self-2 : goal.invariant_of-self-2
invariant_of-self-2 g c =
    let P : Slots → Type 0 = λ slots. IsSoundDesk false c.play.new.engine c.put_all.new.self c.self.inside.next slots in
    subst P (sym (ap (λ (m : Given). m.slots) c.add_put.ensures))
    (sound_stays c.self.inside.closed false c.self.inside.engine c.play.new.engine c.self.inside.links c.put_all.new.self
    c.self.inside.next c.self.inside.marks.slots
    (plays_open c.self.inside.engine c.play.new.engine _ c.in_ok-outputs.outputs.items c.play.new.outputs.items
    c.in_ok-play.ensures)
    (all_stay_on c.self.inside.links c.take.new.self c.put_all.new.self c.take.ensures.stay c.put_all.ensures.stay)
    c.self.invariant)
