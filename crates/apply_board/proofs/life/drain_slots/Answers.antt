use Rattle.std.proofs.Common.{rules, ap, sym, ◌∙◌, ◌≡◌, arith, refl, subst, Some, Option}
use mathlib.Core.Option.{some-injective}
use lib.ListN.{get_elem?}
use Rattle.std.specs.Mem.Slots.{slots_items, slots_filled, slots_len}
use Rattle.std.proofs.Common.{get_or, false}
use Rattle.apply_board.proofs.Filling.{take_one_more, takes_one}
use Rattle.apply_board.proofs.life.drain_slots.Goals as goal

pub unreachable-requires : goal.unreachable-requires
unreachable-requires g c = let inv = c.loop-next.invariant in let t = c.loop-next-test.true in
    let n = c.slot_count.ensures in
    let h = c.requires.full c.loop-next.next (let count = c.requires.count in omega arith) in
    c.in_default.not-Some h.0 (some-injective _ _ (sym c.take.ensures.value
    ∙ (ap (λ l. get_elem? l c.loop-next.next) inv.0 ∙ h.1)))

pub loop-next-preserved : goal.loop-next-preserved
loop-next-preserved g c = let inv = c.loop-next.invariant in let t = c.loop-next-test.true in
    let n = c.slot_count.ensures in let o = c.in-Some.ensures.others in let p = c.push_reserved.ensures in
    let next = c.loop-next.next in
    let v = ap (λ l. get_elem? l next) (sym inv.0) ∙ c.in-Some.ensures.value in let len = p.len in
    let cap = p.capacity in (
      o.0 ∙ inv.0,
      o.2 ∙ inv.1,
      takes_one (slots_filled c.loop-next.closed.slots) (slots_filled c.take.new.self.slots) next
          (slots_len c.loop-next.closed.slots) (slots_len c.take.new.self.slots) o.1 o.2 inv.2,
      ap (λ l. Rattle.std.proofs.Common.map Some l) p.items
          ∙ take_one_more Some c.loop-next.groups.items c.in-Some.group (slots_items c.args.closed.slots) next inv.3 v,
      omega arith,
      omega arith,
      p.capacity ∙ inv.6,
    )
