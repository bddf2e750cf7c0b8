use Rattle.std.proofs.Common.{◌≡◌, Some, None, subst, refl, sym, ap, ◌∙◌}
use Rattle.std.specs.Prelude.{IsSome}
use Rattle.std.specs.Cmp.{nat_cmp_total}
use Rattle.std.proofs.lemmas.Map.Lookups.{exact_unsigned}
use Rattle.std.specs.FinMap as finmap
use Rattle.forwarding.specs.Queue.{with_oldest_settled}
use Rattle.forwarding.specs.Inner.{with_changed}
use Rattle.values.proofs.Keyed.{get-map_of, map_of-insert}
use Rattle.forwarding.proofs.queues.Queues.settle_in.Goals as goal

pub returns-in-None : goal.returns-in-None
returns-in-None c =
    let none : None ≡ finmap.get c.args.self.now c.args.number =
    c.in-None.ensures.value ∙ sym (get-map_of nat_cmp_total exact_unsigned c.self.inside.map c.args.number)
    ∙ ap (λ m. finmap.get m c.args.number) c.self.view_is in
    ap (λ m. finmap.from_entries m.entries) c.get_mut.follows.holds-at-none ∙ c.self.view_is
    ∙ ap (with_changed c.args.self.now c.args.number with_oldest_settled) none

pub returns : goal.returns
returns c =
    let some : Some c.in-Some.queue.now ≡ finmap.get c.args.self.now c.args.number =
    c.in-Some.ensures.value ∙ sym (get-map_of nat_cmp_total exact_unsigned c.self.inside.map c.args.number)
    ∙ ap (λ m. finmap.get m c.args.number) c.self.view_is in
    let w = c.settle.new.self in
    map_of-insert nat_cmp_total exact_unsigned c.args.number c.self.inside.map (c.get_mut.follows.lender w) w
    ((c.get_mut.follows.holds w).3 (subst IsSome c.in-Some.ensures.value refl))
    ∙ (λ i. finmap.insert (c.self.view_is i) c.args.number (c.settle.ensures i))
    ∙ ap (with_changed c.args.self.now c.args.number with_oldest_settled) some
