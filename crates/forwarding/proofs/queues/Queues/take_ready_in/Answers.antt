use Rattle.std.proofs.Common.{◌≡◌, Option, Some, None, subst, refl, sym, ap, ◌∙◌}
use Rattle.std.specs.Prelude.{IsSome}
use Rattle.std.specs.Cmp.{nat_cmp_total}
use Rattle.std.proofs.lemmas.Map.Lookups.{exact_unsigned}
use Rattle.std.specs.FinMap as finmap
use Rattle.forwarding.specs.Queue.{RequestQueue, ready_request, without_front_if}
use Rattle.forwarding.specs.Pending.{queue_in}
use Rattle.forwarding.specs.Inner.{with_changed}
use Rattle.values.proofs.Keyed.{get-map_of, map_of-insert}
use Rattle.forwarding.proofs.queues.Queues.take_ready_in.Goals as goal

pub returns-in-None-clause-ready : goal.returns-in-None-clause-ready
returns-in-None-clause-ready c =
    let none : None ≡ finmap.get c.args.self.now c.args.number =
    c.in-None.ensures.value ∙ sym (get-map_of nat_cmp_total exact_unsigned c.self.inside.map c.args.number)
    ∙ ap (λ m. finmap.get m c.args.number) c.self.view_is in
    ap (λ (o : Option RequestQueue). ready_request (queue_in o)) none

pub returns-in-None-clause-rest : goal.returns-in-None-clause-rest
returns-in-None-clause-rest c =
    let none : None ≡ finmap.get c.args.self.now c.args.number =
    c.in-None.ensures.value ∙ sym (get-map_of nat_cmp_total exact_unsigned c.self.inside.map c.args.number)
    ∙ ap (λ m. finmap.get m c.args.number) c.self.view_is in
    ap (λ m. finmap.from_entries m.entries) c.get_mut.follows.holds-at-none ∙ c.self.view_is
    ∙ ap (with_changed c.args.self.now c.args.number (λ q. without_front_if (ready_request q) q)) none

pub returns-clause-ready : goal.returns-clause-ready
returns-clause-ready c =
    let some : Some c.in-Some.queue.now ≡ finmap.get c.args.self.now c.args.number =
    c.in-Some.ensures.value ∙ sym (get-map_of nat_cmp_total exact_unsigned c.self.inside.map c.args.number)
    ∙ ap (λ m. finmap.get m c.args.number) c.self.view_is in
    c.take_ready.ensures.ready ∙ ap (λ (o : Option RequestQueue). ready_request (queue_in o)) some

pub returns-clause-rest : goal.returns-clause-rest
returns-clause-rest c =
    let some : Some c.in-Some.queue.now ≡ finmap.get c.args.self.now c.args.number =
    c.in-Some.ensures.value ∙ sym (get-map_of nat_cmp_total exact_unsigned c.self.inside.map c.args.number)
    ∙ ap (λ m. finmap.get m c.args.number) c.self.view_is in
    let w = c.take_ready.new.self in
    map_of-insert nat_cmp_total exact_unsigned c.args.number c.self.inside.map (c.get_mut.follows.lender w) w
    ((c.get_mut.follows.holds w).3 (subst IsSome c.in-Some.ensures.value refl))
    ∙ (λ i. finmap.insert (c.self.view_is i) c.args.number (c.take_ready.ensures.rest i))
    ∙ ap (with_changed c.args.self.now c.args.number (λ q. without_front_if (ready_request q) q)) some
