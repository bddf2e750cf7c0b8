use Rattle.std.proofs.Common.{◌≡◌, Option, Some, None, not, length, sym, ap, ◌∙◌}
use Rattle.std.specs.Prelude.{is_some, nat_lt}
use Rattle.std.specs.Cmp.{nat_cmp_total}
use Rattle.std.proofs.lemmas.Map.Lookups.{exact_unsigned}
use Rattle.std.specs.FinMap as finmap
use Rattle.forwarding.specs.Queue.{RequestQueue, pending_limit}
use Rattle.forwarding.specs.Pending.{queue_in}
use Rattle.values.proofs.Keyed.{get-map_of}
use Rattle.forwarding.proofs.queues.Queues.occupancy.Goals as goal

pub returns-in-None-clause-idle : goal.returns-in-None-clause-idle
returns-in-None-clause-idle c =
    let none : None ≡ finmap.get c.args.self.now c.args.number =
    c.in-None.ensures.value ∙ sym (get-map_of nat_cmp_total exact_unsigned c.self.inside.map c.args.number)
    ∙ ap (λ m. finmap.get m c.args.number) c.self.view_is in
    ap (λ (o : Option RequestQueue). not (is_some o)) none

pub returns-in-None-clause-full : goal.returns-in-None-clause-full
returns-in-None-clause-full c =
    let none : None ≡ finmap.get c.args.self.now c.args.number =
    c.in-None.ensures.value ∙ sym (get-map_of nat_cmp_total exact_unsigned c.self.inside.map c.args.number)
    ∙ ap (λ m. finmap.get m c.args.number) c.self.view_is in
    ap (λ (o : Option RequestQueue). not (nat_lt (length (queue_in o)) pending_limit)) none

pub returns-then-is_full-clause-idle : goal.returns-then-is_full-clause-idle
returns-then-is_full-clause-idle c =
    let some : Some c.in-Some.queue.now ≡ finmap.get c.args.self.now c.args.number =
    c.in-Some.ensures.value ∙ sym (get-map_of nat_cmp_total exact_unsigned c.self.inside.map c.args.number)
    ∙ ap (λ m. finmap.get m c.args.number) c.self.view_is in
    ap (λ (o : Option RequestQueue). not (is_some o)) some

pub returns-then-is_full-clause-full : goal.returns-then-is_full-clause-full
returns-then-is_full-clause-full c =
    let some : Some c.in-Some.queue.now ≡ finmap.get c.args.self.now c.args.number =
    c.in-Some.ensures.value ∙ sym (get-map_of nat_cmp_total exact_unsigned c.self.inside.map c.args.number)
    ∙ ap (λ m. finmap.get m c.args.number) c.self.view_is in
    sym c.if-is_full.true ∙ c.is_full.ensures
    ∙ ap (λ (o : Option RequestQueue). not (nat_lt (length (queue_in o)) pending_limit)) some

pub returns-else-is_full-clause-idle : goal.returns-else-is_full-clause-idle
returns-else-is_full-clause-idle c =
    let some : Some c.in-Some.queue.now ≡ finmap.get c.args.self.now c.args.number =
    c.in-Some.ensures.value ∙ sym (get-map_of nat_cmp_total exact_unsigned c.self.inside.map c.args.number)
    ∙ ap (λ m. finmap.get m c.args.number) c.self.view_is in
    ap (λ (o : Option RequestQueue). not (is_some o)) some

pub returns-else-is_full-clause-full : goal.returns-else-is_full-clause-full
returns-else-is_full-clause-full c =
    let some : Some c.in-Some.queue.now ≡ finmap.get c.args.self.now c.args.number =
    c.in-Some.ensures.value ∙ sym (get-map_of nat_cmp_total exact_unsigned c.self.inside.map c.args.number)
    ∙ ap (λ m. finmap.get m c.args.number) c.self.view_is in
    sym c.if-is_full.false ∙ c.is_full.ensures
    ∙ ap (λ (o : Option RequestQueue). not (nat_lt (length (queue_in o)) pending_limit)) some
