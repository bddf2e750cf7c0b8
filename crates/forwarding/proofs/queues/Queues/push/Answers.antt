use Rattle.std.proofs.Common.{◌≡◌, [], ◌∷◌, ◌++◌, Option, Some, None, subst, refl, sym, ap, ◌∙◌}
use Rattle.std.specs.Prelude.{IsSome}
use Rattle.std.specs.Ordering.{nat_cmp}
use Rattle.std.specs.Cmp.{nat_cmp_total}
use Rattle.std.proofs.lemmas.Map.Lookups.{exact_unsigned}
use Rattle.std.proofs.lemmas.Result.{on_ok_weaker, on_err_weaker}
use Rattle.std.specs.FinMap as finmap
use Rattle.forwarding.specs.Queue.{RequestQueue}
use Rattle.forwarding.specs.Pending.{queue_in}
use Rattle.values.proofs.Keyed.{get-map_of, map_of-insert, insert_same}
use Rattle.forwarding.proofs.queues.Queues.push.Goals as goal

pub returns-in-Some-clause-ok : goal.returns-in-Some-clause-ok
returns-in-Some-clause-ok c =
    let some : Some c.in-Some.queue.now ≡ finmap.get c.args.self.now c.args.number =
    c.in-Some.ensures.value ∙ sym (get-map_of nat_cmp_total exact_unsigned c.self.inside.map c.args.number)
    ∙ ap (λ m. finmap.get m c.args.number) c.self.view_is in
    let w = c.push.new.self in
    on_ok_weaker c.push.result (λ pushes.
    map_of-insert nat_cmp_total exact_unsigned c.args.number c.self.inside.map (c.get_mut.follows.lender w) w
    ((c.get_mut.follows.holds w).3 (subst IsSome c.in-Some.ensures.value refl))
    ∙ (λ i. finmap.insert (c.self.view_is i) c.args.number (pushes i))
    ∙ ap (λ (o : Option RequestQueue). finmap.insert c.args.self.now c.args.number
    (queue_in o ++ c.args.request ∷ [])) some)
    c.push.ensures.ok

pub returns-in-Some-clause-err : goal.returns-in-Some-clause-err
returns-in-Some-clause-err c =
    let some : Some c.in-Some.queue.now ≡ finmap.get c.args.self.now c.args.number =
    c.in-Some.ensures.value ∙ sym (get-map_of nat_cmp_total exact_unsigned c.self.inside.map c.args.number)
    ∙ ap (λ m. finmap.get m c.args.number) c.self.view_is in
    let w = c.push.new.self in
    on_err_weaker c.push.result (λ same.
    map_of-insert nat_cmp_total exact_unsigned c.args.number c.self.inside.map (c.get_mut.follows.lender w) w
    ((c.get_mut.follows.holds w).3 (subst IsSome c.in-Some.ensures.value refl))
    ∙ (λ i. finmap.insert (c.self.view_is i) c.args.number (same i))
    ∙ insert_same nat_cmp_total exact_unsigned c.args.self.now c.args.number c.in-Some.queue.now (sym some))
    c.push.ensures.err

pub returns-in_ok-insert-in-None-clause-ok : goal.returns-in_ok-insert-in-None-clause-ok
returns-in_ok-insert-in-None-clause-ok c =
    let none : None ≡ finmap.get c.args.self.now c.args.number =
    c.in-None.ensures.value ∙ sym (get-map_of nat_cmp_total exact_unsigned c.self.inside.map c.args.number)
    ∙ ap (λ m. finmap.get m c.args.number) c.self.view_is in
    let m = c.get_mut.follows.lender-at-none in
    let w = c.push-in-None.new.self in
    map_of-insert nat_cmp_total exact_unsigned c.args.number m c.insert.new.self w
    c.in_ok-insert-in-None.ensures.updates
    ∙ ap (λ x. finmap.insert (finmap.from_entries {R = nat_cmp} x.entries) c.args.number w)
    c.get_mut.follows.holds-at-none
    ∙ ap (λ x. finmap.insert x c.args.number w) c.self.view_is
    ∙ ap (finmap.insert c.args.self.now c.args.number)
    (c.in_ok-push-in-None.ensures.ok ∙ ap (λ (q : RequestQueue). q ++ c.args.request ∷ []) c.new-queue.ensures)
    ∙ ap (λ (o : Option RequestQueue). finmap.insert c.args.self.now c.args.number
    (queue_in o ++ c.args.request ∷ [])) none
