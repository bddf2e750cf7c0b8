use Rattle.std.proofs.Common.{◌≡◌, Option, Some, None, subst, refl, sym, ap, ◌∙◌}
use Rattle.std.specs.Prelude.{IsSome}
use Rattle.std.specs.Cmp.{nat_cmp_total}
use Rattle.std.proofs.lemmas.Map.Lookups.{exact_unsigned}
use Rattle.std.specs.FinMap as finmap
use Rattle.forwarding.specs.Queue.{RequestQueue, OldestWriteIsAt, without_oldest_write}
use Rattle.forwarding.specs.Pending.{queue_in}
use Rattle.forwarding.specs.Inner.{with_changed}
use Rattle.values.proofs.Keyed.{get-map_of, map_of-insert}
use Rattle.forwarding.proofs.queues.Queues.remove_write_in.Goals as goal

pub returns-in-None : goal.returns-in-None
returns-in-None c =
    let none : None ≡ finmap.get c.args.self.now c.args.number =
    c.in-None.ensures.value ∙ sym (get-map_of nat_cmp_total exact_unsigned c.self.inside.map c.args.number)
    ∙ ap (λ m. finmap.get m c.args.number) c.self.view_is in
    ap (λ m. finmap.from_entries m.entries) c.get_mut.follows.holds-at-none ∙ c.self.view_is
    ∙ ap (with_changed c.args.self.now c.args.number without_oldest_write) none

pub returns : goal.returns
returns c =
    let some : Some c.in-Some.queue.now ≡ finmap.get c.args.self.now c.args.number =
    c.in-Some.ensures.value ∙ sym (get-map_of nat_cmp_total exact_unsigned c.self.inside.map c.args.number)
    ∙ ap (λ m. finmap.get m c.args.number) c.self.view_is in
    let w = c.remove_write.new.self in
    map_of-insert nat_cmp_total exact_unsigned c.args.number c.self.inside.map (c.get_mut.follows.lender w) w
    ((c.get_mut.follows.holds w).3 (subst IsSome c.in-Some.ensures.value refl))
    ∙ (λ i. finmap.insert (c.self.view_is i) c.args.number (c.remove_write.ensures i))
    ∙ ap (with_changed c.args.self.now c.args.number without_oldest_write) some

pub remove_write-requires : goal.remove_write-requires
remove_write-requires c =
    let some : Some c.in-Some.queue.now ≡ finmap.get c.args.self.now c.args.number =
    c.in-Some.ensures.value ∙ sym (get-map_of nat_cmp_total exact_unsigned c.self.inside.map c.args.number)
    ∙ ap (λ m. finmap.get m c.args.number) c.self.view_is in
    subst (λ (o : Option RequestQueue). OldestWriteIsAt (queue_in o) c.args.place) (sym some) c.requires
