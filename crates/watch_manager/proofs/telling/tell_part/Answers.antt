use Rattle.std.proofs.Common.{◌≡◌, ◌++◌, OnOk, ap, sym, subst, ◌∙◌}
use Rattle.std.specs.FinSet as set
use Rattle.watch_manager.specs.Pairs.{sorted_connections}
use Rattle.watch_manager.specs.Watches.{events_for}
use Rattle.watch_manager.proofs.Aboves.{union-empty, union-nobody}
use Rattle.watch_manager.proofs.telling.tell_part.Goals as goal

pub returns-then-is_empty : goal.returns-then-is_empty
returns-then-is_empty c =
    subst (λ s. OnOk c.tell_each.result (c.tell_each.new.events.items
    ≡ c.args.events.now.items ++ events_for c.args.kind c.args.path.now (sorted_connections s)))
    (sym (ap (λ s. set.union c.args.watchers.now s) (c.is_empty.ensures.0 c.if-is_empty.true)
    ∙ union-nobody c.args.watchers.now))
    c.tell_each.ensures

pub returns : goal.returns
returns c =
    let all = c.in_ok-add_all-2.ensures.ok
    ∙ ap (λ s. set.union s c.args.lasting.now) (c.in_ok-add_all.ensures.ok
    ∙ ap (λ s. set.union s c.args.watchers.now) c.new-all.ensures ∙ union-empty c.args.watchers.now) in
    subst (λ s. OnOk c.tell_each-2.result (c.tell_each-2.new.events.items
    ≡ c.args.events.now.items ++ events_for c.args.kind c.args.path.now (sorted_connections s)))
    all c.tell_each-2.ensures
