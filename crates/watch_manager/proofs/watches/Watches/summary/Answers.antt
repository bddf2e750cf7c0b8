use Rattle.std.proofs.Common.{◌≡◌, List, [], ◌++◌, map, sym, ap, subst, ◌∙◌, IfOk}
use Rattle.std.specs.FinSet as set
use Rattle.watch_manager.specs.Ascending.{sorted_distinct}
use Rattle.watch_manager.specs.Summary.{watched_cmp, watched_in, summary}
use Rattle.watch_manager.specs.Totals.{watched_total}
use Rattle.watch_manager.specs.declared.watched.Table.TheVariants.{Own, Child, Lasting}
use Rattle.watch_manager.specs.declared.watched.Watched.{Watched}
use Rattle.watch_manager.proofs.Ascending.{ascending-nil}
use Rattle.watch_manager.proofs.watches.Watches.summary.Goals as goal

pub returns : goal.returns
returns c =
    let w = c.self.inside in
    let own_rows = map (watched_in Own) (set.items w.data_watches) in
    let both_rows = own_rows ++ map (watched_in Child) (set.items w.child) in
    let data_watches = c.in_ok-add_table.ensures [] (c.new-rows.ensures.empty ∙ sym (ascending-nil watched_total)) in
    let both = c.in_ok-add_table-2.ensures own_rows data_watches in
    let persistent = c.in_ok-add_table-3.ensures both_rows both
    ∙ ap (λ s. sorted_distinct watched_cmp (both_rows ++ map (watched_in Lasting) (set.items s)))
    c.persistent.ensures in
    let all = c.in_ok-add_table-4.ensures
    (both_rows ++ map (watched_in Lasting) (set.items w.lasting.persistent)) persistent
    ∙ ap (λ s. sorted_distinct watched_cmp
    ((both_rows ++ map (watched_in Lasting) (set.items w.lasting.persistent))
    ++ map (watched_in Lasting) (set.items s))) c.recursive.ensures in
    subst (λ (keys : List Watched). IfOk c.in_order.result (λ rows. rows.items ≡ keys))
    (all ∙ ap (λ w. summary w) c.self.view_is)
    c.in_order.ensures
