use Rattle.std.proofs.Common.{◌≡◌, ℕ, ap, ◌∙◌, arith}
use Rattle.std.specs.FinSet as set
use Rattle.ephemerals.specs.Orders.{path_cmp}
use Rattle.watch_manager.specs.Counts.{watched_paths, watching_connections}
use Rattle.watch_manager.specs.Inner.Grouped.{keys_beyond, connections_beyond}
use Rattle.watch_manager.specs.Watching.{WatchTables}
use Rattle.watch_manager.specs.declared.counts.WatchCounts.{WatchCounts}
use Rattle.watch_manager.proofs.AllCounts.{len-watched, len-watching}
use Rattle.watch_manager.proofs.watches.Watches.counts.Goals as goal

abbrev counted : ℕ → ℕ → ℕ → WatchCounts
counted connections paths watches = record { connections = connections; paths = paths; watches = watches }

same : (a b c x y z : ℕ) → a ≡ x → b ≡ y → c ≡ z → counted a b c ≡ counted x y z
same a b c x y z p q r i = counted (p i) (q i) (r i)

pub returns : goal.returns
returns c =
    let w = c.self.inside in
    let tables : WatchTables = record { data_watches = w.data_watches; child = w.child; lasting = w.lasting } in
    let persistent = c.connections_beyond-2.ensures
    ∙ ap (λ s. set.len (connections_beyond s w.data_watches w.child w.child)) c.persistent-persistent.ensures in
    let recursive = c.connections_beyond-3.ensures
    ∙ (λ i. set.len (connections_beyond (c.recursive-recursive.ensures i) w.data_watches w.child
    (c.persistent-persistent.ensures i)))
    in
    let persistent_paths = c.paths_beyond-2.ensures
    ∙ ap (λ s. set.len (keys_beyond path_cmp s w.data_watches w.child w.child)) c.persistent-persistent.ensures in
    let recursive_paths = c.paths_beyond-3.ensures
    ∙ (λ i. set.len (keys_beyond path_cmp (c.recursive-recursive.ensures i) w.data_watches w.child
    (c.persistent-persistent.ensures i))) in
    let all = len-watching tables ∙ ap (λ w. set.len (watching_connections w)) c.self.view_is in
    let all_paths = len-watched tables ∙ ap (λ w. set.len (watched_paths w)) c.self.view_is in
    same _ _ _ _ _ _
    (omega (arith, c.connections.ensures, c.connections_beyond.ensures, persistent, recursive, all))
    (omega (arith, c.paths.ensures, c.paths_beyond.ensures, persistent_paths, recursive_paths, all_paths))
    c.count.ensures
