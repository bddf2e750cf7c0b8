-- The order of watches is total.
use Rattle.std.specs.Cmp.{IsTotalOrder, then_total, on_total, nat_cmp_total}
use Rattle.std.specs.Cmp.Lexicographic.{nat_list_cmp_total}
use Rattle.watch_manager.specs.Summary.{table_rank, watched_cmp}
use Rattle.watch_manager.specs.declared.watched.Watched.{Watched}

pub watched_total : IsTotalOrder watched_cmp
watched_total =
    then_total (then_total (on_total (λ (w : Watched). w.path) nat_list_cmp_total)
    (on_total (λ (w : Watched). w.connection) nat_cmp_total))
    (on_total (λ (w : Watched). table_rank w.table) nat_cmp_total)
