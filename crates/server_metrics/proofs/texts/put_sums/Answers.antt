use Rattle.std.proofs.Common.{◌++◌, codes}
use Rattle.std.proofs.lemmas.Result.{on_ok_weaker}
use Rattle.server_metrics.specs.Metrics.{times_count_line, times_sum_line}
use Rattle.server_metrics.proofs.Appended.{appended}
use Rattle.server_metrics.proofs.texts.put_sums.Goals as goal

pub returns : goal.returns
returns c =
    let old = c.args.out.now.items in
    let name = c.args.name.now in
    let times = c.args.times.now in
    let beyond = times_count_line name (codes "_bucket{le=\"+Inf\"}") times.count in
    let sum = times_sum_line name times.total in
    on_ok_weaker c.put_count-2.result
    (λ e.
    appended old (beyond ++ sum) (times_count_line name (codes "_count") times.count)
    (appended old beyond sum c.in_ok-put_count.ensures c.in_ok-put_sum.ensures) e) c.put_count-2.ensures
