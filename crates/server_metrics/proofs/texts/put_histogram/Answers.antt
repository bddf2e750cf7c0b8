use Rattle.std.proofs.Common.{◌≡◌, ◌++◌, subst}
use Rattle.std.specs.List.{flat_map}
use Rattle.std.proofs.lemmas.Result.{on_ok_weaker}
use Rattle.server_metrics.specs.Names.{metric_name}
use Rattle.server_metrics.specs.Figures.{head_text}
use Rattle.server_metrics.specs.Metrics.{bucket_line, sums_text}
use Rattle.server_metrics.proofs.Appended.{appended}
use Rattle.server_metrics.proofs.texts.put_histogram.Goals as goal

pub returns : goal.returns
returns c =
    let old = c.args.out.now.items in
    let name = metric_name c.args.metric in
    let head = head_text c.args.metric in
    let lines = flat_map (bucket_line name) c.args.times.now.buckets in
    let after_lines : c.put_buckets.new.out.items ≡ c.put_head.new.out.items ++ lines =
    subst (λ n. c.put_buckets.new.out.items ≡ c.put_head.new.out.items ++ flat_map (bucket_line n) c.args.times.now.buckets)
    c.name-name.ensures
    (subst (λ bs. c.put_buckets.new.out.items ≡ c.put_head.new.out.items ++ flat_map (bucket_line c.name-name.result.now) bs)
    c.as_slice.ensures c.in_ok-put_buckets.ensures) in
    on_ok_weaker c.put_sums.result
    (λ e.
    appended old (head ++ lines) (sums_text name c.args.times.now)
    (appended old head lines c.in_ok-put_head.ensures after_lines)
    (subst (λ n. c.put_sums.new.out.items ≡ c.put_buckets.new.out.items ++ sums_text n c.args.times.now)
    c.name-name.ensures e)) c.put_sums.ensures
