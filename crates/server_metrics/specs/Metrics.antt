-- The text of the metrics.
use Rattle.std.specs.Prelude.{ℕ, ◌/◌, List, [], ◌∷◌, ◌++◌, Option, Some, None, Bool, codes, decimal, if◌then◌else◌}
use Rattle.std.specs.List.{flat_map}
use Rattle.server_words.specs.Texts.{node_total}
use Rattle.server_words.specs.declared.figures.Descriptors.{Descriptors}
use Rattle.server_words.specs.declared.figures.ServerFigures.{ServerFigures}
use Rattle.server_metrics.specs.Names.{metric_name}
use Rattle.server_metrics.specs.Figures.{head_text, figure_text, seconds_text}
use Rattle.server_metrics.specs.declared.metric.Metric.{Metric}
use Rattle.server_metrics.specs.declared.metric.Metric.TheVariants as metric
use Rattle.server_metrics.specs.declared.figure.Figure.{Figure}
use Rattle.server_metrics.specs.declared.figure.Value.TheVariants.{Whole, Signed, Average, Seconds}
use Rattle.server_metrics.specs.declared.report.Bucket.{Bucket}
use Rattle.server_metrics.specs.declared.report.Times.{Times}
use Rattle.server_metrics.specs.declared.report.MetricsReport.{MetricsReport}

-- What has gone through the server. Latencies are in milliseconds.
abbrev pub traffic_figures : ServerFigures → List Figure
traffic_figures f =
    record { metric = metric.AvgLatency; value = Average f.latency }
    ∷ record { metric = metric.MaxLatency; value = Whole (f.latency.most / 1000) }
    ∷ record { metric = metric.MinLatency; value = Whole (f.latency.least / 1000) }
    ∷ record { metric = metric.PacketsReceived; value = Whole f.received }
    ∷ record { metric = metric.PacketsSent; value = Whole f.sent }
    ∷ record { metric = metric.Outstanding; value = Whole f.outstanding }
    ∷ []

-- What it holds, and for how long it has run.
abbrev pub server_figures : ServerFigures → List Figure
server_figures f =
    record { metric = metric.Uptime; value = Whole f.uptime }
    ∷ record { metric = metric.Connections; value = Whole f.connections }
    ∷ record { metric = metric.Rejected; value = Whole f.rejected }
    ∷ record { metric = metric.Nodes; value = Whole (node_total f) }
    ∷ record { metric = metric.Watches; value = Whole f.watches }
    ∷ record { metric = metric.Ephemerals; value = Whole f.pairs }
    ∷ []

abbrev pub one_if : Bool → ℕ
one_if b = if b then 1 else 0

-- How far it has followed its leader.
abbrev pub leader_figures : MetricsReport → List Figure
leader_figures r =
    record { metric = metric.Sessions; value = Whole r.figures.sessions }
    ∷ record { metric = metric.Serving; value = Whole (one_if r.figures.serving) }
    ∷ record { metric = metric.LastZxid; value = Signed r.figures.zxid }
    ∷ record { metric = metric.Transactions; value = Whole r.transactions }
    ∷ record { metric = metric.Log; value = Whole r.log }
    ∷ record { metric = metric.Silence; value = Seconds r.silence }
    ∷ []

abbrev pub memory_figure : Option ℕ → List Figure
memory_figure None = []
memory_figure (Some bytes) = record { metric = metric.Memory; value = Whole bytes } ∷ []

abbrev pub descriptor_figures : Option Descriptors → List Figure
descriptor_figures None = []
descriptor_figures (Some d) =
    record { metric = metric.OpenDescriptors; value = Whole d.count }
    ∷ record { metric = metric.MostDescriptors; value = Whole d.most }
    ∷ []

abbrev pub bucket_line : List ℕ → Bucket → List ℕ
bucket_line name b =
    name ++ codes "_bucket{le=\"" ++ seconds_text b.bound ++ codes "\"} " ++ decimal b.count ++ codes "\n"

abbrev pub times_count_line : List ℕ → List ℕ → ℕ → List ℕ
times_count_line name suffix count = name ++ suffix ++ codes " " ++ decimal count ++ codes "\n"

abbrev pub times_sum_line : List ℕ → ℕ → List ℕ
times_sum_line name total = name ++ codes "_sum " ++ seconds_text total ++ codes "\n"

-- How many times there were in all, and how long they took together.
abbrev pub sums_text : List ℕ → Times → List ℕ
sums_text name t =
    times_count_line name (codes "_bucket{le=\"+Inf\"}") t.count
    ++ times_sum_line name t.total
    ++ times_count_line name (codes "_count") t.count

abbrev pub histogram_text : Metric → Times → List ℕ
histogram_text m t =
    head_text m ++ flat_map (bucket_line (metric_name m)) t.buckets ++ sums_text (metric_name m) t

abbrev pub server_text : ServerFigures → List ℕ
server_text f = flat_map figure_text (server_figures f) ++ flat_map figure_text (traffic_figures f)

abbrev pub figures_text : MetricsReport → List ℕ
figures_text r =
    server_text r.figures
    ++ flat_map figure_text (leader_figures r)
    ++ flat_map figure_text (memory_figure r.memory)
    ++ flat_map figure_text (descriptor_figures r.figures.descriptors)

-- All metrics, in their order.
abbrev pub metrics_text : MetricsReport → List ℕ
metrics_text r = figures_text r ++ histogram_text metric.AnswerTimes r.answers ++ histogram_text metric.TurnTimes r.turns
