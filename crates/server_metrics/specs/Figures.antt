-- Figures, and their texts in Prometheus' text format.
use Rattle.std.specs.Prelude.{ℕ, ◌/◌, ◌%◌, List, ◌++◌, codes, decimal}
use Rattle.std.specs.Fmt.{signed_decimal}
use Rattle.settings.specs.declared.dialect.Dialect.TheVariants.{Zk38}
use Rattle.server_words.specs.Texts.{average_text}
use Rattle.server_metrics.specs.Names.{metric_name, metric_kind, metric_help}
use Rattle.server_metrics.specs.declared.metric.Metric.{Metric}
use Rattle.server_metrics.specs.declared.figure.Value.{Value}
use Rattle.server_metrics.specs.declared.figure.Value.TheVariants as value
use Rattle.server_metrics.specs.declared.figure.Figure.{Figure}

-- Microseconds as seconds with six places.
abbrev pub seconds_text : ℕ → List ℕ
seconds_text n =
    decimal (n / 1000000) ++ codes "." ++ decimal (n / 100000 % 10) ++ decimal (n / 10000 % 10)
    ++ decimal (n / 1000 % 10) ++ decimal (n / 100 % 10) ++ decimal (n / 10 % 10) ++ decimal (n % 10)

abbrev pub value_text : Value → List ℕ
value_text (value.Whole n) = decimal n
value_text (value.Signed z) = signed_decimal z
value_text (value.Average l) = average_text Zk38 l
value_text (value.Seconds n) = seconds_text n

-- What a metric is called, means, and how it changes.
abbrev pub head_text : Metric → List ℕ
head_text m =
    codes "# HELP " ++ metric_name m ++ codes " " ++ metric_help m ++ codes "\n# TYPE " ++ metric_name m ++ codes " "
    ++ metric_kind m ++ codes "\n"

abbrev pub line_text : Figure → List ℕ
line_text f = metric_name f.metric ++ codes " " ++ value_text f.value ++ codes "\n"

abbrev pub figure_text : Figure → List ℕ
figure_text f = head_text f.metric ++ line_text f
