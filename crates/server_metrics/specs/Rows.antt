-- Rows that were worked out by hand.
use Rattle.std.specs.Prelude.{◌≡◌, [], ◌∷◌, ◌++◌, Some, None, true, false, codes}
use Rattle.std.specs.List.{flat_map}
use Rattle.server_metrics.specs.declared.report.Times.{Times}
use Rattle.server_metrics.specs.declared.health.Health.TheVariants.{Healthy, NotServing, Silent}
use Rattle.server_metrics.specs.declared.metric.Metric.TheVariants.{TurnTimes, AvgLatency}
use Rattle.server_metrics.specs.declared.figure.Value.TheVariants.{Average}
use Rattle.server_metrics.specs.Figures.{figure_text}
use Rattle.server_metrics.specs.Metrics.{histogram_text, descriptor_figures}
use Rattle.server_metrics.specs.Health.{health_of, makes_turns}

-- Three times, of 200, 800 and 1,000,000 microseconds.
abbrev pub worked_times : Times
worked_times = record {
  buckets = record { bound = 500; count = 1 } ∷ record { bound = 1000; count = 2 } ∷ [];
  count = 3;
  total = 1001000;
}

pub record WorkedRows : Type 0 where
  pub times :
      histogram_text TurnTimes worked_times
      ≡ codes "# HELP observer_turn_seconds The time of a turn of the engine.\n"
      ++ codes "# TYPE observer_turn_seconds histogram\n"
      ++ codes "observer_turn_seconds_bucket{le=\"0.000500\"} 1\nobserver_turn_seconds_bucket{le=\"0.001000\"} 2\n"
      ++ codes "observer_turn_seconds_bucket{le=\"+Inf\"} 3\nobserver_turn_seconds_sum 1.001000\n"
      ++ codes "observer_turn_seconds_count 3\n"
  pub average :
      figure_text (record { metric = AvgLatency; value = Average (record { count = 3; total = 2000; least = 200; most = 1000 }) })
      ≡ codes "# HELP avg_latency The average time of an answer, in milliseconds.\n# TYPE avg_latency gauge\n"
      ++ codes "avg_latency 0.6666\n"
  pub descriptors :
      flat_map figure_text (descriptor_figures (Some (record { count = 31; most = 1024 })))
      ≡ codes "# HELP open_file_descriptor_count The descriptors that the process has open.\n"
      ++ codes "# TYPE open_file_descriptor_count gauge\nopen_file_descriptor_count 31\n"
      ++ codes "# HELP max_file_descriptor_count How many descriptors the process may have open.\n"
      ++ codes "# TYPE max_file_descriptor_count gauge\nmax_file_descriptor_count 1024\n"
  pub no_descriptors : descriptor_figures None ≡ []
  pub healthy : health_of true 10000999 10000 ≡ Healthy
  pub silent : health_of true 10001000 10000 ≡ Silent 10001
  pub unbounded : health_of true 10001000 0 ≡ Healthy
  pub not_serving : health_of false 0 10000 ≡ NotServing
  pub live : makes_turns 10000000 ≡ true
  pub dead : makes_turns 10000001 ≡ false
