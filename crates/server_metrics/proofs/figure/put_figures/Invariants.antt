use Rattle.std.proofs.Common.{◌≡◌, ◌++◌, take}
use Rattle.std.specs.List.{flat_map}
use Rattle.server_metrics.specs.Figures.{figure_text}
use Rattle.server_metrics.proofs.figure.put_figures.Given as goal

-- The texts of the figures up to the place.
abbrev pub invariant-loop-figure : goal.invariant-loop-figure
invariant-loop-figure l =
    l.out.items ≡ l.fn.out.items ++ flat_map figure_text (take l.figure-index l.figures)
