use Rattle.std.proofs.Common.{◌≡◌, ◌++◌, subst}
use Rattle.std.specs.List.{flat_map}
use Rattle.std.proofs.lemmas.Result.{on_ok_weaker}
use Rattle.server_metrics.specs.Figures.{figure_text}
use Rattle.server_metrics.specs.Metrics.{server_figures, traffic_figures}
use Rattle.server_metrics.proofs.Appended.{appended}
use Rattle.server_metrics.proofs.texts.put_server.Goals as goal

pub returns : goal.returns
returns c =
    let old = c.args.out.now.items in
    let mid = c.put_figures.new.out.items in
    let figures = c.args.figures.now in
    on_ok_weaker c.put_figures-2.result
    (λ e.
    appended old (flat_map figure_text (server_figures figures)) (flat_map figure_text (traffic_figures figures))
    (subst (λ fs. mid ≡ old ++ flat_map figure_text fs) c.server_figures.ensures c.in_ok-put_figures.ensures)
    (subst (λ fs. c.put_figures-2.new.out.items ≡ mid ++ flat_map figure_text fs) c.traffic_figures.ensures e))
    c.put_figures-2.ensures
