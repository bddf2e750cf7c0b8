use Rattle.std.proofs.Common.{◌≡◌, ◌++◌, subst}
use Rattle.std.specs.List.{flat_map}
use Rattle.std.proofs.lemmas.Result.{on_ok_weaker}
use Rattle.server_metrics.specs.Figures.{figure_text}
use Rattle.server_metrics.specs.Metrics.{server_text, leader_figures, memory_figure, descriptor_figures}
use Rattle.server_metrics.proofs.Appended.{appended}
use Rattle.server_metrics.proofs.texts.put_numbers.Goals as goal

pub returns : goal.returns
returns c =
    let old = c.args.out.now.items in
    let report = c.args.report.now in
    let server = server_text report.figures in
    let leader = flat_map figure_text (leader_figures report) in
    let memory = flat_map figure_text (memory_figure report.memory) in
    on_ok_weaker c.put_descriptors.result
    (λ e.
    appended old (server ++ leader ++ memory) (flat_map figure_text (descriptor_figures report.figures.descriptors))
    (appended old (server ++ leader) memory
    (appended old server leader c.in_ok-put_server.ensures
    (subst (λ fs. c.put_figures.new.out.items ≡ c.put_server.new.out.items ++ flat_map figure_text fs)
    c.leader_figures.ensures c.in_ok-put_figures.ensures)) c.in_ok-put_memory.ensures) e) c.put_descriptors.ensures
