use Rattle.std.proofs.Common.{refl, []}
use Rattle.std.specs.Fmt.{digits}
use Rattle.four_letter.specs.Rows.{one_watcher_figures, three_watcher_figures, three_sessions, three_nodes}
use Rattle.four_letter.proofs.Evaluating.{wchp-placed, wchc-placed, dump-placed}
use Rattle.four_letter.proofs.law.worked_rows.Goals as goal

pub returns : goal.returns
unfolding digits
returns c = record {
  ruok = refl;
  isro = refl;
  isro_without_leader = refl;
  srvr = refl;
  srvr_without_leader = refl;
  mntr = refl;
  wchs = refl;
  wchp = wchp-placed [];
  wchs_one = refl;
  wchp_one = wchp-placed one_watcher_figures.watches;
  wchs_three = refl;
  wchp_three = wchp-placed three_watcher_figures.watches;
  wchc = wchc-placed [];
  wchc_one = wchc-placed one_watcher_figures.watches;
  wchc_three = wchc-placed three_watcher_figures.watches;
  dump = dump-placed [] [];
  dump_three = dump-placed three_sessions three_nodes;
  dump_without_leader = refl;
}
