use Rattle.std.proofs.Common.{◌++◌, subst, ◌∙◌, inl, inr}
use Rattle.std.specs.List.{flat_map}
use Rattle.std.specs.Io.KnownBytes.{Appends}
use Rattle.observer_core.specs.Play.{play}
use Rattle.replay.specs.Lines.{output_line}
use Rattle.replay.specs.Replay.{end_line_of, printed_lines, WritesFront}
use Rattle.replay.specs.Writing.{WritesPart}
use Rattle.replay.proofs.Printing.{fed_all, fed_first, first_of_first, part_of_first, on_ok_both}
use Rattle.replay.proofs.replaying.feed.Goals as goal

pub returns-clause-ok : goal.returns-clause-ok
returns-clause-ok g c =
    on_ok_both c.print_fed.result
    (λ is_fed ends m e.
    let all = fed_all c.feed-fed.result _ m _ _ _ _ e c.new-outputs.ensures.items
    c.feed-fed.ensures is_fed in
    subst (λ o. Appends (g.W.Write.contents c.args.writer.now) (g.W.Write.contents c.print_fed.new.writer)
    (flat_map output_line o ++ end_line_of (play m c.args.events.now).after)) (c.as_slice.ensures.value ∙ all.0)
    (ends (play m c.args.events.now).after all.1))
    c.print_fed.ensures.fed c.print_fed.ensures.ok

pub returns-clause-no_memory : goal.returns-clause-no_memory
returns-clause-no_memory g c =
    λ e m is_engine.
    first_of_first (subst (WritesFront (g.W.Write.contents c.args.writer.now)
    (g.W.Write.contents c.print_fed.new.writer)) c.as_slice.ensures.value (c.print_fed.ensures.no_memory e))
    (fed_first c.feed-fed.result _ m _ _ _ _ is_engine c.new-outputs.ensures.items c.feed-fed.ensures)

pub returns-clause-unwritable : goal.returns-clause-unwritable
returns-clause-unwritable g c =
    λ e m is_engine.
    let old = g.W.Write.contents c.args.writer.now in
    let new = g.W.Write.contents c.print_fed.new.writer in
    let all = play m c.args.events.now in
    elim (c.print_fed.ensures.unwritable e) as (λ _. WritesPart old new (printed_lines all)) [
      | inl part ↦
          part_of_first all.outputs _ (end_line_of all.after)
          (fed_first c.feed-fed.result _ m _ _ _ _ is_engine c.new-outputs.ensures.items c.feed-fed.ensures)
          (subst (λ o. WritesPart old new (flat_map output_line o)) c.as_slice.ensures.value part)
      | inr found ↦
          let fed = fed_all c.feed-fed.result _ m _ _ _ _ is_engine c.new-outputs.ensures.items
          c.feed-fed.ensures found.0
          in
          subst (λ o. WritesPart old new (flat_map output_line o ++ end_line_of all.after))
          (c.as_slice.ensures.value ∙ fed.0) (found.1 all.after fed.1)
    ]
