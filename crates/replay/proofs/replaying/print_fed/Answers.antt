use Rattle.std.proofs.Common.{sym, subst, inl, inr, rules}
use Rattle.std.specs.List.{flat_map}
use Rattle.std.specs.Io.KnownBytes.{Appends}
use Rattle.std.proofs.lemmas.Result.{err_from_is_err_and, on_ok_weaker}
use Rattle.replay.specs.Lines.{output_line}
use Rattle.replay.specs.Replay.{end_line_of}
use Rattle.replay.proofs.Printing.{appends_both, all_written, part_after}
use Rattle.replay.proofs.replaying.print_fed.Goals as goal

pub returns-in_err-print_outputs-clause-no_memory :
    goal.returns-in_err-print_outputs-clause-no_memory
returns-in_err-print_outputs-clause-no_memory g c =
    let p = err_from_is_err_and c.from_residual.result c.from_residual.ensures.1 in
    rw (p.1, p.2) c.in_err-print_outputs.ensures.no_memory

pub returns-in-Ok-clause-ok : goal.returns-in-Ok-clause-ok
returns-in-Ok-clause-ok g c =
    on_ok_weaker c.print_end.result
    (λ ends m e. appends_both _ _ _ (flat_map output_line c.args.outputs.now) (end_line_of m)
    c.in_ok-print_outputs.ensures.ok (ends m e))
    c.print_end.ensures.ok

pub returns-in-Ok-clause-no_memory : goal.returns-in-Ok-clause-no_memory
returns-in-Ok-clause-no_memory g c =
    λ e. all_written c.args.outputs.now
    (subst (λ w. Appends (g.W.Write.contents c.args.writer.now) (g.W.Write.contents w)
    (flat_map output_line c.args.outputs.now)) (sym (c.print_end.ensures.no_memory e))
    c.in_ok-print_outputs.ensures.ok)

pub returns-clause-no_memory : goal.returns-clause-no_memory
returns-clause-no_memory g c = λ e. all_written c.args.outputs.now c.in_ok-print_outputs.ensures.ok

pub returns-in_err-print_outputs-clause-unwritable :
    goal.returns-in_err-print_outputs-clause-unwritable
returns-in_err-print_outputs-clause-unwritable g c =
    let p = err_from_is_err_and c.from_residual.result c.from_residual.ensures.1 in
    rw (p.1, p.2) (λ e. inl (c.in_err-print_outputs.ensures.unwritable e))

pub returns-in-Ok-clause-unwritable : goal.returns-in-Ok-clause-unwritable
returns-in-Ok-clause-unwritable g c =
    λ e. inr (
      search rules,
      λ m is. part_after (flat_map output_line c.args.outputs.now)
          c.in_ok-print_outputs.ensures.ok (c.print_end.ensures.unwritable e m is),
    )
