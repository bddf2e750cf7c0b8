use Rattle.std.proofs.Common.{suc, take, drop, refl, sym, subst, take-append-drop, arith}
use Rattle.std.proofs.lemmas.Result.{err_from_is_err_and}
use Rattle.std.specs.List.{flat_map}
use Rattle.std.specs.Io.KnownBytes.{Appends}
use Rattle.replay.specs.Lines.{output_line}
use Rattle.replay.specs.Writing.{WritesPart}
use Rattle.replay.proofs.Printing.{part_after, part_more, lines_at}
use Rattle.replay.proofs.replaying.print_outputs.Goals as goal

-- The lines so far were written.
pub returns-in_err-print_output-clause-no_memory :
    goal.returns-in_err-print_output-clause-no_memory
returns-in_err-print_output-clause-no_memory g c =
    let outputs = c.args.outputs.now in
    let i = c.loop-output.output-index in
    let p = err_from_is_err_and c.from_residual.result c.from_residual.ensures.1 in
    rw (p.1, p.2)
    (λ e. record {
      front = take i outputs;
      first = record {
        front = take i outputs;
        rest = drop i outputs;
        gained = refl;
        of = sym (take-append-drop i outputs);
      };
      written = subst (λ w. Appends (g.W.Write.contents c.args.writer.now) (g.W.Write.contents w)
          (flat_map output_line (take i outputs))) (sym (c.in_err-print_output.ensures.no_memory e))
          c.loop-output.invariant;
    })

-- The lines so far were written, and a front of this one.
pub returns-in_err-print_output-clause-unwritable :
    goal.returns-in_err-print_output-clause-unwritable
returns-in_err-print_output-clause-unwritable g c =
    let outputs = c.args.outputs.now in
    let i = c.loop-output.output-index in
    let p = err_from_is_err_and c.from_residual.result c.from_residual.ensures.1 in
    rw (p.1, p.2)
    (λ e. subst (WritesPart _ _)
    (sym (lines_at outputs i c.output-item.result (omega (arith, c.loop-output-test.true)) c.output-item.is))
    (part_after (flat_map output_line (take i outputs)) c.loop-output.invariant
    (part_more (flat_map output_line (drop (suc i) outputs)) (c.in_err-print_output.ensures.unwritable e))))
