use Rattle.std.proofs.Common.{◌+◌, None, Some, sym, ap, ◌∙◌, cond, length, arith}
use Rattle.texts.specs.Cut.{cut_at}
use Rattle.replay_script.specs.Script.{PartialScript, lines_of, or_bad, script_after, empty_script}
use Rattle.replay_script.proofs.Reading.{lines_behind, length_behind, length_behind_cut, named, reads}
use Rattle.replay_script.proofs.parser.parse.Goals as goal

pub loop-rest-init : goal.loop-rest-init
loop-rest-init c =
    record {
      counted = omega (arith, ap length c.new.ensures);
      same =
          ap (λ (d : PartialScript). script_after 0 d (lines_of c.new.result)) c.new-draft.ensures
          ∙ ap (λ t. script_after 0 empty_script (lines_of t)) c.new.ensures;
    }

pub returns-then-not-branch-clause-bad_line : goal.returns-then-not-branch-clause-bad_line
returns-then-not-branch-clause-bad_line c =
    let read = reads c.loop-rest.number c.loop-rest.draft c.loop-rest.rest c.in-Some.bytes c.cut_at-lines.result
    c.as_slice-in-Some.result.now _ c.in-Some.is (c.cut_at-lines.ensures ∙ ap (cut_at 10) c.as_slice.ensures)
    c.as_slice-in-Some.ensures c.in_ok-take_line.ensures in
    let bad = sym c.loop-rest.invariant.same ∙ read
    ∙ ap (λ b. or_bad (c.loop-rest.number + 1) (cond b (Some c.take_line.new.self) None)
    (λ more. script_after (c.loop-rest.number + 1) more (lines_behind c.cut_at-lines.result.behind)))
    c.if-not-branch.true in
    λ n e. named _ (c.loop-rest.number + 1) n e bad

pub loop-rest-preserved : goal.loop-rest-preserved
loop-rest-preserved c =
    let is_cut = c.cut_at-lines.ensures ∙ ap (cut_at 10) c.as_slice.ensures in
    let read = reads c.loop-rest.number c.loop-rest.draft c.loop-rest.rest c.in-Some.bytes c.cut_at-lines.result
    c.as_slice-in-Some.result.now _ c.in-Some.is is_cut c.as_slice-in-Some.ensures c.in_ok-take_line.ensures in
    record {
      counted = omega (
        arith,
        length_behind_cut c.in-Some.bytes,
        ap (λ k. length_behind k.behind) is_cut,
        ap length_behind c.in-Some.is,
      );
      same = sym (sym c.loop-rest.invariant.same ∙ read
          ∙ ap (λ b. or_bad (c.loop-rest.number + 1) (cond b (Some c.take_line.new.self) None)
          (λ more. script_after (c.loop-rest.number + 1) more (lines_behind c.cut_at-lines.result.behind)))
          c.if-not-branch.false);
    }
