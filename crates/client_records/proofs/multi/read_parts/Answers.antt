use Rattle.std.proofs.Common.{◌≡◌, List, Ok, Some, None, length, sym, ap, ◌∙◌}
use Rattle.std.proofs.lemmas.Result.{err_from_is_err_and}
use Rattle.client_records.specs.declared.multi.ReadPart.{ReadPart}
use Rattle.client_records.specs.Multi.{part_or_end, multi_read}
use Rattle.client_records.proofs.Parts.{goes_on, is_end, ends, runs_out}
use Rattle.client_records.proofs.multi.read_parts.Goals as goal

pub returns-in_err-read_part_or_end : goal.returns-in_err-read_part_or_end
returns-in_err-read_part_or_end c =
    let p = err_from_is_err_and c.from_residual.result c.from_residual.ensures.1 in
    rw (p.1, p.2) (
      ends c.loop.parts.items (length c.rest-end.result.now) c.loop.counter c.loop.ahead (multi_read c.args.reader.now)
          c.in_err-read_part_or_end.field-0.0 c.loop-test.true c.in_err-read_part_or_end.ensures.0 c.loop.invariant.2,
      c.loop.invariant.0,
    )

pub returns-in-None : goal.returns-in-None
returns-in-None c =
    let found : part_or_end c.loop.ahead ≡ Ok (None, c.read_part_or_end.new.reader) = c.in_ok-read_part_or_end.ensures
    ∙ ap (λ o. Ok (o, c.read_part_or_end.new.reader)) c.in-None.is in
    is_end c.loop.parts.items (length c.rest-end.result.now) c.loop.counter c.loop.ahead (multi_read c.args.reader.now)
    c.read_part_or_end.new.reader c.loop-test.true found c.loop.invariant.2
    ∙ ap (λ (parts : List ReadPart). Ok (parts, c.read_part_or_end.new.reader)) (sym c.from_vec.ensures)

pub loop-preserved : goal.loop-preserved
loop-preserved c =
    let found : part_or_end c.loop.ahead ≡ Ok (Some c.in-Some.part, c.read_part_or_end.new.reader) =
    c.in_ok-read_part_or_end.ensures ∙ ap (λ o. Ok (o, c.read_part_or_end.new.reader)) c.in-Some.is in (
      c.loop.invariant.0,
      c.loop.invariant.1,
      rw c.in_ok-push-in-Some.ensures.items (goes_on c.loop.parts.items (length c.rest-end.result.now) c.loop.counter
          c.loop.ahead (multi_read c.args.reader.now) c.in-Some.part c.read_part_or_end.new.reader c.loop-test.true
          found c.loop.invariant.2),
    )

pub returns : goal.returns
returns c = (
  runs_out c.loop.parts.items (length c.rest-end.result.now) c.loop.counter c.loop.ahead (multi_read c.args.reader.now)
      c.loop-test.false c.loop.invariant.2,
  c.loop.invariant.0,
)
