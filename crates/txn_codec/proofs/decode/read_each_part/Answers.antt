use Rattle.std.proofs.Common.{refl}
use Rattle.std.proofs.lemmas.Result.{err_from_is_err_and}
use Rattle.jute.specs.Format.{read_n}
use Rattle.jute.proofs.Loop.{goes_on, ends, is_done}
use Rattle.txn_codec.specs.Spelling.{part_format_in}
use Rattle.txn_codec.proofs.decode.read_each_part.Goals as goal

pub returns-in_err-read_part : goal.returns-in_err-read_part
returns-in_err-read_part c =
    let p = err_from_is_err_and c.from_residual.result c.from_residual.ensures.1 in
    rw (p.1, p.2) (
      ends (part_format_in c.args.reads).read c.loop.parts.items c.args.count c.loop.counter c.loop.ahead
          (read_n (part_format_in c.args.reads).read c.args.count c.args.reader.now) c.in_err-read_part.field-0.0
          c.loop-test.true c.in_err-read_part.ensures.0 c.loop.invariant.1,
      refl,
    )

pub loop-preserved : goal.loop-preserved
loop-preserved c = (
  refl,
  rw c.in_ok-push.ensures.items (goes_on (part_format_in c.args.reads).read c.loop.parts.items c.args.count c.loop.counter
      c.loop.ahead (read_n (part_format_in c.args.reads).read c.args.count c.args.reader.now) c.in_ok-read_part.field-0
      c.read_part.new.reader c.loop-test.true c.in_ok-read_part.ensures c.loop.invariant.1),
)

pub returns : goal.returns
returns c = is_done (part_format_in c.args.reads).read c.loop.parts.items c.args.count c.loop.counter c.loop.ahead
    (read_n (part_format_in c.args.reads).read c.args.count c.args.reader.now) c.loop-test.false c.loop.invariant.1
