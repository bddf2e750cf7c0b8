use Rattle.std.proofs.Common.{refl}
use Rattle.std.proofs.lemmas.Result.{err_from_is_err_and}
use Rattle.jute.specs.Format.{read_n}
use Rattle.jute.proofs.Loop.{goes_on, ends, is_done}
use Rattle.jute.proofs.record.read_items.Goals as goal

pub returns-in_err-read : goal.returns-in_err-read
returns-in_err-read g c =
    let p = err_from_is_err_and c.from_residual.result c.from_residual.ensures.1 in
    rw (p.1, p.2) (
      ends g.T.ReadRecord.read_of c.loop.items.items c.args.count c.loop.counter c.loop.ahead
          (read_n g.T.ReadRecord.read_of c.args.count c.args.reader.now) c.in_err-read.field-0.0 c.loop-test.true
          c.in_err-read.ensures.0 c.loop.invariant.1,
      refl,
    )

pub loop-preserved : goal.loop-preserved
loop-preserved g c = (
  refl,
  rw c.in_ok-push.ensures.items (goes_on g.T.ReadRecord.read_of c.loop.items.items c.args.count c.loop.counter
      c.loop.ahead (read_n g.T.ReadRecord.read_of c.args.count c.args.reader.now) c.in_ok-read.field-0
      c.read.new.reader c.loop-test.true c.in_ok-read.ensures c.loop.invariant.1),
)

pub returns : goal.returns
returns g c = is_done g.T.ReadRecord.read_of c.loop.items.items c.args.count c.loop.counter c.loop.ahead
    (read_n g.T.ReadRecord.read_of c.args.count c.args.reader.now) c.loop-test.false c.loop.invariant.1
