use Rattle.std.proofs.Common.{refl}
use Rattle.std.proofs.lemmas.Result.{err_from_is_err_and}
use Rattle.jute.specs.Format.{read_n}
use Rattle.jute.specs.Owned.{acl_in}
use Rattle.jute.proofs.Loop.{goes_on, ends, is_done}
use Rattle.jute.proofs.owned.read_each_acl.Goals as goal

pub returns-in_err-read_acl : goal.returns-in_err-read_acl
returns-in_err-read_acl c =
    let p = err_from_is_err_and c.from_residual.result c.from_residual.ensures.1 in
    rw (p.1, p.2) (
      ends (acl_in c.args.surrogates).read c.loop.entries.items c.args.count c.loop.counter c.loop.ahead
          (read_n (acl_in c.args.surrogates).read c.args.count c.args.reader.now) c.in_err-read_acl.field-0.0
          c.loop-test.true c.in_err-read_acl.ensures.0 c.loop.invariant.1,
      refl,
    )

pub loop-preserved : goal.loop-preserved
loop-preserved c = (
  refl,
  rw c.in_ok-push.ensures.items (goes_on (acl_in c.args.surrogates).read c.loop.entries.items c.args.count c.loop.counter
      c.loop.ahead (read_n (acl_in c.args.surrogates).read c.args.count c.args.reader.now) c.in_ok-read_acl.field-0
      c.read_acl.new.reader c.loop-test.true c.in_ok-read_acl.ensures c.loop.invariant.1),
)

pub returns : goal.returns
returns c = is_done (acl_in c.args.surrogates).read c.loop.entries.items c.args.count c.loop.counter c.loop.ahead
    (read_n (acl_in c.args.surrogates).read c.args.count c.args.reader.now) c.loop-test.false c.loop.invariant.1
