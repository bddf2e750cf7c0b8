use Rattle.std.proofs.Common.{◌≡◌, ◌-◌}
use Rattle.jute.specs.Format.{read_n}
use Rattle.jute.specs.Owned.{acl_in}
use Rattle.jute.proofs.Loop.{with_front}
use Rattle.jute.proofs.owned.read_each_acl.Given as goal

abbrev pub invariant-loop : goal.invariant-loop
invariant-loop l = (l.reader ≡ l.fn.reader)
    × (with_front l.entries.items (read_n (acl_in l.fn.surrogates).read (l.count - l.counter) l.ahead)
    ≡ read_n (acl_in l.fn.surrogates).read l.count l.fn.reader)
