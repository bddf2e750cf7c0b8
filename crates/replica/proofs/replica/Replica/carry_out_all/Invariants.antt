use Rattle.std.proofs.Common.{◌≡◌, length}
use Rattle.std.specs.Vec.Iter.{into_iter_items, into_iter_len}
use Rattle.replica.specs.Taking.{no_effect, carry_out_all}
use Rattle.replica.specs.Inner.{IsPartAlone}
use Rattle.replica.proofs.Carrying.{Kept}
use Rattle.replica.proofs.replica.Replica.carry_out_all.Given as goal

-- Doing the acts that are left completes what was to be done, and no part is left after the first act.
abbrev pub invariant-loop-act : goal.invariant-loop-act
invariant-loop-act l =
    record {
      done : carry_out_all
          (record { replies = l.replies.items; triggers = l.triggers; news = l.news; loading = l.loader; replica = l.self })
          (into_iter_items l.act-iterator)
          ≡ carry_out_all (no_effect l.fn.loader l.fn.self) l.fn.acts;
      alone : IsPartAlone (into_iter_items l.act-iterator);
      kept : Kept (into_iter_items l.act-iterator) l.loader l.self l.fn.loader l.fn.self;
      len : into_iter_len l.act-iterator ≡ length (into_iter_items l.act-iterator);
    }
