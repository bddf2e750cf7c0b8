use Rattle.std.proofs.Common.{arith}
use Rattle.jute.proofs.Writing.{length_item}
use Rattle.jute.proofs.writer.items_len.Goals as goal

pub written_len-len-requires-clause-small : goal.written_len-len-requires-clause-small
written_len-len-requires-clause-small g c =
    omega (
      arith,
      length_item g.T.WriteRecord.format.written c.args.items.now c.loop-item.item-index c.item-item.result
          c.loop-item-test.true c.item-item.is,
      c.requires.small,
    )

pub overflow_add-len : goal.overflow_add-len
overflow_add-len g c =
    record {
      fits = omega (
        arith,
        length_item g.T.WriteRecord.format.written c.args.items.now c.loop-item.item-index
            c.item-item.result c.loop-item-test.true c.item-item.is,
        c.requires.small,
        c.loop-item.invariant,
        c.written_len-len.ensures,
      );
    }
