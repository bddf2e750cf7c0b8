use Rattle.jute.proofs.Writing.{fails, gains_item}
use Rattle.jute.proofs.writer.put_items.Goals as goal

pub returns-in_err-write : goal.returns-in_err-write
returns-in_err-write g c =
    fails c.from_residual.result c.from_residual.ensures.0
    (gains_item g.T.WriteRecord.format.written c.args.out.now.items c.loop-item.out.items c.write.new.out.items
    c.args.items.now c.loop-item.item-index c.item-item.result c.loop-item-test.true
    c.item-item.is c.loop-item.invariant c.in_err-write.ensures)
