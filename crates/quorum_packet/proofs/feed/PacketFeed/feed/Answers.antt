use Rattle.quorum_packet.proofs.Looking.{unseen_after}
use Rattle.quorum_packet.proofs.feed.PacketFeed.feed.Goals as goal

pub invariant_of-self : goal.invariant_of-self
invariant_of-self c = unseen_after c.add.result c.self.inside.waiting c.add.new.self c.args.piece.now
    c.self.inside.unseen c.add.ensures.ok c.add.ensures.err c.self.invariant
