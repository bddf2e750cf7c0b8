use Rattle.std.proofs.Common.{None}
use Rattle.connection_loop.specs.Inner.{talk_of}
use Rattle.connection_loop.proofs.Passing.{idle_then}
use Rattle.connection_loop.proofs.session.Session.write.Goals as goal

pub write_gathered-requires : goal.write_gathered-requires
write_gathered-requires g c = (c.in-Idle.ensures None None).goes.1

pub returns-in-Idle : goal.returns-in-Idle
returns-in-Idle g c = record {
  passes = λ unread.
      idle_then _ (talk_of c.args.self.now) (talk_of c.gather.new.self) _ unread unread unread
      (g.W.Write.contents c.args.writer.now) (g.W.Write.contents c.args.writer.now) _
      (c.in-Idle.ensures unread (g.W.Write.contents c.args.writer.now)) (c.write_gathered.ensures.passes unread);
  stays = c.write_gathered.ensures.stays;
}
