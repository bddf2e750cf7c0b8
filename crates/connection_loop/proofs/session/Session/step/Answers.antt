use Rattle.std.proofs.Common.{None, refl}
use Rattle.connection_loop.specs.Inner.{talk_of}
use Rattle.connection_loop.proofs.Passing.{idle_then, passes_then_on, gives_nothing, gives_closes, rested, not_refusing}
use Rattle.connection_loop.proofs.session.Session.step.Goals as goal

pub returns-then-not-is_sent : goal.returns-then-not-is_sent
returns-then-not-is_sent g c =
    let a = talk_of c.args.self.now in
    let b = talk_of c.write.new.self in
    let n = talk_of c.send_held-is_sent.new.self in
    let d = talk_of c.rest.new.self in
    let r = g.R.Read.remaining c.args.reader.now in
    let w = g.W.Write.contents c.write.new.writer in
    idle_then c.rest.result a b d r r _ _ w w (c.in-Idle.ensures.passes r)
    (passes_then_on c.rest.result b n d r r _ w w w (gives_nothing b n r w c.send_held-is_sent.ensures.gives)
    (rested c.rest.result n d r _ w c.rest.ensures.talk c.rest.ensures.kept
    (gives_closes b n _ c.send_held-is_sent.ensures.gives (c.in-Idle.ensures.passes None).goes.1)))

pub send_next-requires-clause-new : goal.send_next-requires-clause-new
send_next-requires-clause-new g c =
    not_refusing (talk_of c.write.new.self) (talk_of c.send_held-is_sent.new.self) c.send_held-is_sent.ensures.gives
    (c.in-Idle.ensures.passes None).goes.1 (c.if-not-is_written.ensures.0 refl) (c.in-Idle.ensures.stays refl)

pub returns-in_default-send_next : goal.returns-in_default-send_next
returns-in_default-send_next g c =
    let a = talk_of c.args.self.now in
    let b = talk_of c.write.new.self in
    let n = talk_of c.send_held-is_sent.new.self in
    let d = talk_of c.send_next.new.self in
    let r = g.R.Read.remaining c.args.reader.now in
    let w = g.W.Write.contents c.write.new.writer in
    idle_then c.send_next.result a b d r r r _ w w (c.in-Idle.ensures.passes r)
    (passes_then_on c.send_next.result b n d r r r w w w (gives_nothing b n r w c.send_held-is_sent.ensures.gives)
    (c.send_next.ensures r w))

pub read-requires : goal.read-requires
read-requires g c = (c.in-Idle-send_next.ensures None None).goes.1

pub returns : goal.returns
returns g c =
    let a = talk_of c.args.self.now in
    let b = talk_of c.write.new.self in
    let n = talk_of c.send_held-is_sent.new.self in
    let d = talk_of c.send_next.new.self in
    let e = talk_of c.read.new.self in
    let r = g.R.Read.remaining c.args.reader.now in
    let w = g.W.Write.contents c.write.new.writer in
    idle_then c.read.result a b e r r _ _ w w (c.in-Idle.ensures.passes r)
    (passes_then_on c.read.result b n e r r _ w w w (gives_nothing b n r w c.send_held-is_sent.ensures.gives)
    (idle_then c.read.result n d e r r _ w w w (c.in-Idle-send_next.ensures r w) (c.read.ensures w)))
