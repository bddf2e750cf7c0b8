use Rattle.std.proofs.Common.{refl, sym, subst, ◌∙◌}
use Rattle.connection_loop.specs.declared.session.Session.{Session}
use Rattle.connection_loop.specs.Inner.{talk_of, EndsSoFar}
use Rattle.connection_loop.proofs.Conversing.{drops_more, gives_more, asks_port, ends_abandoned}
use Rattle.connection_loop.proofs.session.Session.end.Goals.{else-send_last-via-then-send_last+else-is_drained, else-send_last-via-else-send_last}
use Rattle.connection_loop.proofs.session.Session.end.Goals as goal

pub returns-in-ConnectionAborted : goal.returns-in-ConnectionAborted
returns-in-ConnectionAborted g c =
    let a = talk_of c.args.self.now in
    let last = c.send_last.new.last in
    let so = gives_more a (talk_of c.drop_outputs.new.self) (talk_of c.send_last.new.self) c.loop.last last
    c.send_last.result (drops_more a (talk_of c.loop.self) _ c.loop.last c.loop.invariant.2 c.drop_outputs.ensures)
    c.send_last.ensures in
    let all : EndsSoFar a (talk_of c.else-send_last.self) last = elim c.else-send_last.branch [
      | else-send_last-via-then-send_last+else-is_drained w ↦
          subst (λ (s : Session). EndsSoFar a (talk_of s) last) (sym w.self-is)
          (asks_port a (talk_of c.send_last.new.self) _ last so w.is_drained.ensures.port w.is_drained.ensures.sent
          w.is_drained.ensures.received refl)
      | else-send_last-via-else-send_last w ↦
          subst (λ (s : Session). EndsSoFar a (talk_of s) last) (sym w.self-is) so
    ] in
    ends_abandoned _ a (talk_of c.else-send_last.self) last all
    (c.in-Err.ensures.abandoned (sym c.kind.ensures ∙ c.in-ConnectionAborted.is))

pub loop-preserved-in_default-kind : goal.loop-preserved-in_default-kind
loop-preserved-in_default-kind g c =
    let a = talk_of c.args.self.now in
    let last = c.send_last.new.last in
    let so = gives_more a (talk_of c.drop_outputs.new.self) (talk_of c.send_last.new.self) c.loop.last last
    c.send_last.result (drops_more a (talk_of c.loop.self) _ c.loop.last c.loop.invariant.2 c.drop_outputs.ensures)
    c.send_last.ensures in (
      tt,
      tt,
      elim c.else-send_last.branch [
        | else-send_last-via-then-send_last+else-is_drained w ↦
            subst (λ (s : Session). EndsSoFar a (talk_of s) last) (sym w.self-is)
            (asks_port a (talk_of c.send_last.new.self) _ last so w.is_drained.ensures.port w.is_drained.ensures.sent
            w.is_drained.ensures.received refl)
        | else-send_last-via-else-send_last w ↦
            subst (λ (s : Session). EndsSoFar a (talk_of s) last) (sym w.self-is) so
      ],
    )

pub loop-preserved : goal.loop-preserved
loop-preserved g c =
    let a = talk_of c.args.self.now in
    let last = c.send_last.new.last in
    let so = gives_more a (talk_of c.drop_outputs.new.self) (talk_of c.send_last.new.self) c.loop.last last
    c.send_last.result (drops_more a (talk_of c.loop.self) _ c.loop.last c.loop.invariant.2 c.drop_outputs.ensures)
    c.send_last.ensures in (
      tt,
      tt,
      elim c.else-send_last.branch [
        | else-send_last-via-then-send_last+else-is_drained w ↦
            subst (λ (s : Session). EndsSoFar a (talk_of s) last) (sym w.self-is)
            (asks_port a (talk_of c.send_last.new.self) _ last so w.is_drained.ensures.port w.is_drained.ensures.sent
            w.is_drained.ensures.received refl)
        | else-send_last-via-else-send_last w ↦
            subst (λ (s : Session). EndsSoFar a (talk_of s) last) (sym w.self-is) so
      ],
    )
