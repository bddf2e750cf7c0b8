use Rattle.std.proofs.Common.{◌≡◌, ◌<◌, length, sym, ap, ◌∙◌, arith}
use Rattle.forwarding.proofs.Disowning.{disowned, passed}
use Rattle.forwarding.proofs.syncs.Syncs.disown.Goals as goal
use Rattle.forwarding.proofs.syncs.Syncs.disown.Goals.{then-eq, else-eq}

pub loop-place-preserved : goal.loop-place-preserved
loop-place-preserved c =
    let len = c.len-place-end.ensures in
    let whole : c.self.inside.places.items ≡ c.args.self.now = c.self.view_is in
    let kept = c.self.inside.places.ok.0 in
    let test = c.loop-place-test.true in
    let within : c.loop-place.place < length c.args.self.now = omega (arith, ap length whole) in
    elim c.if-eq.branch [
      | then-eq w ↦ ap (λ s. s.places.items) w.self-inside-is
          ∙ disowned c.args.number c.args.self.now c.loop-place.self-inside.places.items c.loop-place.place
          c.index.result.now within c.loop-place.invariant c.index.ensures (sym c.eq.ensures ∙ w.if-eq.true)
      | else-eq w ↦ ap (λ s. s.places.items) w.self-inside-is
          ∙ passed c.args.number c.args.self.now c.loop-place.self-inside.places.items c.loop-place.place
          c.index.result.now within c.loop-place.invariant c.index.ensures (sym c.eq.ensures ∙ w.if-eq.false)
    ]
