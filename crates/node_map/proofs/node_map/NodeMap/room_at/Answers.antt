use Rattle.std.proofs.Common.{sym, ap, ◌∙◌, subst}
use Rattle.node_map.specs.Agreement.{has_node}
use Rattle.std.specs.FinMap as finmap
use Rattle.node_map.proofs.MovedNodes.{HasRoomFor, no_room_yet, room_made, no_room_needed, room_for_all}
use Rattle.node_map.proofs.node_map.NodeMap.room_at.Goals as goal

pub loop-path-init : goal.loop-path-init
loop-path-init c = (
  tt,
  tt,
  no_room_yet c.args.paths.now c.args.self.now c.with_key-room.result c.into_iter-path-iterator.result
      c.with_key-room.ensures
      (c.into_iter-path-iterator.ensures.into_iter_gives ∙ c.iter-path-items.ensures.texts),
)

pub loop-path-preserved-in-Continue-1 : goal.loop-path-preserved-in-Continue-1
loop-path-preserved-in-Continue-1 c =
    let p = c.in-Some.path.now in (
      tt,
      tt,
      room_made c.args.paths.now c.args.self.now c.loop-path.room c.insert.new.self p c.next.new.self
          c.placeholder.result
          (subst (λ es. HasRoomFor c.args.paths.now c.args.self.now es c.loop-path.room)
          c.in-Some.ensures.steps c.loop-path.invariant.2)
          (ap (has_node c.args.self.now) (sym c.as_str.ensures) ∙ sym c.has.ensures ∙ c.if-has.true)
          (c.in_ok-insert.ensures.ok
          ∙ ap (λ q. finmap.insert c.loop-path.room q c.placeholder.result)
          c.as_str-then-has.ensures),
    )

pub loop-path-preserved : goal.loop-path-preserved
loop-path-preserved c =
    let p = c.in-Some.path.now in (
      tt,
      tt,
      no_room_needed c.args.paths.now c.args.self.now c.loop-path.room p c.next.new.self
          (subst (λ es. HasRoomFor c.args.paths.now c.args.self.now es c.loop-path.room)
          c.in-Some.ensures.steps c.loop-path.invariant.2)
          (ap (has_node c.args.self.now) (sym c.as_str.ensures) ∙ sym c.has.ensures ∙ c.if-has.false),
    )

pub returns : goal.returns
returns c =
    room_for_all c.args.paths.now c.args.self.now c.loop-path.room
    (subst (λ es. HasRoomFor c.args.paths.now c.args.self.now es c.loop-path.room)
    c.in-None.ensures.steps.0 c.loop-path.invariant.2)
