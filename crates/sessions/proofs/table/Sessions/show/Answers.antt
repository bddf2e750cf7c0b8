use Rattle.std.proofs.Common.{◌≡◌, ◌≤◌, List, [], ◌∷◌, ◌++◌, true, ap, sym, subst, ◌∙◌, Some}
use Rattle.std.specs.FinMap as finmap
use Rattle.jute.specs.declared.owned.Id.{Id}
use Rattle.sessions.specs.Sessions.{are_within_limits, bytes_of_ids, ids_bytes_limit, with_id}
use Rattle.sessions.specs.Inner.{with_shown_id}
use Rattle.sessions.proofs.Agreeing.{shows}
use Rattle.sessions.proofs.table.Sessions.show.Goals as goal

pub has_room-requires : goal.has_room-requires
has_room-requires c =
    subst (λ (ids : List Id). bytes_of_ids ids ≤ ids_bytes_limit) (sym c.ids-2.ensures)
    (c.self.invariant.bytes c.args.connection c.in-Some.shown.now (sym c.in-Some.ensures))

pub invariant_of-self-2 : goal.invariant_of-self-2
invariant_of-self-2 c =
    let here : finmap.get c.self.inside.connections c.args.connection ≡ Some c.in-Some.shown.now =
    sym c.in-Some.ensures in
    let fit : are_within_limits (with_id c.in-Some.shown.now c.args.id).ids ≡ true =
    ap (λ (ids : List Id). are_within_limits (ids ++ c.args.id ∷ [])) (sym c.ids-2.ensures)
    ∙ sym c.has_room.ensures
    ∙ c.if-not-has_room.false in
    rw (c.in_ok-show.ensures.ok ∙ ap (with_shown_id c.self.inside.connections c.args.connection c.args.id) here)
    (shows _ c.args.connection c.in-Some.shown.now c.args.id c.self.invariant here fit)
