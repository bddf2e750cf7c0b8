use Rattle.std.proofs.Common.{List, ℕ, ap, ◌∙◌, w64, rules}
use Rattle.std.specs.BTreeMap.{insert_entry}
use Rattle.std.specs.BTreeSet.{insert_key}
use Rattle.std.specs.Ordering.{int_cmp}
use Rattle.std.proofs.lemmas.Int.{to_z-of_z}
use Rattle.ephemerals.specs.Orders.{path_cmp}
use Rattle.four_letter.proofs.Gathering.{adds_session_through, adds_first_session}
use Rattle.four_letter.proofs.watched.add_session.Goals as goal
use denote.Ref.{Bor}
use mir.Val.{SFits}

pub returns-in_ok-insert-in-Some : goal.returns-in_ok-insert-in-Some
returns-in_ok-insert-in-Some c =
    let new = c.get_mut.follows.lender c.insert.new.self in
    let fits : SFits w64 c.args.row.now.session = search rules in
    adds_session_through c.args.row.now c.as_str-path.result.now c.args.by_path.now.entries new.entries c.in-Some.sessions.now
    c.insert.new.self c.as_str-path.ensures (c.get_mut.follows.holds c.insert.new.self).0 c.in-Some.ensures.value
    (c.in_ok-insert-in-Some.ensures.keys
    ∙ ap (insert_key int_cmp c.in-Some.sessions.now.keys) (to_z-of_z w64 c.args.row.now.session fits))

pub returns-in_ok-insert-in-None-2 : goal.returns-in_ok-insert-in-None-2
returns-in_ok-insert-in-None-2 c =
    let sessions = c.insert-in-None.new.self in
    let fits : SFits w64 c.args.row.now.session = search rules in
    adds_first_session c.args.row.now c.as_str-path.result c.args.by_path.now.entries c.insert-in-None-2.new.self.entries
    sessions c.as_str-path.ensures
    (c.in_ok-insert-in-None-2.ensures.entries
    ∙ ap (λ m. insert_entry (λ (a b : Bor (List ℕ)). path_cmp a.now b.now) m.entries c.as_str-path.result sessions)
    c.get_mut.follows.holds-at-none)
    c.in-None.ensures.value
    (c.in_ok-insert-in-None.ensures.keys
    ∙ (λ i. insert_key int_cmp (c.new-sessions.ensures.empty i) (to_z-of_z w64 c.args.row.now.session fits i)))
