use Rattle.std.proofs.Common.{List, ℕ, refl, ap, ◌∙◌, w64, rules}
use Rattle.std.specs.BTreeMap.{insert_entry}
use Rattle.std.specs.BTreeSet.{insert_key}
use Rattle.std.specs.Ordering.{int_cmp}
use Rattle.std.proofs.lemmas.Int.{to_z-of_z}
use Rattle.ephemerals.specs.Orders.{path_cmp}
use Rattle.four_letter.proofs.Gathering.{adds_path_through, adds_first_path}
use Rattle.four_letter.proofs.watched.add_path.Goals as goal
use denote.Ref.{Bor}
use mir.Val.{SFits}

pub returns-in_ok-insert-in-Some : goal.returns-in_ok-insert-in-Some
returns-in_ok-insert-in-Some c =
    let new = c.get_mut.follows.lender c.insert.new.self in
    adds_path_through c.args.row.now c.args.row.now.session c.as_str-path.result c.args.by_session.now.entries
    new.entries c.in-Some.paths.now c.insert.new.self refl c.as_str-path.ensures
    (c.get_mut.follows.holds c.insert.new.self).0 c.in-Some.ensures.value c.in_ok-insert-in-Some.ensures.keys

pub returns-in_ok-insert-in-None-2 : goal.returns-in_ok-insert-in-None-2
returns-in_ok-insert-in-None-2 c =
    let paths = c.insert-in-None.new.self in
    let fits : SFits w64 c.args.row.now.session = search rules in
    adds_first_path c.args.row.now c.args.row.now.session c.as_str-path.result c.args.by_session.now.entries
    c.insert-in-None-2.new.self.entries paths refl c.as_str-path.ensures
    (c.in_ok-insert-in-None-2.ensures.entries
    ∙ ap (λ z. insert_entry int_cmp c.get_mut.follows.lender-at-none.entries z paths)
    (to_z-of_z w64 c.args.row.now.session fits)
    ∙ ap (λ m. insert_entry int_cmp m.entries c.args.row.now.session paths) c.get_mut.follows.holds-at-none)
    c.in-None.ensures.value
    (c.in_ok-insert-in-None.ensures.keys
    ∙ ap (λ ks. insert_key (λ (a b : Bor (List ℕ)). path_cmp a.now b.now) ks c.as_str-path.result)
    c.new-paths.ensures.empty)
