-- The base of a tree, and what leaves it.
use Rattle.std.proofs.Common.{◌≡◌, ℤ, Bool, true, false, cond, ◌||◌, Option, Some, None, refl, sym, ap, subst, ◌∙◌}
use Rattle.std.specs.Option.{unwrap_or}
use Rattle.std.specs.Ordering.{eq_by_cmp, is_eq}
use Rattle.std.specs.Cmp.{tied_itself}
use Rattle.std.specs.FinMap as finmap
use Rattle.std.specs.FinSet as set
use Rattle.std.proofs.lemmas.Map.Lookups.{exact_bytes}
use Rattle.std.proofs.lemmas.Map.Views.{tells_apart}
use Rattle.ephemerals.specs.Orders.{Bytes, Names, path_cmp}
use Rattle.ephemerals.proofs.Totals.{path_total}
use Rattle.node_map.specs.declared.node.Node.{Node}
use Rattle.data_tree.specs.State.{State}
use Rattle.data_tree.specs.Cells.{cells_at, without_cells, with_cells, CopiesCell, without_node}
use Rattle.data_tree.specs.Footprint.{IsSameCell}
use Rattle.data_tree.proofs.SameCells.{same_state, same_cell_sym, same_cell_trans}
use Rattle.data_tree.proofs.MovedCells.{taken_cells_move, cells_come_to_empty_cells}
use Rattle.based_tree.specs.declared.saved.SavedCells.{SavedCells}
use Rattle.based_tree.specs.Based.{BasedTree, at_base}
use Rattle.based_tree.specs.Inner.{sessions_of, is_one_newer, unless_newer, has_newer, without_newer, HasNoNewer, base_of, is_saved, SavesMore, IsSavedFrom}
use Rattle.based_tree.proofs.LaterNodes.{get-older, unless-not, unless-newer}

-- ---- the cells of the base

put-saved : (s : SavedCells) (rest : State) (q : Bytes) → is_saved s q ≡ true
    → IsSameCell (with_cells (cells_at s.paths s.cells) (without_cells s.paths rest)) s.cells q
put-saved s rest q here =
    same_cell_trans
    ((cells_come_to_empty_cells (cells_at s.paths s.cells) (without_cells s.paths rest)).put q
    ((taken_cells_move s.paths rest).gone q here))
    ((taken_cells_move s.paths s.cells).taken q here)

put-unsaved : (s : SavedCells) (rest : State) (q : Bytes) → is_saved s q ≡ false
    → IsSameCell (with_cells (cells_at s.paths s.cells) (without_cells s.paths rest)) rest q
put-unsaved s rest q out =
    same_cell_trans
    ((cells_come_to_empty_cells (cells_at s.paths s.cells) (without_cells s.paths rest)).left q
    ((taken_cells_move s.paths s.cells).nothing q out))
    ((taken_cells_move s.paths rest).left q out)

pub base-saved : (s : SavedCells) (tree : State) (q : Bytes) → is_saved s q ≡ true → IsSameCell (base_of s tree) s.cells q
base-saved s tree q here =
    let e = put-saved s (without_newer s.newest tree) q here in record { node = e.node; owners = e.owners }

pub base-unsaved : (s : SavedCells) (tree : State) (q : Bytes) → is_saved s q ≡ false
    → IsSameCell (base_of s tree) (without_newer s.newest tree) q
base-unsaved s tree q out =
    let e = put-unsaved s (without_newer s.newest tree) q out in record { node = e.node; owners = e.owners }

-- A cell without a newer node.
pub cell-older : (z : ℤ) (tree : State) (q : Bytes) → has_newer z tree q ≡ false → IsSameCell (without_newer z tree) tree q
cell-older z tree q not = record {
  node = get-older z tree q ∙ unless-not z (finmap.get tree.nodes q) not;
  owners = λ w. refl;
}

cell-newer : (z : ℤ) (tree : State) (q : Bytes) → has_newer z tree q ≡ true
    → IsSameCell (without_node q tree) (without_newer z tree) q
cell-newer z tree q newer = record {
  node = finmap.get-remove path_total tree.nodes q q
      ∙ ap (λ r. cond (is_eq r) None (finmap.get tree.nodes q)) (tied_itself path_total q)
      ∙ sym (get-older z tree q ∙ by (finmap.get tree.nodes q) newer);
  owners = λ w. refl;
}
  where
    by : (o : Option Node) → is_one_newer z o ≡ true → unless_newer z o ≡ None
    by None e = refl
    by (Some n) e = unless-newer z n e

copied_from : (p : Bytes) (a b old new : State) → IsSameCell a b p → CopiesCell p a old new → CopiesCell p b old new
copied_from p a b old new same copied =
    record { here = same_cell_trans copied.here same; elsewhere = copied.elsewhere }

-- What the base has at a path that isn't saved was copied.
pub copied-newer : (z : ℤ) (tree : State) (p : Bytes) (old new : State) → has_newer z tree p ≡ true
    → CopiesCell p (without_node p tree) old new → CopiesCell p (without_newer z tree) old new
copied-newer z tree p old new newer =
    copied_from p (without_node p tree) (without_newer z tree) old new (cell-newer z tree p newer)

pub copied-older : (z : ℤ) (tree : State) (p : Bytes) (old new : State) → has_newer z tree p ≡ false
    → CopiesCell p tree old new → CopiesCell p (without_newer z tree) old new
copied-older z tree p old new older =
    copied_from p tree (without_newer z tree) old new (same_cell_sym (cell-older z tree p older))

-- ---- a base stays

-- Bases with the same cells.
same_base : (s t : SavedCells) (tree new : State) → sessions_of t new ≡ sessions_of s tree
    → ((q : Bytes) → IsSameCell (base_of t new) (base_of s tree) q) → base_of t new ≡ base_of s tree
same_base s t tree new sessions cells = same_state (base_of t new) (base_of s tree) sessions cells

-- The tree changes only where its cells were saved before.
pub base-stays : (s : SavedCells) (tree new : State) → IsSavedFrom s tree new → base_of s new ≡ base_of s tree
base-stays s tree new step = same_base s s tree new step.sessions (λ q. each q (is_saved s q) refl)
  where
    each : (q : Bytes) (b : Bool) → is_saved s q ≡ b → IsSameCell (base_of s new) (base_of s tree) q
    each q true here = same_cell_trans (base-saved s new q here) (same_cell_sym (base-saved s tree q here))
    each q false out =
        same_cell_trans (base-unsaved s new q out)
        (same_cell_trans (step.cells q out) (same_cell_sym (base-unsaved s tree q out)))

-- ---- one more cell is saved

saved-inserted : (paths : Names) (p q : Bytes) (b : Bool) → eq_by_cmp path_cmp q p ≡ b
    → set.contains (set.insert paths p) q ≡ (b || set.contains paths q)
saved-inserted paths p q b is =
    set.contains-insert path_total paths p q ∙ ap (λ x. x || set.contains paths q) is

pub saved-here : (paths new : Names) (p : Bytes) → new ≡ set.insert paths p → set.contains new p ≡ true
saved-here paths new p inserted =
    ap (λ (names : Names). set.contains names p) inserted
    ∙ set.contains-insert path_total paths p p
    ∙ ap (λ r. is_eq r || set.contains paths p) (tied_itself path_total p)

module _ (tree : State) (old new : SavedCells) (p : Bytes) (absent : is_saved old p ≡ false)
    (inserted : new.paths ≡ set.insert old.paths p) (newest : new.newest ≡ old.newest)
    (copied : CopiesCell p (without_newer old.newest tree) old.cells new.cells) where
  unsaved : (q : Bytes) → is_saved new q ≡ false → IsSameCell (base_of new tree) (without_newer old.newest tree) q
  unsaved q out =
      subst (λ z. IsSameCell (base_of new tree) (without_newer z tree) q) newest (base-unsaved new tree q out)

  has : (q : Bytes) (b : Bool) → eq_by_cmp path_cmp q p ≡ b → is_saved new q ≡ (b || is_saved old q)
  has q b is = ap (λ s. set.contains s q) inserted ∙ saved-inserted old.paths p q b is

  other : (q : Bytes) (b : Bool) → is_saved old q ≡ b → eq_by_cmp path_cmp q p ≡ false
      → IsSameCell (base_of new tree) (base_of old tree) q
  other q true here apart =
      same_cell_trans (base-saved new tree q (has q false apart ∙ here))
      (same_cell_trans (copied.elsewhere q apart) (same_cell_sym (base-saved old tree q here)))
  other q false out apart =
      same_cell_trans (unsaved q (has q false apart ∙ out)) (same_cell_sym (base-unsaved old tree q out))

  at_path : IsSameCell (base_of new tree) (base_of old tree) p
  at_path =
      same_cell_trans (base-saved new tree p (saved-here old.paths new.paths p inserted))
      (same_cell_trans copied.here (same_cell_sym (base-unsaved old tree p absent)))

  each : (q : Bytes) (b : Bool) → eq_by_cmp path_cmp q p ≡ b → IsSameCell (base_of new tree) (base_of old tree) q
  each q true same =
      subst (λ x. IsSameCell (base_of new tree) (base_of old tree) x) (sym (tells_apart exact_bytes q p same)) at_path
  each q false apart = other q (is_saved old q) refl apart

  pub saved-one : new.sessions ≡ old.sessions → SavesMore tree old new
  saved-one sessions = record {
    base = same_base old new tree tree (ap (λ o. unwrap_or o tree.sessions) sessions)
        (λ q. each q (eq_by_cmp path_cmp q p) refl);
    sessions = sessions;
    newest = newest;
    keeps = λ q here. keeps q (eq_by_cmp path_cmp q p) refl here;
  }
    where
      keeps : (q : Bytes) (b : Bool) → eq_by_cmp path_cmp q p ≡ b → is_saved old q ≡ true → is_saved new q ≡ true
      keeps q true is here = has q true is
      keeps q false is here = has q false is ∙ here

-- ---- what is saved piece by piece

pub nothing_more : (tree : State) (s : SavedCells) → SavesMore tree s s
nothing_more tree s = record { base = refl; sessions = refl; newest = refl; keeps = λ q here. here }

pub saves_then : (tree : State) (a b c : SavedCells) → SavesMore tree a b → SavesMore tree b c → SavesMore tree a c
saves_then tree a b c first next = record {
  base = next.base ∙ first.base;
  sessions = next.sessions ∙ first.sessions;
  newest = next.newest ∙ first.newest;
  keeps = λ q here. next.keeps q (first.keeps q here);
}

-- ---- nothing is saved

pub base-none : (s : SavedCells) (tree : State) → s.paths ≡ set.empty → s.sessions ≡ None → HasNoNewer s.newest tree
    → base_of s tree ≡ tree
base-none s tree none sessions older =
    same_state (base_of s tree) tree (ap (λ o. unwrap_or o tree.sessions) sessions)
    (λ q. same_cell_trans
    (base-unsaved s tree q (ap (λ (names : Names). set.contains names q) none ∙ set.contains-empty path_cmp q))
    (cell-older s.newest tree q (older q)))

pub based-none : (s : SavedCells) (tree : State) → s.paths ≡ set.empty → s.sessions ≡ None → HasNoNewer s.newest tree
    → (let b : BasedTree = record { base = base_of s tree; tree = tree } in b ≡ at_base tree)
based-none s tree none sessions older =
    ap (λ base. record { base = base; tree = tree }) (base-none s tree none sessions older)

-- ---- a step

-- The tree takes a step that was saved before.
pub based-step : (old new : SavedCells) (tree after : State) → base_of new tree ≡ base_of old tree
    → IsSavedFrom new tree after
    → (let b : BasedTree = record { base = base_of new after; tree = after } in
    b ≡ record { base = base_of old tree; tree = after })
based-step old new tree after same step =
    ap (λ base. record { base = base; tree = after }) (base-stays new tree after step ∙ same)
