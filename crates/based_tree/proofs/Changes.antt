-- What transactions change, and what is saved of it.
use Rattle.std.proofs.Common.{◌≡◌, ℤ, List, [], ◌∷◌, Bool, true, false, not, ◌||◌, ◌&&◌, int_lt, Option, Some, None, is_some, Result, Ok, Err, OnOk, refl, sym, ap, subst, ◌∙◌}
use Rattle.std.specs.List.{AllByRecursion, list_any}
use Rattle.std.specs.Option.{unwrap_or}
use Rattle.std.specs.Ordering.{eq_by_cmp, int_eq}
use Rattle.std.specs.FinMap as finmap
use Rattle.std.specs.FinSet as set
use Rattle.std.proofs.lemmas.Map.Lookups.{exact_bytes, exact_signed}
use Rattle.std.proofs.lemmas.Map.Views.{tells_apart}
use mathlib.Core.Bool.{true≢false}
use Rattle.ephemerals.specs.Orders.{Bytes, Names, OwnerPairs, path_cmp, sorted_names}
use Rattle.ephemerals.specs.Pairs.{paths_of_session}
use Rattle.ephemerals.proofs.Totals.{path_total}
use Rattle.ephemerals.proofs.Ascending.{any-in_order}
use Rattle.ephemerals.proofs.SessionPaths.{contains-owned, contains-without}
use Rattle.paths_and_acls.specs.Paths.{parent_of}
use Rattle.txn_codec.specs.Row.{footprint_of_parts, session_change, is_ending, ends_session}
use Rattle.txn_codec.specs.declared.txn.Body.{Body}
use Rattle.txn_codec.specs.declared.txn.Body.TheVariants as body
use Rattle.txn_codec.specs.declared.row.SessionChange.{SessionChange}
use Rattle.txn_codec.specs.declared.row.SessionChange.TheVariants.{Nothing, Ends}
use Rattle.txn_codec.specs.declared.txn.Txn.{Txn}
use Rattle.txn_codec.specs.declared.txn.TxnHeader.{TxnHeader}
use Rattle.data_tree.specs.State.{State, SessionTimeouts}
use Rattle.data_tree.specs.Meaning.{effect_of_txn, effect_of_body, state_after, of_close_session, state_without_session, delete_operations, with_names, ended_paths}
use Rattle.data_tree.specs.Footprint.{has_path, IsSameCell, footprint, KeepsToCells}
use Rattle.data_tree.specs.Commuting.{with_timeout_of}
use Rattle.data_tree.proofs.SameCells.{same_cell_trans, same_cell_refl}
use Rattle.data_tree.proofs.Commute.{transactions_keep_to_their_footprints, parts-confined, mean-sessions}
use Rattle.based_tree.specs.declared.saved.SavedCells.{SavedCells}
use Rattle.based_tree.specs.Inner.{sessions_of, is_saved, unless_newer, without_newer, SavesMore, AreSaved, IsReadyAt, IsCellReady, AreCellsReady, IsReadyFor, IsReadyForEach, is_quiet, deleted_footprint, ended_footprint, listed_in, IsSavedFrom}
use Rattle.based_tree.proofs.LaterNodes.{get-older, older-same, stays, pairs-stay}
use Rattle.based_tree.proofs.Bases.{nothing_more}

-- ---- paths that are saved one after another

-- Each of these paths is saved, or among those that are left.
abbrev pub LeftToSave : (all left : List Bytes) → SavedCells → Type 0
LeftToSave all left s = (q : Bytes) → has_path all q ≡ true → (is_saved s q || has_path left q) ≡ true

or_at_first : (a b : Bool) → a ≡ true → (a || b) ≡ true
or_at_first true b h = refl
or_at_first false b h = absurd (true≢false (sym h))

or_at_second : (a b : Bool) → b ≡ true → (a || b) ≡ true
or_at_second true b h = refl
or_at_second false b h = h

pub left-first : (all : List Bytes) (s : SavedCells) → LeftToSave all all s
left-first all s q at = or_at_second (is_saved s q) (has_path all q) at

pub left-next : (tree : State) (all : List Bytes) (p : Bytes) (left : List Bytes) (a c : SavedCells)
    → LeftToSave all (p ∷ left) a → SavesMore tree a c → is_saved c p ≡ true → LeftToSave all left c
left-next tree all p left a c so_far more here q at = by (is_saved a q) refl (eq_by_cmp path_cmp q p) refl
  where
    by : (b : Bool) → is_saved a q ≡ b → (t : Bool) → eq_by_cmp path_cmp q p ≡ t → (is_saved c q || has_path left q) ≡ true
    by true e t is = or_at_first (is_saved c q) (has_path left q) (more.keeps q e)
    by false e true is =
        or_at_first (is_saved c q) (has_path left q) (ap (is_saved c) (tells_apart exact_bytes q p is) ∙ here)
    by false e false is =
        or_at_second (is_saved c q) (has_path left q)
        (sym ((λ i. e i || (is i || has_path left q))) ∙ so_far q at)

pub left-last : (all : List Bytes) (s : SavedCells) → LeftToSave all [] s → AreSaved all s
left-last all s so_far q at = by (is_saved s q) (so_far q at)
  where
    by : (b : Bool) → (b || false) ≡ true → b ≡ true
    by true e = refl
    by false e = e

-- ---- the sessions

sessions_same : (s : SavedCells) (tree new : State) → new.sessions ≡ tree.sessions
    → sessions_of s new ≡ sessions_of s tree
sessions_same s tree new e = ap (λ x. unwrap_or s.sessions x) e

sessions_kept : (s : SavedCells) (tree new : State) → is_some s.sessions ≡ true
    → sessions_of s new ≡ sessions_of s tree
sessions_kept s tree new e = by s.sessions e
  where
    by : (o : Option SessionTimeouts) → is_some o ≡ true → unwrap_or o new.sessions ≡ unwrap_or o tree.sessions
    by None h = absurd (true≢false (sym h))
    by (Some x) h = refl

-- ---- one transaction

outside : (ps : List Bytes) (s : SavedCells) → AreSaved ps s → (q : Bytes) → is_saved s q ≡ false
    → has_path ps q ≡ false
outside ps s saved q out = by (has_path ps q) refl
  where
    by : (b : Bool) → has_path ps q ≡ b → has_path ps q ≡ false
    by true e = absurd (true≢false (sym (saved q e) ∙ out))
    by false e = e

-- What a later transaction leaves in a cell that isn't saved, where the base has no node.
quiet_step : (z : ℤ) (h : TxnHeader) (b : Body) (tree : State) (q : Bytes) → is_quiet b ≡ true → int_lt z h.zxid ≡ true
    → unless_newer z (finmap.get tree.nodes q) ≡ None
    → IsSameCell (without_newer z (effect_of_body h b tree).state) (without_newer z tree) q
quiet_step z h (body.Single o) tree q quiet later absent = record {
  node = get-older z (effect_of_body h (body.Single o) tree).state q
      ∙ stays z h o tree q quiet later absent
      ∙ sym absent
      ∙ sym (get-older z tree q);
  owners = λ w. ap (λ (pairs : OwnerPairs). set.contains pairs (w, q)) (pairs-stay h o tree quiet);
}
quiet_step z h (body.SetAcl b) tree q quiet later absent = absurd (true≢false (sym quiet))
quiet_step z h (body.Multi parts) tree q quiet later absent = absurd (true≢false (sym quiet))
quiet_step z h (body.CreateSession timeout) tree q quiet later absent = absurd (true≢false (sym quiet))
quiet_step z h (body.CloseSession listed) tree q quiet later absent = absurd (true≢false (sym quiet))

cells_step : (t : Txn) (s : SavedCells) (tree : State) → KeepsToCells t → IsReadyFor t s tree → (q : Bytes)
    → is_saved s q ≡ false
    → IsSameCell (without_newer s.newest (effect_of_txn tree t).state) (without_newer s.newest tree) q
cells_step t s tree keeps ready q out = by (has_path (footprint t) q) refl
  where
    by : (b : Bool) → has_path (footprint t) q ≡ b
        → IsSameCell (without_newer s.newest (effect_of_txn tree t).state) (without_newer s.newest tree) q
    by true at =
        let r = ready q at out in quiet_step s.newest t.header t.body tree q r.quietly r.later r.absent
    by false apart =
        older-same s.newest (effect_of_txn tree t).state tree q
        ((transactions_keep_to_their_footprints t keeps).state.frame tree q apart)

pub footprint_step : (t : Txn) (s : SavedCells) (tree : State) → KeepsToCells t → session_change t.body ≡ Nothing
    → IsReadyFor t s tree → IsSavedFrom s tree (effect_of_txn tree t).state
footprint_step t s tree keeps same ready = record {
  cells = cells_step t s tree keeps ready;
  sessions = sessions_same s tree (effect_of_txn tree t).state
      (mean-sessions t tree keeps ∙ ap (λ (c : SessionChange). with_timeout_of t.header c tree.sessions) same);
}

-- Whatever it does to sessions, which are saved.
pub sessions_step : (t : Txn) (s : SavedCells) (tree : State) → KeepsToCells t → is_some s.sessions ≡ true
    → IsReadyFor t s tree → IsSavedFrom s tree (effect_of_txn tree t).state
sessions_step t s tree keeps some ready = record {
  cells = cells_step t s tree keeps ready;
  sessions = sessions_kept s tree (effect_of_txn tree t).state some;
}

-- ---- the end of a session

deletes-touch : (ps : List Bytes) (q : Bytes) → has_path ps q ≡ true
    → has_path (footprint_of_parts (delete_operations ps)) q ≡ true
deletes-touch [] q at = at
deletes-touch (p ∷ ps) q at = by (eq_by_cmp path_cmp q p) at (deletes-touch ps q)
  where
    by : (b : Bool) → (b || has_path ps q) ≡ true
        → (has_path ps q ≡ true → has_path (footprint_of_parts (delete_operations ps)) q ≡ true)
        → (b || (eq_by_cmp path_cmp q (parent_of p) || has_path (footprint_of_parts (delete_operations ps)) q)) ≡ true
    by true h rest = refl
    by false h rest = or_at_second (eq_by_cmp path_cmp q (parent_of p)) _ (rest h)

named-stay : (names : Names) (ps : List Bytes) (q : Bytes) → set.contains names q ≡ true
    → set.contains (with_names names ps) q ≡ true
named-stay names [] q at = at
named-stay names (p ∷ ps) q at =
    named-stay (set.insert names p) ps q
    (set.contains-insert path_total names p q ∙ or_at_second (eq_by_cmp path_cmp q p) (set.contains names q) at)

and_true : (b : Bool) → (b && true) ≡ b
and_true true = refl
and_true false = refl

-- A path that isn't saved isn't the session's.
module _ (h : TxnHeader) (listed : List Bytes) (s : SavedCells) (tree : State)
    (saved : AreSaved (ended_footprint h.client_id listed tree) s) where
  abbrev ended : Names
  ended = ended_paths h.client_id listed tree

  not_owned : (q : Bytes) → is_saved s q ≡ false → set.contains tree.pairs (h.client_id, q) ≡ false
  not_owned q out = by (set.contains tree.pairs (h.client_id, q)) refl
    where
      by : (b : Bool) → set.contains tree.pairs (h.client_id, q) ≡ b → set.contains tree.pairs (h.client_id, q) ≡ false
      by false e = e
      by true e =
          let owned : set.contains (paths_of_session h.client_id tree.pairs) q ≡ true =
          contains-owned h.client_id tree.pairs q ∙ e in
          let touched : has_path (deleted_footprint ended) q ≡ true =
          deletes-touch (sorted_names ended) q
          (any-in_order ended q ∙ named-stay (paths_of_session h.client_id tree.pairs) listed q owned) in
          absurd (true≢false (sym (saved q touched) ∙ out))

  without_session : (q : Bytes) → is_saved s q ≡ false → IsSameCell (state_without_session h.client_id tree) tree q
  without_session q out = record {
    node = refl;
    owners = λ w. contains-without h.client_id tree.pairs (w, q) ∙ by w (int_eq w h.client_id) refl;
  }
    where
      by : (w : ℤ) (b : Bool) → int_eq w h.client_id ≡ b
          → (set.contains tree.pairs (w, q) && not (int_eq w h.client_id)) ≡ set.contains tree.pairs (w, q)
      by w true e =
          let none : set.contains tree.pairs (w, q) ≡ false =
          ap (λ v. set.contains tree.pairs (v, q)) (tells_apart exact_signed w h.client_id e) ∙ not_owned q out in
          (λ i. none i && not (int_eq w h.client_id)) ∙ sym none
      by w false e =
          ap (λ b. set.contains tree.pairs (w, q) && not b) e ∙ and_true (set.contains tree.pairs (w, q))

  pub ended_step : is_some s.sessions ≡ true → IsSavedFrom s tree (of_close_session h listed tree).state
  ended_step some = record {
    cells = λ q out.
        older-same s.newest (of_close_session h listed tree).state tree q
        (same_cell_trans
        ((parts-confined h (delete_operations (sorted_names ended))).state.frame (state_without_session h.client_id tree) q
        (outside (deleted_footprint ended) s saved q out))
        (without_session q out));
    sessions = sessions_kept s tree (of_close_session h listed tree).state some;
  }

-- ---- several transactions

-- What is ready stays so, while the cells that aren't saved leave the base as it is.
still_ready : (t : Txn) (s : SavedCells) (start tree : State) → IsReadyFor t s start
    → ((q : Bytes) → is_saved s q ≡ false → IsSameCell (without_newer s.newest tree) (without_newer s.newest start) q)
    → IsReadyFor t s tree
still_ready t s start tree ready same q at out =
    let r = ready q at out in
    record {
      quietly = r.quietly;
      later = r.later;
      absent = sym (get-older s.newest tree q) ∙ (same q out).node ∙ get-older s.newest start q ∙ r.absent;
    }

cells_each : (ts : List Txn) (s : SavedCells) (start tree : State) → AllByRecursion KeepsToCells ts
    → IsReadyForEach ts s start
    → ((q : Bytes) → is_saved s q ≡ false → IsSameCell (without_newer s.newest tree) (without_newer s.newest start) q)
    → (q : Bytes) → is_saved s q ≡ false
    → IsSameCell (without_newer s.newest (state_after tree ts)) (without_newer s.newest start) q
cells_each [] s start tree keep ready same q out = same q out
cells_each (t ∷ ts) s start tree keep ready same q out =
    cells_each ts s start (effect_of_txn tree t).state keep.1 ready.1
    (λ p away. same_cell_trans
    (cells_step t s tree keep.0 (still_ready t s start tree ready.0 same) p away) (same p away))
    q out

pub each_step : (ts : List Txn) (s : SavedCells) (tree : State) → AllByRecursion KeepsToCells ts
    → IsReadyForEach ts s tree → is_some s.sessions ≡ true → IsSavedFrom s tree (state_after tree ts)
each_step ts s tree keep ready some =
    record {
      cells = cells_each ts s tree tree keep ready (λ q out. same_cell_refl (without_newer s.newest tree) q);
      sessions = sessions_kept s tree (state_after tree ts) some;
    }

-- ---- more is saved

pub ready_more : (quiet : Bool) (zxid : ℤ) (tree : State) (a b : SavedCells) (q : Bytes) → SavesMore tree a b
    → IsCellReady quiet zxid a tree q → IsCellReady quiet zxid b tree q
ready_more quiet zxid tree a b q more ready out = by (is_saved a q) refl
  where
    by : (v : Bool) → is_saved a q ≡ v → IsReadyAt quiet zxid b tree q
    by true here = absurd (true≢false (sym (more.keeps q here) ∙ out))
    by false away =
        let r = ready away in
        record {
          quietly = r.quietly;
          later = ap (λ z. int_lt z zxid) more.newest ∙ r.later;
          absent = ap (λ z. unless_newer z (finmap.get tree.nodes q)) more.newest ∙ r.absent;
        }

pub ready_each : (tree : State) (ts : List Txn) (a b : SavedCells) → SavesMore tree a b → IsReadyForEach ts a tree
    → IsReadyForEach ts b tree
ready_each tree [] a b more ready = tt
ready_each tree (t ∷ ts) a b more ready = (
  λ q at. ready_more (is_quiet t.body) t.header.zxid tree a b q more (ready.0 q at),
  ready_each tree ts a b more ready.1,
)

pub ready_if_saved : (paths : List Bytes) (quiet : Bool) (zxid : ℤ) (s : SavedCells) (tree : State) → AreSaved paths s
    → AreCellsReady paths quiet zxid s tree
ready_if_saved paths quiet zxid s tree saved q at out = absurd (true≢false (sym (saved q at) ∙ out))

-- Two paths are ready, or one.
pub both_ready : (quiet : Bool) (zxid : ℤ) (s : SavedCells) (tree : State) (p r : Bytes) → IsCellReady quiet zxid s tree p
    → IsCellReady quiet zxid s tree r → AreCellsReady (p ∷ r ∷ []) quiet zxid s tree
both_ready quiet zxid s tree p r first second q at =
    by (eq_by_cmp path_cmp q p) refl (eq_by_cmp path_cmp q r) refl at
  where
    by : (a : Bool) → eq_by_cmp path_cmp q p ≡ a → (b : Bool) → eq_by_cmp path_cmp q r ≡ b → (a || (b || false)) ≡ true
        → IsCellReady quiet zxid s tree q
    by true is b other some = subst (IsCellReady quiet zxid s tree) (sym (tells_apart exact_bytes q p is)) first
    by false is true other some = subst (IsCellReady quiet zxid s tree) (sym (tells_apart exact_bytes q r other)) second
    by false is false other some = absurd (true≢false (sym some))

pub one_ready : (quiet : Bool) (zxid : ℤ) (s : SavedCells) (tree : State) (p : Bytes) → IsCellReady quiet zxid s tree p
    → AreCellsReady (p ∷ []) quiet zxid s tree
one_ready quiet zxid s tree p first q at = by (eq_by_cmp path_cmp q p) refl at
  where
    by : (a : Bool) → eq_by_cmp path_cmp q p ≡ a → (a || false) ≡ true → IsCellReady quiet zxid s tree q
    by true is some = subst (IsCellReady quiet zxid s tree) (sym (tells_apart exact_bytes q p is)) first
    by false is some = absurd (true≢false (sym some))

-- ---- by what a transaction does to its session

-- One path is saved.
pub one-saved : (tree : State) (p : Bytes) (s : SavedCells) → is_saved s p ≡ true → AreSaved (p ∷ []) s
one-saved tree p s here =
    left-last (p ∷ []) s (left-next tree (p ∷ []) p [] s s (left-first (p ∷ []) s) (nothing_more tree s) here)

-- So are two.
pub both-saved : (tree : State) (p q : Bytes) (s : SavedCells) → is_saved s p ≡ true → is_saved s q ≡ true
    → AreSaved (p ∷ q ∷ []) s
both-saved tree p q s here there =
    let all = p ∷ q ∷ [] in
    let same = nothing_more tree s in
    left-last all s
    (left-next tree all q [] s s (left-next tree all p (q ∷ []) s s (left-first all s) same here) same there)

end_of : (h : TxnHeader) (b : Body) (s : State) → session_change b ≡ Ends
    → (effect_of_body h b s).state ≡ (of_close_session h (listed_in b) s).state
end_of h (body.CloseSession listed) s is = refl
end_of h (body.CreateSession timeout) s is = absurd (true≢false (sym (ap is_ending is)))
end_of h (body.Single operation) s is = absurd (true≢false (sym (ap is_ending is)))
end_of h (body.SetAcl b) s is = absurd (true≢false (sym (ap is_ending is)))
end_of h (body.Multi parts) s is = absurd (true≢false (sym (ap is_ending is)))

pub end_step : (t : Txn) (s : SavedCells) (tree : State) → session_change t.body ≡ Ends → is_some s.sessions ≡ true
    → AreSaved (ended_footprint t.header.client_id (listed_in t.body) tree) s
    → IsSavedFrom s tree (effect_of_txn tree t).state
end_step t s tree is some saved =
    subst (IsSavedFrom s tree) (sym (end_of t.header t.body tree is)) (ended_step t.header (listed_in t.body) s tree saved some)

-- Unless one of them ends a session, each keeps to cells.
pub all_keep : (ts : List Txn) → list_any (λ (t : Txn). ends_session t.body) ts ≡ false → AllByRecursion KeepsToCells ts
all_keep [] none = tt
all_keep (t ∷ ts) none = (
  first (ends_session t.body) (list_any (λ (u : Txn). ends_session u.body) ts) none,
  all_keep ts (rest (ends_session t.body) (list_any (λ (u : Txn). ends_session u.body) ts) none),
)
  where
    first : (a b : Bool) → (a || b) ≡ false → a ≡ false
    first true b h = h
    first false b h = refl

    rest : (a b : Bool) → (a || b) ≡ false → b ≡ false
    rest true b h = absurd (true≢false h)
    rest false b h = h

-- ---- results

pub on_ok_both : {A E P Q R : Type 0} (r : Result A E) → (P → Q → R) → OnOk r P → OnOk r Q → OnOk r R
on_ok_both (Ok x) f p q = f p q
on_ok_both (Err e) f p q = tt
