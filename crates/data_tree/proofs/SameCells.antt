-- Laws of equal states and of one change.
use Rattle.std.proofs.Common.{◌≡◌, ℤ, List, [], ◌∷◌, Bool, true, false, not, cond, ◌||◌, ◌&&◌, Some, None, refl, sym, ap, ◌∙◌}
use Rattle.std.specs.List.{AllByRecursion}
use Rattle.std.specs.Ordering.{eq_by_cmp, is_eq, int_cmp, ordering_then}
use Rattle.std.specs.Cmp.{tied_itself}
use Rattle.std.specs.declared.cmp.Ordering.{Ordering}
use Rattle.std.specs.declared.cmp.Ordering.TheVariants.{Less, Equal, Greater}
use Rattle.std.proofs.lemmas.Map.Lookups.{exact_bytes}
use Rattle.std.proofs.lemmas.Map.Views.{tells_apart}
use Rattle.std.specs.FinMap as finmap
use Rattle.std.specs.FinSet as set
use Rattle.ephemerals.specs.Orders.{Bytes, path_cmp, pair_cmp}
use Rattle.node_map.specs.Updates.{with_missing_acl}
use Rattle.node_map.proofs.NodeUpdates.{updated_apart, updated_same}
use Rattle.data_tree.specs.State.{State}
use Rattle.data_tree.specs.Meaning.{Change, after_change, after_changes}
use Rattle.data_tree.specs.Meaning.Change.{Put, Remove, Own, Disown, Mend}
use Rattle.data_tree.specs.Footprint.{has_path, IsSameCell}
use Rattle.ephemerals.proofs.Totals.{path_total, pair_total, pair_exact}

-- States with the same cells and sessions are equal.
pub same_state : (s t : State) → s.sessions ≡ t.sessions → ((path : Bytes) → IsSameCell s t path) → s ≡ t
same_state s t sessions cells =
    let nodes : s.nodes ≡ t.nodes =
    finmap.same_map path_total exact_bytes s.nodes t.nodes (λ path. (cells path).node) in
    let pairs : s.pairs ≡ t.pairs = set.same_set pair_total pair_exact s.pairs t.pairs (λ p. (cells p.1).owners p.0) in
    λ i. record { nodes = nodes i; pairs = pairs i; sessions = sessions i }

pub same_cell_sym : {s t : State} {path : Bytes} → IsSameCell s t path → IsSameCell t s path
same_cell_sym e = record { node = sym e.node; owners = λ w. sym (e.owners w) }

pub same_cell_trans : {s t u : State} {path : Bytes} → IsSameCell s t path → IsSameCell t u path → IsSameCell s u path
same_cell_trans e f = record { node = e.node ∙ f.node; owners = λ w. e.owners w ∙ f.owners w }

pub same_cell_refl : (s : State) (path : Bytes) → IsSameCell s s path
same_cell_refl s path = record { node = refl; owners = λ w. refl }

abbrev pub path_of : Change → Bytes
path_of (Put path node) = path
path_of (Remove path) = path
path_of (Own session path) = path
path_of (Disown session path) = path
path_of (Mend path acl) = path

then_apart : (r q : Ordering) → is_eq q ≡ false → is_eq (ordering_then r q) ≡ false
then_apart Less q h = refl
then_apart Equal q h = h
then_apart Greater q h = refl

pair_apart : (v w : ℤ) (q p : Bytes) → eq_by_cmp path_cmp q p ≡ false → eq_by_cmp pair_cmp (v, q) (w, p) ≡ false
pair_apart v w q p h = then_apart (int_cmp v w) (path_cmp q p) h

-- A change leaves the cells at other paths.
pub after_change-frame : (s : State) (c : Change) (q : Bytes) → eq_by_cmp path_cmp q (path_of c) ≡ false
    → IsSameCell (after_change s c) s q
after_change-frame s (Put p n) q h =
    record {
      node = finmap.get-insert path_total s.nodes p n q
          ∙ ap (λ b. cond b (Some n) (finmap.get s.nodes q)) h;
      owners = λ w. refl;
    }
after_change-frame s (Remove p) q h =
    record {
      node = finmap.get-remove path_total s.nodes p q
          ∙ ap (λ b. cond b None (finmap.get s.nodes q)) h;
      owners = λ w. refl;
    }
after_change-frame s (Own v p) q h =
    record {
      node = refl;
      owners = λ w. set.contains-insert pair_total s.pairs (v, p) (w, q)
          ∙ ap (λ b. b || set.contains s.pairs (w, q)) (pair_apart w v q p h);
    }
after_change-frame s (Disown v p) q h =
    record {
      node = refl;
      owners = λ w. set.contains-remove pair_total s.pairs (v, p) (w, q)
          ∙ ap (λ b. not b && set.contains s.pairs (w, q)) (pair_apart w v q p h);
    }
after_change-frame s (Mend p acl) q h =
    record { node = updated_apart s.nodes p (with_missing_acl acl) q h; owners = λ w. refl }

-- What a change leaves in a cell depends on that cell alone.
pub after_change-local : (s t : State) (c : Change) (q : Bytes) → IsSameCell s t q
    → IsSameCell (after_change s c) (after_change t c) q
after_change-local s t (Put p n) q e =
    record {
      node = finmap.get-insert path_total s.nodes p n q
          ∙ ap (λ x. cond (eq_by_cmp path_cmp q p) (Some n) x) e.node
          ∙ sym (finmap.get-insert path_total t.nodes p n q);
      owners = e.owners;
    }
after_change-local s t (Remove p) q e =
    record {
      node = finmap.get-remove path_total s.nodes p q ∙ ap (λ x. cond (eq_by_cmp path_cmp q p) None x) e.node
          ∙ sym (finmap.get-remove path_total t.nodes p q);
      owners = e.owners;
    }
after_change-local s t (Own v p) q e =
    record {
      node = e.node;
      owners = λ w. set.contains-insert pair_total s.pairs (v, p) (w, q)
          ∙ ap (λ b. eq_by_cmp pair_cmp (w, q) (v, p) || b) (e.owners w)
          ∙ sym (set.contains-insert pair_total t.pairs (v, p) (w, q));
    }
after_change-local s t (Disown v p) q e =
    record {
      node = e.node;
      owners = λ w. set.contains-remove pair_total s.pairs (v, p) (w, q)
          ∙ ap (λ b. not (eq_by_cmp pair_cmp (w, q) (v, p)) && b) (e.owners w)
          ∙ sym (set.contains-remove pair_total t.pairs (v, p) (w, q));
    }
after_change-local s t (Mend p acl) q e =
    record { node = updated_same s.nodes t.nodes p (with_missing_acl acl) q e.node; owners = e.owners }

pub after_change-sessions : (s : State) (c : Change) → (after_change s c).sessions ≡ s.sessions
after_change-sessions s (Put p n) = refl
after_change-sessions s (Remove p) = refl
after_change-sessions s (Own v p) = refl
after_change-sessions s (Disown v p) = refl
after_change-sessions s (Mend p acl) = refl

-- The changes are at these paths.
abbrev pub AreWithin : List Bytes → List Change → Type 0
AreWithin paths cs = AllByRecursion (λ c. has_path paths (path_of c) ≡ true) cs

apart_from_within : (paths : List Bytes) (q p : Bytes) → has_path paths q ≡ false → has_path paths p ≡ true → (b : Bool)
    → eq_by_cmp path_cmp q p ≡ b → b ≡ false
apart_from_within paths q p out within false e = refl
apart_from_within paths q p out within true e = sym (ap (has_path paths) (tells_apart exact_bytes q p e) ∙ within) ∙ out

pub after_changes-frame : (paths : List Bytes) (s : State) (cs : List Change) → AreWithin paths cs → (q : Bytes)
    → has_path paths q ≡ false → IsSameCell (after_changes s cs) s q
after_changes-frame paths s [] within q out = same_cell_refl s q
after_changes-frame paths s (c ∷ cs) within q out =
    let apart : eq_by_cmp path_cmp q (path_of c) ≡ false = apart_from_within paths q (path_of c) out within.0 _ refl in
    same_cell_trans (after_changes-frame paths (after_change s c) cs within.1 q out) (after_change-frame s c q apart)

pub after_changes-local : (s t : State) (cs : List Change) (q : Bytes) → IsSameCell s t q
    → IsSameCell (after_changes s cs) (after_changes t cs) q
after_changes-local s t [] q e = e
after_changes-local s t (c ∷ cs) q e =
    after_changes-local (after_change s c) (after_change t c) cs q (after_change-local s t c q e)

pub after_changes-sessions : (s : State) (cs : List Change) → (after_changes s cs).sessions ≡ s.sessions
after_changes-sessions s [] = refl
after_changes-sessions s (c ∷ cs) = after_changes-sessions (after_change s c) cs ∙ after_change-sessions s c

pub touches_first : (p : Bytes) (ps : List Bytes) → has_path (p ∷ ps) p ≡ true
touches_first p ps = ap (λ r. is_eq r || has_path ps p) (tied_itself path_total p)

or_true : (b : Bool) → (b || true) ≡ true
or_true true = refl
or_true false = refl

pub touches_second : (p q : Bytes) (ps : List Bytes) → has_path (q ∷ p ∷ ps) p ≡ true
touches_second p q ps = ap (λ b. eq_by_cmp path_cmp p q || b) (touches_first p ps) ∙ or_true (eq_by_cmp path_cmp p q)
