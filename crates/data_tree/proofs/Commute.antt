-- Transactions on other cells commute.
use Rattle.std.proofs.Common.{◌≡◌, ℤ, pos, List, [], ◌∷◌, ◌++◌, Bool, true, false, Some, None, Option, refl, sym, ap, ◌∙◌, subst, if◌then◌else◌, ◌||◌, cond}
use mathlib.Core.Bool.{true≢false}
use Rattle.std.specs.Ordering.{int_eq, eq_by_cmp}
use Rattle.std.specs.FinMap as finmap
use Rattle.std.specs.FinSet as set
use Rattle.ephemerals.specs.Orders.{Bytes, path_cmp, sorted_names}
use Rattle.settings.specs.declared.dialect.Dialect.{Dialect}
use Rattle.settings.specs.declared.dialect.Dialect.TheVariants.{Zk34, Zk38}
use Rattle.paths_and_acls.specs.Paths.{parent_of, name_of}
use Rattle.node_map.specs.Updates.{owner_of}
use Rattle.node_map.specs.declared.node.Node.{Node}
use Rattle.data_tree.specs.State.{State, Nodes}
use Rattle.txn_codec.specs.Row.{has_error, footprint_of_operation, footprint_of_parts, session_change}
use Rattle.data_tree.specs.Meaning.{Effect, effect_of, create_under, create_taken, create_new, Change, mended_list, delete_missing, delete_at, delete_of, set_data_at, set_acl_at, TxnEffect, answer_of, of_effect, of_operation, of_set_acl, of_parts, stat_after, of_failed, first_error, effect_of_txn, effect_of_body, after_changes, of_create_session, of_close_session, delete_operations, ended_paths, state_without_session}
use Rattle.data_tree.specs.Meaning.Change.{Put, Own, Disown}
use Rattle.data_tree.specs.Footprint.{has_path, IsSameCell, AreSameAt, AreApart, footprint, KeepsToCells}
use Rattle.data_tree.specs.Commuting.{IsConfined, IsConfinedTo, TransactionsKeepToTheirFootprints, TransactionsSetTheirTimeouts, DisjointTransactionsCommute, with_timeout_of, with_timeouts}
use Rattle.data_tree.specs.declared.outcome.Outcome.{Outcome}
use Rattle.data_tree.specs.declared.outcome.PartResult.{PartResult}
use Rattle.jute.specs.declared.stat.Stat.{Stat}
use Rattle.node_map.specs.Stats.{stat_of}
use Rattle.std.specs.Option.{option_map}
use Rattle.txn_codec.specs.declared.txn.TxnHeader.{TxnHeader}
use Rattle.txn_codec.specs.declared.txn.Create.{Create}
use Rattle.txn_codec.specs.declared.txn.SetData.{SetData}
use Rattle.txn_codec.specs.declared.txn.SetAcl.{SetAcl}
use Rattle.txn_codec.specs.declared.txn.Txn.{Txn}
use Rattle.txn_codec.specs.declared.txn.Body.{Body}
use Rattle.txn_codec.specs.declared.txn.Body.TheVariants as body
use Rattle.txn_codec.specs.declared.txn.Operation.{Operation}
use Rattle.txn_codec.specs.declared.txn.Operation.TheVariants as op
use Rattle.ephemerals.proofs.Totals.{path_total}
use Rattle.data_tree.proofs.SameCells.{AreWithin, same_state, same_cell_sym, same_cell_trans, same_cell_refl, after_changes-frame, after_changes-local, after_changes-sessions, touches_first, touches_second}

-- ---- one operation

within_gained : (ps : List Bytes) (owner : ℤ) (path : Bytes) (b : Bool) → has_path ps path ≡ true
    → AreWithin ps (if b then [] else Own owner path ∷ [])
within_gained ps owner path true h = tt
within_gained ps owner path false h = (h, tt)

within_lost : (ps : List Bytes) (owner : ℤ) (path : Bytes) (b : Bool) → has_path ps path ≡ true
    → AreWithin ps (if b then [] else Disown owner path ∷ [])
within_lost ps owner path true h = tt
within_lost ps owner path false h = (h, tt)

within_mended : (ps : List Bytes) (rules : Dialect) (c : Create) → has_path ps c.path ≡ true
    → AreWithin ps (mended_list rules c)
within_mended ps Zk34 c h = tt
within_mended ps Zk38 c h = (h, tt)

within_taken : (ps : List Bytes) (path : Bytes) (node : Node) (rest : List Change) (b : Bool) → has_path ps path ≡ true
    → AreWithin ps rest
    → AreWithin ps (if b then Put path node ∷ rest else rest)
within_taken ps path node rest true h within = (h, within)
within_taken ps path node rest false h within = within

within_create : (h : TxnHeader) (c : Create) (parent : Option Node)
    → AreWithin (footprint_of_operation (op.Create c)) (create_under h c parent).changes
within_create h c None = tt
within_create h c (Some parent) =
    let ps = footprint_of_operation (op.Create c) in
    let here : has_path ps c.path ≡ true = touches_first c.path (parent_of c.path ∷ []) in
    let up : has_path ps (parent_of c.path) ≡ true = touches_second (parent_of c.path) c.path [] in
    elim (set.contains parent.children (name_of c.path)) as
    (λ b. AreWithin ps (if b then create_taken h c parent else create_new h c parent).changes) [
      | true ↦ within_taken ps (parent_of c.path) _ (mended_list h.rules c) _ up (within_mended ps h.rules c here)
      | false ↦ (up, (here, within_gained ps (owner_of h c.owner) c.path _ here))
    ]

within_missing : (rules : Dialect) (h : TxnHeader) (p : Bytes) (parent : Option Node)
    → AreWithin (footprint_of_operation (delete_of p)) (delete_missing rules h p parent).changes
within_missing Zk34 h p parent = tt
within_missing Zk38 h p None = tt
within_missing Zk38 h p (Some parent) = (touches_second (parent_of p) p [], tt)

within_delete : (h : TxnHeader) (p : Bytes) (node parent : Option Node)
    → AreWithin (footprint_of_operation (delete_of p)) (delete_at h p node parent).changes
within_delete h p None parent = within_missing h.rules h p parent
within_delete h p (Some node) None = (touches_first p (parent_of p ∷ []), tt)
within_delete h p (Some node) (Some parent) =
    let here : has_path (footprint_of_operation (delete_of p)) p ≡ true = touches_first p (parent_of p ∷ []) in (
      here,
      (
        touches_second (parent_of p) p [],
        within_lost (footprint_of_operation (delete_of p)) node.stat.ephemeral_owner p
            (int_eq node.stat.ephemeral_owner (pos 0)) here,
      ),
    )

within_set_data : (h : TxnHeader) (b : SetData) (node : Option Node)
    → AreWithin (footprint_of_operation (op.SetData b)) (set_data_at h b node).changes
within_set_data h b None = tt
within_set_data h b (Some node) = (touches_first b.path [], tt)

-- An operation changes only cells of its footprint.
effect-within : (h : TxnHeader) (o : Operation) (nodes : Nodes)
    → AreWithin (footprint_of_operation o) (effect_of h o nodes).changes
effect-within h (op.Create c) nodes = within_create h c (finmap.get nodes (parent_of c.path))
effect-within h (op.Delete d) nodes =
    within_delete h d.path (finmap.get nodes d.path) (finmap.get (finmap.remove nodes d.path) (parent_of d.path))
effect-within h (op.SetData b) nodes = within_set_data h b (finmap.get nodes b.path)
effect-within h (op.Check p) nodes = tt
effect-within h (op.Error e) nodes = tt

-- It reads only these cells, too.
effect-local : (h : TxnHeader) (o : Operation) (s t : State) → AreSameAt (footprint_of_operation o) s t
    → effect_of h o s.nodes ≡ effect_of h o t.nodes
effect-local h (op.Create c) s t same =
    ap (create_under h c) (same (parent_of c.path) (touches_second (parent_of c.path) c.path [])).node
effect-local h (op.Delete d) s t same =
    let p : Bytes = d.path in
    let parent : finmap.get (finmap.remove s.nodes p) (parent_of p)
    ≡ finmap.get (finmap.remove t.nodes p) (parent_of p) =
    finmap.get-remove path_total s.nodes p (parent_of p)
    ∙ ap (cond (eq_by_cmp path_cmp (parent_of p) p) None) (same (parent_of p) (touches_second (parent_of p) p [])).node
    ∙ sym (finmap.get-remove path_total t.nodes p (parent_of p)) in
    λ i. delete_at h p ((same p (touches_first p (parent_of p ∷ []))).node i) (parent i)
effect-local h (op.SetData b) s t same = ap (set_data_at h b) (same b.path (touches_first b.path [])).node
effect-local h (op.Check p) s t same = refl
effect-local h (op.Error e) s t same = refl

-- An effect that changes and reads only cells of its footprint.
effect-confined : (ps : List Bytes) (effect : State → Effect) → ((s : State) → AreWithin ps (effect s).changes)
    → ((s t : State) → AreSameAt ps s t → effect s ≡ effect t)
    → IsConfinedTo ps (λ s. of_effect (effect s) s)
effect-confined ps effect within local = record {
  state = record {
    frame = λ s q out. after_changes-frame ps s (effect s).changes (within s) q out;
    local = λ s t same q at. subst (λ e. IsSameCell (after_changes s (effect s).changes) (after_changes t e.changes) q)
        (local s t same) (after_changes-local s t (effect s).changes q (same q at));
  };
  answer =
      λ s t same. ap (λ e. let a : Outcome = record { results = record { err = e.err; parts = [] }; triggers = e.triggers } in a)
      (local s t same);
}

pub operation-confined : (h : TxnHeader) (o : Operation) → IsConfinedTo (footprint_of_operation o) (of_operation h o)
operation-confined h o =
    effect-confined (footprint_of_operation o) (λ s. effect_of h o s.nodes) (λ s. effect-within h o s.nodes)
    (effect-local h o)

within_set_acl : (b : SetAcl) (node : Option Node) → AreWithin (b.path ∷ []) (set_acl_at b node).changes
within_set_acl b None = tt
within_set_acl b (Some node) = (touches_first b.path [], tt)

set_acl-confined : (b : SetAcl) → IsConfinedTo (b.path ∷ []) (of_set_acl b)
set_acl-confined b =
    effect-confined (b.path ∷ []) (λ s. set_acl_at b (finmap.get s.nodes b.path))
    (λ s. within_set_acl b (finmap.get s.nodes b.path))
    (λ s t same. ap (set_acl_at b) (same b.path (touches_first b.path [])).node)

-- ---- any two confined steps

same_at_after : (ps qs : List Bytes) (f : State → State) → IsConfined ps f → AreApart ps qs → (s : State)
    → AreSameAt qs (f s) s
same_at_after ps qs f c apart s q at = by (has_path ps q) refl
  where
    by : (b : Bool) → has_path ps q ≡ b → IsSameCell (f s) s q
    by true e = absurd (true≢false (sym at ∙ apart q e))
    by false e = c.frame s q e

turned : (ps qs : List Bytes) → AreApart ps qs → AreApart qs ps
turned ps qs apart q at = by (has_path ps q) refl
  where
    by : (b : Bool) → has_path ps q ≡ b → has_path ps q ≡ false
    by true e = absurd (true≢false (sym at ∙ apart q e))
    by false e = e

commute_cell : (ps qs : List Bytes) (f g : State → State) → IsConfined ps f → IsConfined qs g → AreApart ps qs
    → (s : State) (q : Bytes) → IsSameCell (g (f s)) (f (g s)) q
commute_cell ps qs f g cf cg apart s q = by (has_path ps q) (has_path qs q) refl refl
  where
    by : (a b : Bool) → has_path ps q ≡ a → has_path qs q ≡ b → IsSameCell (g (f s)) (f (g s)) q
    by true true e d = absurd (true≢false (sym d ∙ apart q e))
    by true false e d =
        same_cell_trans (cg.frame (f s) q d)
        (cf.local s (g s) (λ p at. same_cell_sym (same_at_after qs ps g cg (turned ps qs apart) s p at)) q e)
    by false true e d =
        same_cell_trans (cg.local (f s) s (same_at_after ps qs f cf apart s) q d) (same_cell_sym (cf.frame (g s) q e))
    by false false e d =
        same_cell_trans (cg.frame (f s) q d)
        (same_cell_trans (cf.frame s q e)
        (same_cell_trans (same_cell_sym (cg.frame s q d)) (same_cell_sym (cf.frame (g s) q e))))

-- ---- a multi: confined steps one after another

or_false_first : (a b : Bool) → (a || b) ≡ false → a ≡ false
or_false_first true b h = h
or_false_first false b h = refl

or_false_second : (a b : Bool) → (a || b) ≡ false → b ≡ false
or_false_second true b h = absurd (true≢false h)
or_false_second false b h = h

touches-append : (ps qs : List Bytes) (q : Bytes) → has_path (ps ++ qs) q ≡ (has_path ps q || has_path qs q)
touches-append [] qs q = refl
touches-append (p ∷ ps) qs q =
    ap (λ b. eq_by_cmp path_cmp q p || b) (touches-append ps qs q)
    ∙ or_assoc (eq_by_cmp path_cmp q p) (has_path ps q) (has_path qs q)
  where
    or_assoc : (a b c : Bool) → (a || (b || c)) ≡ ((a || b) || c)
    or_assoc true b c = refl
    or_assoc false b c = refl

or_at_first : (a b : Bool) → a ≡ true → (a || b) ≡ true
or_at_first true b h = refl
or_at_first false b h = absurd (true≢false (sym h))

or_at_second : (a b : Bool) → b ≡ true → (a || b) ≡ true
or_at_second true b h = refl
or_at_second false b h = h

-- A step confined to some paths is confined to more.
pub wider : (ps qs : List Bytes) (f : State → State) → ((q : Bytes) → has_path ps q ≡ true → has_path qs q ≡ true)
    → IsConfined ps f → (s t : State) → AreSameAt qs s t → AreSameAt qs (f s) (f t)
wider ps qs f sub c s t same q at = by (has_path ps q) refl
  where
    by : (b : Bool) → has_path ps q ≡ b → IsSameCell (f s) (f t) q
    by true e = c.local s t (λ p h. same p (sub p h)) q e
    by false e = same_cell_trans (c.frame s q e) (same_cell_trans (same q at) (same_cell_sym (c.frame t q e)))

-- A part reads its node again for its Stat.
stat-local : (o : Operation) (s t : State) → AreSameAt (footprint_of_operation o) s t → stat_after o s ≡ stat_after o t
stat-local (op.Create c) s t same =
    ap (λ (node : Option Node). if c.asks_stat then option_map stat_of node else None)
    (same c.path (touches_first c.path (parent_of c.path ∷ []))).node
stat-local (op.Delete d) s t same = refl
stat-local (op.SetData b) s t same = ap (option_map stat_of) (same b.path (touches_first b.path [])).node
stat-local (op.Check p) s t same = refl
stat-local (op.Error e) s t same = refl

abbrev result : Outcome → Option Stat → PartResult
result first stat = record { err = first.results.err; stat = stat }

joined : Outcome → Option Stat → Outcome → Outcome
joined first stat rest = record {
  results = record {
    err = first_error (result first stat ∷ rest.results.parts);
    parts = result first stat ∷ rest.results.parts;
  };
  triggers = first.triggers ++ rest.triggers;
}

joined_is : (h : TxnHeader) (o : Operation) (os : List Operation) (s : State)
    → answer_of (of_parts h (o ∷ os) s)
    ≡ joined (answer_of (of_operation h o s)) (stat_after o (of_operation h o s).state)
    (answer_of (of_parts h os (of_operation h o s).state))
unfolding joined
joined_is h o os s = refl

pub parts-confined : (h : TxnHeader) (os : List Operation) → IsConfinedTo (footprint_of_parts os) (of_parts h os)
parts-confined h [] = record {
  state = record { frame = λ s q out. same_cell_refl s q; local = λ s t same. same };
  answer = λ s t same. refl;
}
parts-confined h (o ∷ os) =
    let ps = footprint_of_operation o in
    let qs = footprint_of_parts os in
    let first = operation-confined h o in
    let rest = parts-confined h os in
    let in_first : (q : Bytes) → has_path ps q ≡ true → has_path (ps ++ qs) q ≡ true =
    λ q at. touches-append ps qs q
    ∙ or_at_first (has_path ps q) (has_path qs q) at in
    let in_rest : (q : Bytes) → has_path qs q ≡ true → has_path (ps ++ qs) q ≡ true =
    λ q at. touches-append ps qs q
    ∙ or_at_second (has_path ps q) (has_path qs q) at in
    let after_first : (s t : State) → AreSameAt (ps ++ qs) s t
    → AreSameAt (ps ++ qs) (of_operation h o s).state (of_operation h o t).state =
    wider ps (ps ++ qs) (λ s. (of_operation h o s).state) in_first first.state in
    record {
      state = record {
        frame = λ s q out.
            let none : (has_path ps q || has_path qs q) ≡ false = sym (touches-append ps qs q) ∙ out in
            same_cell_trans
            (rest.state.frame (of_operation h o s).state q (or_false_second (has_path ps q) (has_path qs q) none))
            (first.state.frame s q (or_false_first (has_path ps q) (has_path qs q) none));
        local = λ s t same. wider qs (ps ++ qs) (λ u. (of_parts h os u).state) in_rest rest.state _ _
            (after_first s t same);
      };
      answer = λ s t same. joined_is h o os s
          ∙ (λ i. joined (first.answer s t (λ q at. same q (in_first q at)) i)
          (stat-local o (of_operation h o s).state (of_operation h o t).state
          (first.state.local s t (λ q at. same q (in_first q at))) i)
          (rest.answer (of_operation h o s).state (of_operation h o t).state
          (λ q at. after_first s t same q (in_rest q at)) i))
          ∙ sym (joined_is h o os t);
    }

nothing-confined : (meant : State → TxnEffect) → ((s : State) (q : Bytes) → IsSameCell (meant s).state s q)
    → ((s t : State) → answer_of (meant s) ≡ answer_of (meant t)) → IsConfinedTo [] meant
nothing-confined meant stays same = record {
  state = record {
    frame = λ s q out. stays s q;
    local = λ s t same q at. absurd (true≢false (sym at));
  };
  answer = λ s t at. same s t;
}

multi-confined : (h : TxnHeader) (os : List Operation) (b : Bool)
    → IsConfinedTo (if b then [] else footprint_of_parts os) (λ s. if b then of_failed os s else of_parts h os s)
multi-confined h os true = nothing-confined (of_failed os) same_cell_refl (λ s t. refl)
multi-confined h os false = parts-confined h os

pub transactions_keep_to_their_footprints : TransactionsKeepToTheirFootprints
transactions_keep_to_their_footprints t = by t.header t.body
  where
    by : (h : TxnHeader) (b : Body) → (let t : Txn = record { header = h; body = b } in KeepsToCells t)
        → (let t : Txn = record { header = h; body = b } in IsConfinedTo (footprint t) (λ s. effect_of_txn s t))
    by h (body.Single operation) k = operation-confined h operation
    by h (body.SetAcl b) k = set_acl-confined b
    by h (body.Multi parts) k = multi-confined h parts (has_error parts)
    by h (body.CreateSession timeout) k =
        nothing-confined (of_create_session h timeout) (λ s q. record { node = refl; owners = λ w. refl })
        (λ s t. refl)
    by h (body.CloseSession listed) k = absurd (true≢false k)

-- ---- sessions

parts-sessions : (h : TxnHeader) (os : List Operation) (s : State) → (of_parts h os s).state.sessions ≡ s.sessions
parts-sessions h [] s = refl
parts-sessions h (o ∷ os) s =
    parts-sessions h os (of_operation h o s).state
    ∙ after_changes-sessions s (effect_of h o s.nodes).changes

multi-sessions : (h : TxnHeader) (os : List Operation) (s : State) (b : Bool)
    → (if b then of_failed os s else of_parts h os s).state.sessions ≡ s.sessions
multi-sessions h os s true = refl
multi-sessions h os s false = parts-sessions h os s

-- A closeSession removes its session and sets no timeout.
pub close-sessions : (h : TxnHeader) (listed : List Bytes) (s : State)
    → (of_close_session h listed s).state.sessions ≡ finmap.remove s.sessions h.client_id
close-sessions h listed s =
    parts-sessions h (delete_operations (sorted_names (ended_paths h.client_id listed s)))
    (state_without_session h.client_id s)

pub mean-sessions : (t : Txn) (s : State) → KeepsToCells t
    → (effect_of_txn s t).state.sessions ≡ with_timeout_of t.header (session_change t.body) s.sessions
mean-sessions t s = by t.header t.body
  where
    by : (h : TxnHeader) (b : Body) → (let t : Txn = record { header = h; body = b } in KeepsToCells t)
        → (effect_of_body h b s).state.sessions ≡ with_timeout_of h (session_change b) s.sessions
    by h (body.Single operation) k = after_changes-sessions s (effect_of h operation s.nodes).changes
    by h (body.SetAcl b) k = after_changes-sessions s (set_acl_at b (finmap.get s.nodes b.path)).changes
    by h (body.Multi parts) k = multi-sessions h parts s (has_error parts)
    by h (body.CreateSession timeout) k = refl
    by h (body.CloseSession listed) k = absurd (true≢false k)

pub transactions_set_their_timeouts : TransactionsSetTheirTimeouts
transactions_set_their_timeouts [] s keep = refl
transactions_set_their_timeouts (t ∷ ts) s keep =
    transactions_set_their_timeouts ts (effect_of_txn s t).state keep.1
    ∙ ap (λ x. with_timeouts x ts) (mean-sessions t s keep.0)

-- ---- two transactions

pub disjoint_transactions_commute : DisjointTransactionsCommute
disjoint_transactions_commute a b s ka kb apart =
    let ca = transactions_keep_to_their_footprints a ka in
    let cb = transactions_keep_to_their_footprints b kb in
    let same = commute_cell (footprint a) (footprint b) (λ u. (effect_of_txn u a).state)
    (λ u. (effect_of_txn u b).state)
    ca.state cb.state
    apart s in
    record {
      cells = same;
      first = ca.answer (effect_of_txn s b).state s
          (same_at_after (footprint b) (footprint a) (λ u. (effect_of_txn u b).state) cb.state
          (turned (footprint a) (footprint b) apart) s);
      second = cb.answer (effect_of_txn s a).state s
          (same_at_after (footprint a) (footprint b) (λ u. (effect_of_txn u a).state) ca.state apart s);
      state = λ orderless. same_state (effect_of_txn (effect_of_txn s a).state b).state
          (effect_of_txn (effect_of_txn s b).state a).state
          (mean-sessions b (effect_of_txn s a).state kb
          ∙ ap (with_timeout_of b.header (session_change b.body)) (mean-sessions a s ka)
          ∙ orderless
          ∙ sym (mean-sessions a (effect_of_txn s b).state ka
          ∙ ap (with_timeout_of a.header (session_change a.body)) (mean-sessions b s kb)))
          same;
    }
