-- The effect of a transaction doesn't depend on the sessions, except for their timeouts.
use Rattle.std.proofs.Common.{◌≡◌, pos, List, [], ◌∷◌, ◌++◌, take, Bool, true, false, Option, if◌then◌else◌, refl, ap, sym, ◌∙◌}
use Rattle.std.specs.FinMap as finmap
use Rattle.ephemerals.specs.Orders.{sorted_names}
use Rattle.txn_codec.specs.declared.txn.TxnHeader.{TxnHeader}
use Rattle.txn_codec.specs.declared.txn.Operation.{Operation}
use Rattle.txn_codec.specs.declared.txn.Operation.TheVariants as op
use Rattle.txn_codec.specs.declared.txn.Txn.{Txn}
use Rattle.txn_codec.specs.declared.txn.Body.{Body}
use Rattle.txn_codec.specs.declared.txn.Body.TheVariants as body
use Rattle.jute.specs.declared.stat.Stat.{Stat}
use Rattle.data_tree.specs.declared.outcome.PartResult.{PartResult}
use Rattle.data_tree.specs.State.{State, SessionTimeouts}
use Rattle.txn_codec.specs.Row.{has_error}
use Rattle.data_tree.specs.Meaning.{Change, after_change, after_changes, Effect, effect_of, set_acl_at, TxnEffect, of_effect, of_operation, of_parts, stat_after, of_failed, first_error, delete_operations, ended_paths, state_without_session, effect_of_txn, effect_of_body}
use Rattle.data_tree.specs.Meaning.Change.{Put, Remove, Own, Disown, Mend}
use Rattle.data_tree.specs.Refused.{IsPartlyDone, IsLeftByRefused}

abbrev with_sessions : SessionTimeouts → State → State
with_sessions x s = record s { sessions = x }

abbrev pub meant_with : SessionTimeouts → TxnEffect → TxnEffect
meant_with x m = record m { state = with_sessions x m.state }

apart_change : (x : SessionTimeouts) (s : State) (c : Change)
    → after_change (with_sessions x s) c ≡ with_sessions x (after_change s c)
apart_change x s (Put path node) = refl
apart_change x s (Remove path) = refl
apart_change x s (Own session path) = refl
apart_change x s (Disown session path) = refl
apart_change x s (Mend path acl) = refl

apart_changes : (x : SessionTimeouts) (s : State) (cs : List Change)
    → after_changes (with_sessions x s) cs ≡ with_sessions x (after_changes s cs)
apart_changes x s [] = refl
apart_changes x s (c ∷ cs) =
    ap (λ u. after_changes u cs) (apart_change x s c) ∙ apart_changes x (after_change s c) cs

apart_effect : (x : SessionTimeouts) (effect : Effect) (s : State)
    → of_effect effect (with_sessions x s) ≡ meant_with x (of_effect effect s)
apart_effect x effect s =
    ap (λ u. let m : TxnEffect = record { state = u; err = effect.err; parts = []; triggers = effect.triggers } in m)
    (apart_changes x s effect.changes)

abbrev result : Effect → Option Stat → PartResult
result effect stat = record { err = effect.err; stat = stat }

-- One part before others.
before : Effect → Option Stat → TxnEffect → TxnEffect
before effect stat rest = record {
  state = rest.state;
  err = first_error (result effect stat ∷ rest.parts);
  parts = result effect stat ∷ rest.parts;
  triggers = effect.triggers ++ rest.triggers;
}

before_is : (h : TxnHeader) (o : Operation) (os : List Operation) (s : State)
    → of_parts h (o ∷ os) s ≡ before (effect_of h o s.nodes) (stat_after o (of_operation h o s).state)
    (of_parts h os (of_operation h o s).state)
unfolding before
before_is h o os s = refl

apart_before : (x : SessionTimeouts) (effect : Effect) (stat : Option Stat) (rest : TxnEffect)
    → before effect stat (meant_with x rest) ≡ meant_with x (before effect stat rest)
unfolding before
apart_before x effect stat rest = refl

-- Stats are of nodes.
apart_stat : (x : SessionTimeouts) (o : Operation) (s : State) → stat_after o (with_sessions x s) ≡ stat_after o s
apart_stat x (op.Create c) s = refl
apart_stat x (op.Delete d) s = refl
apart_stat x (op.SetData d) s = refl
apart_stat x (op.Check c) s = refl
apart_stat x (op.Error error) s = refl

apart_parts : (x : SessionTimeouts) (h : TxnHeader) (os : List Operation) (s : State)
    → of_parts h os (with_sessions x s) ≡ meant_with x (of_parts h os s)
apart_parts x h [] s = refl
apart_parts x h (o ∷ os) s =
    before_is h o os (with_sessions x s)
    ∙ ap (λ u. before (effect_of h o s.nodes) (stat_after o u) (of_parts h os u))
    (apart_changes x s (effect_of h o s.nodes).changes)
    ∙ (λ i. before (effect_of h o s.nodes) (apart_stat x o (of_operation h o s).state i)
    (apart_parts x h os (of_operation h o s).state i))
    ∙ apart_before x (effect_of h o s.nodes) (stat_after o (of_operation h o s).state)
    (of_parts h os (of_operation h o s).state)
    ∙ ap (meant_with x) (sym (before_is h o os s))

apart_multi : (x : SessionTimeouts) (h : TxnHeader) (os : List Operation) (s : State) (b : Bool)
    → (if b then of_failed os (with_sessions x s) else of_parts h os (with_sessions x s))
    ≡ meant_with x (if b then of_failed os s else of_parts h os s)
apart_multi x h os s true = refl
apart_multi x h os s false = apart_parts x h os s

-- Except for the sessions, a transaction has the same effect whatever the sessions are.
pub apart_mean : (x : SessionTimeouts) (t : Txn) (s : State)
    → meant_with x (effect_of_txn (with_sessions x s) t) ≡ meant_with x (effect_of_txn s t)
apart_mean x t s = by t.header t.body
  where
    by : (h : TxnHeader) (b : Body)
        → meant_with x (effect_of_body h b (with_sessions x s)) ≡ meant_with x (effect_of_body h b s)
    by h (body.Single o) = ap (meant_with x) (apart_effect x (effect_of h o s.nodes) s)
    by h (body.SetAcl b) = ap (meant_with x) (apart_effect x (set_acl_at b (finmap.get s.nodes b.path)) s)
    by h (body.Multi parts) = ap (meant_with x) (apart_multi x h parts s (has_error parts))
    by h (body.CreateSession timeout) = refl
    by h (body.CloseSession listed) =
        ap (λ (m : TxnEffect). meant_with x
        (let n : TxnEffect = record { state = m.state; err = pos 0; parts = []; triggers = m.triggers } in n))
        (apart_parts (finmap.remove x h.client_id) h
        (delete_operations (sorted_names (ended_paths h.client_id listed s)))
        (state_without_session h.client_id s))

-- A refused transaction leaves the same whatever the sessions are.
pub apart_left : (x : SessionTimeouts) (h : TxnHeader) (b : Body) (old new : State) → IsLeftByRefused h b old new
    → IsLeftByRefused h b (with_sessions x old) (with_sessions x new)
apart_left x h (body.Single o) old new is = ap (with_sessions x) is
apart_left x h (body.SetAcl b) old new is = ap (with_sessions x) is
apart_left x h (body.CreateSession timeout) old new is = ap (with_sessions x) is
apart_left x h (body.CloseSession listed) old new is = tt
apart_left x h (body.Multi parts) old new is = by (has_error parts) is
  where
    by : (b : Bool) → IsPartlyDone b h parts old new
        → IsPartlyDone b h parts (with_sessions x old) (with_sessions x new)
    by true is = ap (with_sessions x) is
    by false front = (
      front.0,
      ap (with_sessions x) front.1
          ∙ ap (λ (m : TxnEffect). m.state) (sym (apart_parts x h (take front.0 parts) old)),
    )
