-- Groups that are stopped.
use Rattle.std.proofs.Common.{◌≡◌, ℕ, ◌+◌, List, [], ◌∷◌, ◌++◌, true, false, Bool, length, drop, get_or, length-append, refl, sym, ap, subst, ◌∙◌, arith}
use Rattle.txn_codec.specs.declared.txn.TxnHeader.{TxnHeader}
use Rattle.txn_codec.specs.declared.txn.Txn.{Txn}
use Rattle.txn_codec.specs.declared.txn.Body.{Body}
use Rattle.txn_codec.specs.declared.txn.Body.TheVariants as body
use Rattle.data_tree.specs.State.{State}
use Rattle.txn_codec.specs.Row.{has_error}
use Rattle.data_tree.specs.Refused.{IsPartlyDone, IsLeftByRefused}
use Rattle.data_tree.specs.Cells.{effect_in_cells, after_in_cells}
use Rattle.apply_workers.specs.Works.{IsLeftByFirst, IsStopped}
use Rattle.apply_workers.proofs.Loops.{moved_on}

-- The first n of the transactions are applied, and this is the rest.
pub record DoneFirst (cells : State) (txns : List Txn) (now : State) (rest : List Txn) (n : ℕ) : Type 0 where
  pub front : List Txn
  pub all : front ++ rest ≡ txns
  pub count : length front ≡ n
  pub state : after_in_cells cells front ≡ now

-- A transaction that is refused at once may leave everything as it was.
left_alone : (h : TxnHeader) (b : Body) (s : State) → IsLeftByRefused h b s s
left_alone h (body.Single o) s = refl
left_alone h (body.SetAcl b) s = refl
left_alone h (body.CreateSession timeout) s = refl
left_alone h (body.CloseSession listed) s = tt
left_alone h (body.Multi parts) s = by (has_error parts)
  where
    by : (b : Bool) → IsPartlyDone b h parts s s
    by true = refl
    by false = (0, refl)

first_alone : (txns : List Txn) (s : State) → IsLeftByFirst txns s s
first_alone [] s = refl
first_alone (t ∷ ts) s = left_alone t.header t.body s

-- Nothing was applied.
pub stopped_at_once : (cells : State) (txns : List Txn) → IsStopped cells txns cells 0
stopped_at_once cells txns = record {
  front = [];
  rest = txns;
  all = refl;
  count = refl;
  state = first_alone txns cells;
}

after_snoc : (cells : State) (front : List Txn) (t : Txn)
    → after_in_cells cells (front ++ t ∷ []) ≡ (effect_in_cells (after_in_cells cells front) t).state
after_snoc cells [] t = refl
after_snoc cells (u ∷ us) t = after_snoc (effect_in_cells cells u).state us t

-- One more is applied.
pub one_more : (cells : State) (txns : List Txn) (now new : State) (rest rest' : List Txn) (t : Txn) (n : ℕ)
    → DoneFirst cells txns now rest n → rest ≡ t ∷ rest' → new ≡ (effect_in_cells now t).state
    → DoneFirst cells txns new rest' (n + 1)
one_more cells txns now new rest rest' t n d next is = record {
  front = d.front ++ t ∷ [];
  all = sym (moved_on d.front (d.front ++ t ∷ []) rest' t refl) ∙ sym (ap (λ r. d.front ++ r) next) ∙ d.all;
  count = length-append d.front (t ∷ []) ∙ ap (λ k. k + 1) d.count;
  state = after_snoc cells d.front t ∙ ap (λ s. (effect_in_cells s t).state) d.state ∙ sym is;
}

-- An allocation is refused in the next one.
pub stopped_there : (cells : State) (txns : List Txn) (now new : State) (rest rest' : List Txn) (t : Txn) (n done : ℕ)
    → DoneFirst cells txns now rest n → rest ≡ t ∷ rest' → IsLeftByRefused t.header t.body now new → done ≡ n
    → IsStopped cells txns new done
stopped_there cells txns now new rest rest' t n done d next left e = record {
  front = d.front;
  rest = t ∷ rest';
  all = sym d.all ∙ ap (λ r. d.front ++ r) next;
  count = d.count ∙ sym e;
  state = subst (λ s. IsLeftByRefused t.header t.body s new) (sym d.state) left;
}

-- A group that was stopped after its first transaction has that one's effect, and what the next one left of it.
pub stopped_behind_one : (cells new : State) (t : Txn) (ts : List Txn) → IsStopped cells (t ∷ ts) new 1
    → IsLeftByFirst ts (effect_in_cells cells t).state new
stopped_behind_one cells new t ts stopped = behind stopped.front stopped.all stopped.count stopped.state
  where
    behind : (front : List Txn) → t ∷ ts ≡ front ++ stopped.rest → length front ≡ 1
        → IsLeftByFirst stopped.rest (after_in_cells cells front) new
        → IsLeftByFirst ts (effect_in_cells cells t).state new
    behind [] all count left = absurd (omega arith)
    behind (u ∷ []) all count left =
        subst (λ rest. IsLeftByFirst rest (effect_in_cells cells t).state new) (sym (ap (drop 1) all))
        (subst (λ first. IsLeftByFirst stopped.rest (effect_in_cells cells first).state new)
        (sym (ap (λ l. get_or l 0 t) all)) left)
    behind (u ∷ v ∷ us) all count left = absurd (omega arith)
