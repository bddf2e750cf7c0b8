-- The transactions of a log, taken one by one.
use Rattle.std.proofs.Common.{◌≡◌, ℕ, ◌+◌, ◌<◌, ◌≤◌, List, [], ◌∷◌, ◌++◌, Bool, true, false, ◌&&◌, Option, Some, None, is_some, length, take, get_or, refl, sym, ap, ◌∙◌, if◌then◌else◌}
use Rattle.std.specs.FinMap as finmap
use Rattle.std.proofs.lemmas.List.{take_all}
use Rattle.ephemerals.specs.Orders.{Bytes}
use Rattle.txn_codec.specs.declared.txn.Txn.{Txn}
use Rattle.node_map.specs.declared.node.Node.{Node}
use Rattle.data_tree.specs.State.{State}
use Rattle.data_tree.specs.Meaning.{effect_of_txn, state_after, fresh_state}
use Rattle.audit.specs.declared.count.Count.{Count}
use Rattle.audit.specs.Clean.{is_clean, are_clean}
use Rattle.audit.specs.Count.{count_after_triggers, count_after_log, first_count, count_from_log, numbers_of, count_at}
use Rattle.audit.specs.Audit.{IsFirstUnclean, IsCounted}
use Rattle.audit.proofs.Lists.{front_is}

after-push : (s : State) (ts : List Txn) (t : Txn)
    → state_after s (ts ++ t ∷ []) ≡ (effect_of_txn (state_after s ts) t).state
after-push s [] t = refl
after-push s (u ∷ ts) t = after-push (effect_of_txn s u).state ts t

and-true : (a : Bool) → (a && true) ≡ a
and-true true = refl
and-true false = refl

clean-push : (s : State) (ts : List Txn) (t : Txn) → are_clean s ts ≡ true
    → are_clean s (ts ++ t ∷ []) ≡ is_clean (state_after s ts) t
clean-push s [] t e = and-true (is_clean s t)
clean-push s (u ∷ ts) t e = by (λ all. clean-push (effect_of_txn s u).state ts t all) (is_clean s u) e
  where
    by : (are_clean (effect_of_txn s u).state ts ≡ true
        → are_clean (effect_of_txn s u).state (ts ++ t ∷ []) ≡ is_clean (state_after (effect_of_txn s u).state ts) t)
        → (b : Bool)
        → (b && are_clean (effect_of_txn s u).state ts) ≡ true
        → (b && are_clean (effect_of_txn s u).state (ts ++ t ∷ []))
        ≡ is_clean (state_after (effect_of_txn s u).state ts) t
    by rest true all = rest all
    by rest false all = cc

counted-push : (path : Bytes) (c : Count) (s : State) (ts : List Txn) (t : Txn)
    → count_after_log path c s (ts ++ t ∷ [])
    ≡ count_after_triggers path (count_after_log path c s ts) t.header.zxid
    (effect_of_txn (state_after s ts) t).triggers
counted-push path c s [] t = refl
counted-push path c s (u ∷ ts) t =
    counted-push path (count_after_triggers path c u.header.zxid (effect_of_txn s u).triggers)
    (effect_of_txn s u).state ts t

-- The first transactions are clean, and were applied and counted.
pub record AreTaken (log : List Txn) (i : ℕ) (path : Bytes) (now : State) (counted : Count) : Type 0 where
  pub clean : are_clean fresh_state (take i log) ≡ true
  pub state : now ≡ state_after fresh_state (take i log)
  pub counted_is : counted ≡ count_after_log path (first_count path) fresh_state (take i log)

pub none_taken : (log : List Txn) (path : Bytes) (now : State) (counted : Count) → now ≡ fresh_state
    → counted ≡ first_count path → AreTaken log 0 path now counted
none_taken log path now counted is first = record { clean = refl; state = is; counted_is = first }

pub taken_step : (log : List Txn) (i : ℕ) (path : Bytes) (now new : State) (counted next : Count) (t : Txn)
    → i < length log → t ≡ get_or log i t → AreTaken log i path now counted → is_clean now t ≡ true
    → new ≡ (effect_of_txn now t).state
    → next ≡ count_after_triggers path counted t.header.zxid (effect_of_txn now t).triggers
    → AreTaken log (i + 1) path new next
taken_step log i path now new counted next t lt is a clean n k =
    let front : take (i + 1) log ≡ take i log ++ t ∷ [] = front_is log i t lt is in
    record {
      clean = ap (are_clean fresh_state) front
          ∙ clean-push fresh_state (take i log) t a.clean
          ∙ ap (λ s. is_clean s t) (sym a.state)
          ∙ clean;
      state = n
          ∙ ap (λ s. (effect_of_txn s t).state) a.state
          ∙ sym (after-push fresh_state (take i log) t)
          ∙ ap (state_after fresh_state) (sym front);
      counted_is = k
          ∙ (λ j. count_after_triggers path (a.counted_is j) t.header.zxid (effect_of_txn (a.state j) t).triggers)
          ∙ sym (counted-push path (first_count path) fresh_state (take i log) t)
          ∙ ap (count_after_log path (first_count path) fresh_state) (sym front);
    }

pub unclean_next : (log : List Txn) (i : ℕ) (path : Bytes) (now : State) (counted : Count) (t : Txn)
    → i < length log → t ≡ get_or log i t → AreTaken log i path now counted → is_clean now t ≡ false
    → IsFirstUnclean log i
unclean_next log i path now counted t lt is a unclean = record {
  before = a.clean;
  here = ap (are_clean fresh_state) (front_is log i t lt is)
      ∙ clean-push fresh_state (take i log) t a.clean
      ∙ ap (λ s. is_clean s t) (sym a.state)
      ∙ unclean;
}

found : (log : List Txn) (path : Bytes) (now : State) (counted : Count) → now ≡ state_after fresh_state log
    → counted ≡ count_from_log log path → (o : Option Node) → finmap.get now.nodes path ≡ o
    → (if is_some o then Some (numbers_of counted) else None) ≡ count_at log path
found log path now counted state is o at =
    (λ j. if is_some (sym at j) then Some (numbers_of (is j)) else None)
    ∙ ap (λ s. if is_some (finmap.get s.nodes path) then Some (numbers_of (count_from_log log path)) else None) state

pub all_taken : (log : List Txn) (i : ℕ) (path : Bytes) (now : State) (counted : Count) → length log ≤ i
    → AreTaken log i path now counted → (o : Option Node) → o ≡ finmap.get now.nodes path
    → IsCounted log path (if is_some o then Some (numbers_of counted) else None)
all_taken log i path now counted past a o at =
    let all : take i log ≡ log = take_all i log past in
    record {
      clean = ap (are_clean fresh_state) (sym all) ∙ a.clean;
      found_is = found log path now counted (a.state ∙ ap (state_after fresh_state) all)
          (a.counted_is ∙ ap (count_after_log path (first_count path) fresh_state) all) o (sym at);
    }
