-- The parts of a multi, taken one by one.
use Rattle.std.proofs.Common.{◌≡◌, ℤ, ℕ, ◌+◌, ◌<◌, ◌≤◌, List, [], ◌∷◌, ◌++◌, Bool, true, false, ◌&&◌, ◌||◌, Option, Some, None, is_some, is_none, length, drop, get_or, refl, sym, ap, subst, ◌∙◌, Result, Ok, Err, IfOk, IsTrue, if◌then◌else◌}
use Rattle.std.proofs.Math.ListN.{drop_of_length-le}
use Rattle.ephemerals.specs.Orders.{Bytes}
use Rattle.txn_codec.specs.declared.txn.TxnHeader.{TxnHeader}
use Rattle.txn_codec.specs.declared.txn.Operation.{Operation}
use Rattle.data_tree.specs.State.{State}
use Rattle.txn_codec.specs.Row.{has_error, error_of}
use Rattle.data_tree.specs.Meaning.{TxnEffect, of_operation, of_parts, of_failed, of_multi}
use Rattle.data_tree.specs.declared.outcome.Trigger.{Trigger}
use Rattle.audit.specs.declared.count.Count.{Count}
use Rattle.audit.specs.Clean.{is_clean_operation, are_clean_parts}
use Rattle.audit.specs.Count.{count_after_trigger, count_after_triggers}
use Rattle.audit.proofs.Lists.{left_is}

pub both : (a b : Bool) → (a && b) ≡ true → (a ≡ true) × (b ≡ true)
both true b e = (refl, e)
both false b e = cc

pub counted_all-append : (path : Bytes) (count : Count) (zxid : ℤ) (gs hs : List Trigger)
    → count_after_triggers path count zxid (gs ++ hs)
    ≡ count_after_triggers path (count_after_triggers path count zxid gs) zxid hs
counted_all-append path count zxid [] hs = refl
counted_all-append path count zxid (g ∷ gs) hs =
    counted_all-append path (count_after_trigger path count zxid g) zxid gs hs

-- Clean parts have no error part.
pub no_error : (h : TxnHeader) (os : List Operation) (s : State) → are_clean_parts h os s ≡ true → has_error os ≡ false
no_error h [] s clean = refl
no_error h (o ∷ os) s clean =
    let first = both (is_none (error_of o))
    (is_clean_operation h o s && are_clean_parts h os (of_operation h o s).state)
    clean in
    let rest = both (is_clean_operation h o s) (are_clean_parts h os (of_operation h o s).state) first.1 in
    by (error_of o) first.0 ∙ no_error h os (of_operation h o s).state rest.1
  where
    by : (e : Option ℤ) → is_none e ≡ true → (is_some e || has_error os) ≡ has_error os
    by None is = refl
    by (Some e) is = cc

pub multi_is : (h : TxnHeader) (os : List Operation) (s : State) → are_clean_parts h os s ≡ true
    → of_multi h os s ≡ of_parts h os s
multi_is h os s clean = ap (λ (b : Bool). if b then of_failed os s else of_parts h os s) (no_error h os s clean)

-- A claim that holds after clean parts holds after the multi.
pub multi_ok : {E : Type 0} (P : TxnEffect → Type 0) (h : TxnHeader) (os : List Operation) (s : State)
    (r : Result Bool E)
    → IfOk r (λ clean. clean ≡ are_clean_parts h os s) → IfOk r (λ clean. IsTrue clean → P (of_parts h os s))
    → IfOk r (λ clean. IsTrue clean → P (of_multi h os s))
multi_ok P h os s (Ok clean) is done = λ t. subst P (sym (multi_is h os s (sym is ∙ t))) (done t)
multi_ok P h os s (Err e) is done = tt

-- What was done so far and what is to come give the whole.
pub record IsMidway (h : TxnHeader) (os : List Operation) (i : ℕ) (path : Bytes) (old now : State)
    (before count : Count)
    : Type 0 where
  pub clean : are_clean_parts h (drop i os) now ≡ are_clean_parts h os old
  pub state : (of_parts h (drop i os) now).state ≡ (of_parts h os old).state
  pub counted : count_after_triggers path count h.zxid (of_parts h (drop i os) now).triggers
      ≡ count_after_triggers path before h.zxid (of_parts h os old).triggers

pub midway_step : (h : TxnHeader) (os : List Operation) (i : ℕ) (path : Bytes) (old now new : State)
    (before count next : Count) (o : Operation)
    → i < length os → o ≡ get_or os i o → IsMidway h os i path old now before count
    → is_none (error_of o) ≡ true → is_clean_operation h o now ≡ true
    → new ≡ (of_operation h o now).state → next ≡ count_after_triggers path count h.zxid (of_operation h o now).triggers
    → IsMidway h os (i + 1) path old new before next
midway_step h os i path old now new before count next o lt is m part clean n k =
    let split : drop i os ≡ o ∷ drop (i + 1) os = left_is os i o lt is in
    let rest : List Operation = drop (i + 1) os in
    record {
      clean = ap (are_clean_parts h rest) n
          ∙ (λ j. sym part j && (sym clean j && are_clean_parts h rest (of_operation h o now).state))
          ∙ ap (λ xs. are_clean_parts h xs now) (sym split)
          ∙ m.clean;
      state = ap (λ s. (of_parts h rest s).state) n
          ∙ ap (λ xs. (of_parts h xs now).state) (sym split)
          ∙ m.state;
      counted = (λ j. count_after_triggers path (k j) h.zxid (of_parts h rest (n j)).triggers)
          ∙ sym (counted_all-append path count h.zxid (of_operation h o now).triggers
          (of_parts h rest (of_operation h o now).state).triggers)
          ∙ ap (λ xs. count_after_triggers path count h.zxid (of_parts h xs now).triggers) (sym split)
          ∙ m.counted;
    }

-- A part that isn't clean.
pub midway_error : (h : TxnHeader) (os : List Operation) (i : ℕ) (path : Bytes) (old now : State) (before count : Count)
    (o : Operation) → i < length os → o ≡ get_or os i o → IsMidway h os i path old now before count
    → is_none (error_of o) ≡ false → false ≡ are_clean_parts h os old
midway_error h os i path old now before count o lt is m part =
    (λ j. sym part j && (is_clean_operation h o now
    && are_clean_parts h (drop (i + 1) os) (of_operation h o now).state))
    ∙ ap (λ xs. are_clean_parts h xs now) (sym (left_is os i o lt is))
    ∙ m.clean

and-false : (a b : Bool) → (a && (false && b)) ≡ false
and-false true b = refl
and-false false b = refl

pub midway_unclean : (h : TxnHeader) (os : List Operation) (i : ℕ) (path : Bytes) (old now : State)
    (before count : Count) (o : Operation) → i < length os → o ≡ get_or os i o
    → IsMidway h os i path old now before count → is_clean_operation h o now ≡ false → false ≡ are_clean_parts h os old
midway_unclean h os i path old now before count o lt is m unclean =
    sym (and-false (is_none (error_of o)) (are_clean_parts h (drop (i + 1) os) (of_operation h o now).state))
    ∙ (λ j. is_none (error_of o)
    && (sym unclean j && are_clean_parts h (drop (i + 1) os) (of_operation h o now).state))
    ∙ ap (λ xs. are_clean_parts h xs now) (sym (left_is os i o lt is))
    ∙ m.clean

pub record IsThrough (h : TxnHeader) (os : List Operation) (path : Bytes) (old now : State) (before count : Count)
    : Type 0 where
  pub clean : true ≡ are_clean_parts h os old
  pub state : now ≡ (of_parts h os old).state
  pub counted : count ≡ count_after_triggers path before h.zxid (of_parts h os old).triggers

pub midway_done : (h : TxnHeader) (os : List Operation) (i : ℕ) (path : Bytes) (old now : State) (before count : Count)
    → length os ≤ i → IsMidway h os i path old now before count → IsThrough h os path old now before count
midway_done h os i path old now before count past m =
    let none : drop i os ≡ [] = drop_of_length-le os past in
    record {
      clean = ap (λ xs. are_clean_parts h xs now) (sym none) ∙ m.clean;
      state = ap (λ xs. (of_parts h xs now).state) (sym none) ∙ m.state;
      counted = ap (λ xs. count_after_triggers path count h.zxid (of_parts h xs now).triggers) (sym none) ∙ m.counted;
    }
