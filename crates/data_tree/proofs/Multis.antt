-- One more part of a multi, and one more delete of a closeSession.
use Rattle.std.proofs.Common.{◌≡◌, ℤ, ℕ, ◌+◌, ◌<◌, ◌≤◌, pos, List, [], ◌∷◌, ◌++◌, true, false, Option, Some, None, is_some, map, length, take, drop, get_or, refl, sym, ap, ◌∙◌, if◌then◌else◌, append_assoc, add-one, drop-cons}
use Rattle.std.proofs.Math.Seq.{take-suc}
use Rattle.std.specs.Option.{unwrap_or}
use Rattle.std.specs.Ordering.{int_eq}
use Rattle.ephemerals.specs.Orders.{Bytes, Names, sorted_names}
use Rattle.txn_codec.specs.declared.txn.TxnHeader.{TxnHeader}
use Rattle.txn_codec.specs.declared.txn.Operation.{Operation}
use Rattle.data_tree.specs.State.{State}
use Rattle.jute.specs.declared.codes.TheConstants.{RUNTIME_INCONSISTENCY}
use Rattle.txn_codec.specs.Row.{error_of}
use Rattle.data_tree.specs.Meaning.{of_parts, of_operation, delete_of, delete_operations, first_error, without_stat, stat_after, results_of_failed, result_in_failed, answer_of}
use Rattle.data_tree.specs.Refused.{IsAfterFront}
use Rattle.data_tree.specs.declared.outcome.Trigger.{Trigger}
use Rattle.data_tree.specs.declared.outcome.Outcome.{Outcome}
use Rattle.data_tree.specs.declared.outcome.PartResult.{PartResult}
use Rattle.jute.specs.declared.stat.Stat.{Stat}
use Rattle.std.proofs.Math.ListN.{drop_of_length-le}
use Rattle.data_tree.proofs.Lists.{nothing_more}

-- What was done so far and what is to come give the whole.
pub record IsMidway (header : TxnHeader) (parts : List Operation) (i : ℕ) (old now : State) (results : List PartResult)
    (triggers : List Trigger) : Type 0 where
  pub front : now ≡ (of_parts header (take i parts) old).state
  pub state : (of_parts header (drop i parts) now).state ≡ (of_parts header parts old).state
  pub results_are : results ++ (of_parts header (drop i parts) now).parts ≡ (of_parts header parts old).parts
  pub triggers_are : triggers ++ (of_parts header (drop i parts) now).triggers ≡ (of_parts header parts old).triggers

-- The same for deletes, of which these are left.
pub record IsClosing (header : TxnHeader) (paths left : Names) (old now : State) (before triggers : List Trigger) : Type
    0 where
  pub state : (of_parts header (delete_operations (sorted_names left)) now).state
      ≡ (of_parts header (delete_operations (sorted_names paths)) old).state
  pub triggers_are : triggers ++ (of_parts header (delete_operations (sorted_names left)) now).triggers
      ≡ before ++ (of_parts header (delete_operations (sorted_names paths)) old).triggers

of_parts-push : (h : TxnHeader) (xs : List Operation) (x : Operation) (s : State)
    → (of_parts h (xs ++ x ∷ []) s).state ≡ (of_operation h x (of_parts h xs s).state).state
of_parts-push h [] x s = refl
of_parts-push h (o ∷ xs) x s = of_parts-push h xs x (of_operation h o s).state

-- The rest of a list, and its first element.
pub left_is : {A : Type 0} (xs : List A) (i : ℕ) (x : A) → i < length xs → x ≡ get_or xs i x
    → drop i xs ≡ x ∷ drop (i + 1) xs
left_is xs i x lt is = drop-cons xs i x lt ∙ (λ j. sym is j ∷ drop (sym (add-one i) j) xs)

front_is : {A : Type 0} (xs : List A) (i : ℕ) (x : A) → i < length xs → x ≡ get_or xs i x
    → take (i + 1) xs ≡ take i xs ++ x ∷ []
front_is xs i x lt is = ap (λ k. take k xs) (add-one i) ∙ take-suc xs i x lt ∙ (λ j. take i xs ++ sym is j ∷ [])

abbrev pub part_result : ℤ → Option Stat → PartResult
part_result err stat = record { err = err; stat = stat }

pub midway_step : (h : TxnHeader) (ps : List Operation) (i : ℕ) (old now new : State)
    (results results' : List PartResult) (err : ℤ) (stat : Option Stat) (triggers triggers' : List Trigger) (x : Operation)
    → i < length ps → x ≡ get_or ps i x → IsMidway h ps i old now results triggers
    → new ≡ (of_operation h x now).state → err ≡ (of_operation h x now).err → stat ≡ stat_after x new
    → results' ≡ results ++ part_result err stat ∷ []
    → triggers' ≡ triggers ++ (of_operation h x now).triggers
    → IsMidway h ps (i + 1) old new results' triggers'
midway_step h ps i old now new results results' err stat triggers triggers' x lt is m n e st rs ts =
    let split : drop i ps ≡ x ∷ drop (i + 1) ps = left_is ps i x lt is in
    record {
      front = n
          ∙ ap (λ s. (of_operation h x s).state) m.front
          ∙ sym (of_parts-push h (take i ps) x old)
          ∙ ap (λ xs. (of_parts h xs old).state) (sym (front_is ps i x lt is));
      state = ap (λ s. (of_parts h (drop (i + 1) ps) s).state) n
          ∙ ap (λ xs. (of_parts h xs now).state) (sym split)
          ∙ m.state;
      results_are =
          (λ j. (rs ∙ (λ k. results ++ part_result (e k) ((st ∙ ap (stat_after x) n) k) ∷ [])) j
          ++ (of_parts h (drop (i + 1) ps) (n j)).parts)
          ∙ append_assoc results
          (part_result (of_operation h x now).err (stat_after x (of_operation h x now).state) ∷ [])
          (of_parts h (drop (i + 1) ps) (of_operation h x now).state).parts
          ∙ ap (λ xs. results ++ (of_parts h xs now).parts) (sym split)
          ∙ m.results_are;
      triggers_are =
          (λ j. ts j ++ (of_parts h (drop (i + 1) ps) (n j)).triggers)
          ∙ append_assoc triggers (of_operation h x now).triggers
          (of_parts h (drop (i + 1) ps) (of_operation h x now).state).triggers
          ∙ ap (λ xs. triggers ++ (of_parts h xs now).triggers) (sym split)
          ∙ m.triggers_are;
    }

pub front_step : (h : TxnHeader) (ps : List Operation) (i : ℕ) (old now new : State) (x : Operation)
    → i < length ps → x ≡ get_or ps i x → now ≡ (of_parts h (take i ps) old).state → new ≡ (of_operation h x now).state
    → IsAfterFront h ps old new
front_step h ps i old now new x lt is m n = (
  i + 1,
  n ∙ ap (λ s. (of_operation h x s).state) m ∙ sym (of_parts-push h (take i ps) x old)
      ∙ ap (λ xs. (of_parts h xs old).state) (sym (front_is ps i x lt is)),
)

pub error-of_parts : (h : TxnHeader) (ps : List Operation) (s : State)
    → (of_parts h ps s).err ≡ first_error (of_parts h ps s).parts
error-of_parts h [] s = refl
error-of_parts h (p ∷ ps) s = refl

abbrev pub outcome : ℤ → List PartResult → List Trigger → Outcome
outcome err parts triggers = record { results = record { err = err; parts = parts }; triggers = triggers }

-- All parts are done.
pub midway_done : (h : TxnHeader) (ps : List Operation) (i : ℕ) (old now : State) (results : List PartResult)
    (triggers : List Trigger) → length ps ≤ i → IsMidway h ps i old now results triggers
    → outcome (first_error results) results triggers ≡ answer_of (of_parts h ps old)
midway_done h ps i old now results triggers past m =
    let results_are : results ≡ (of_parts h ps old).parts =
    nothing_more results (of_parts h (drop i ps) now).parts
    (ap (λ xs. (of_parts h xs now).parts) (drop_of_length-le ps past))
    ∙ m.results_are in
    let triggers_are : triggers ≡ (of_parts h ps old).triggers =
    nothing_more triggers (of_parts h (drop i ps) now).triggers
    (ap (λ xs. (of_parts h xs now).triggers) (drop_of_length-le ps past))
    ∙ m.triggers_are in
    λ i. outcome ((ap first_error results_are ∙ sym (error-of_parts h ps old)) i) (results_are i) (triggers_are i)

pub closing_step : (h : TxnHeader) (paths left left' : Names) (path : Bytes) (old now new : State)
    (before triggers triggers' : List Trigger)
    → sorted_names left ≡ path ∷ sorted_names left' → IsClosing h paths left old now before triggers
    → new ≡ (of_operation h (delete_of path) now).state
    → triggers' ≡ triggers ++ (of_operation h (delete_of path) now).triggers
    → IsClosing h paths left' old new before triggers'
closing_step h paths left left' path old now new before triggers triggers' first m n ts = record {
  state = ap (λ s. (of_parts h (delete_operations (sorted_names left')) s).state) n
      ∙ ap (λ ps. (of_parts h (delete_operations ps) now).state) (sym first)
      ∙ m.state;
  triggers_are =
      (λ j. ts j ++ (of_parts h (delete_operations (sorted_names left')) (n j)).triggers)
      ∙ append_assoc triggers (of_operation h (delete_of path) now).triggers
      (of_parts h (delete_operations (sorted_names left')) (of_operation h (delete_of path) now).state).triggers
      ∙ ap (λ ps. triggers ++ (of_parts h (delete_operations ps) now).triggers) (sym first)
      ∙ m.triggers_are;
}

-- ---- what comes of parts

-- What comes of the parts after one, where this is the error of each part that isn't an error part.
abbrev pub results_behind : ℤ → List Operation → List PartResult
results_behind otherwise [] = []
results_behind otherwise (o ∷ os) =
    without_stat (unwrap_or (error_of o) otherwise)
    ∷ results_behind (if is_some (error_of o) then RUNTIME_INCONSISTENCY else otherwise) os

all_failed : (os : List Operation) → results_behind RUNTIME_INCONSISTENCY os ≡ map result_in_failed os
all_failed [] = refl
all_failed (o ∷ os) = by (all_failed os) (error_of o)
  where
    by : results_behind RUNTIME_INCONSISTENCY os ≡ map result_in_failed os → (e : Option ℤ)
        → without_stat (unwrap_or e RUNTIME_INCONSISTENCY)
        ∷ results_behind (if is_some e then RUNTIME_INCONSISTENCY else RUNTIME_INCONSISTENCY) os
        ≡ without_stat (unwrap_or e RUNTIME_INCONSISTENCY) ∷ map result_in_failed os
    by rest None = ap (λ rs. without_stat RUNTIME_INCONSISTENCY ∷ rs) rest
    by rest (Some e) = ap (λ rs. without_stat e ∷ rs) rest

-- From the start on these are the results of a failed multi.
pub results_from_start : (os : List Operation) → results_behind (pos 0) os ≡ results_of_failed os
results_from_start [] = refl
results_from_start (o ∷ os) = by (results_from_start os) (error_of o)
  where
    by : results_behind (pos 0) os ≡ results_of_failed os → (e : Option ℤ)
        → without_stat (unwrap_or e (pos 0)) ∷ results_behind (if is_some e then RUNTIME_INCONSISTENCY else pos 0) os
        ≡ (if is_some e then without_stat (unwrap_or e RUNTIME_INCONSISTENCY) ∷ map result_in_failed os
        else without_stat (pos 0) ∷ results_of_failed os)
    by rest None = ap (λ rs. without_stat (pos 0) ∷ rs) rest
    by rest (Some e) = ap (λ rs. without_stat e ∷ rs) (all_failed os)

pub failed_step : (ps rest : List Operation) (x : Operation) (otherwise : ℤ) (found : Option ℤ)
    (results results' all : List PartResult) → ps ≡ x ∷ rest → found ≡ error_of x
    → results ++ results_behind otherwise ps ≡ all
    → results' ≡ results ++ without_stat (unwrap_or found otherwise) ∷ []
    → results' ++ results_behind (if is_some found then RUNTIME_INCONSISTENCY else otherwise) rest ≡ all
failed_step ps rest x otherwise found results results' all is e m rs =
    (λ j. rs j ++ results_behind (if is_some (e j) then RUNTIME_INCONSISTENCY else otherwise) rest)
    ∙ ap (λ (o : Option ℤ). (results ++ without_stat (unwrap_or o otherwise) ∷ [])
    ++ results_behind (if is_some (error_of x) then RUNTIME_INCONSISTENCY else otherwise) rest) e
    ∙ append_assoc results (without_stat (unwrap_or (error_of x) otherwise) ∷ [])
    (results_behind (if is_some (error_of x) then RUNTIME_INCONSISTENCY else otherwise) rest)
    ∙ ap (λ xs. results ++ results_behind otherwise xs) (sym is)
    ∙ m

pub first_error-found : (rs rest : List PartResult) (r : PartResult) → rs ≡ r ∷ rest → int_eq r.err (pos 0) ≡ false
    → first_error rs ≡ r.err
first_error-found rs rest r is found = ap first_error is ∙ ap (λ b. if b then first_error rest else r.err) found

pub first_error-passed : (rs rest : List PartResult) (r : PartResult) → rs ≡ r ∷ rest → int_eq r.err (pos 0) ≡ true
    → first_error rs ≡ first_error rest
first_error-passed rs rest r is passed = ap first_error is ∙ ap (λ b. if b then first_error rest else r.err) passed
