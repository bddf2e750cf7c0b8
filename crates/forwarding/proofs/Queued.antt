-- The requests of one connection: where the first that passes a test stands, and what a change there does.
use Rattle.std.proofs.Common.{◌≡◌, ℕ, ℤ, zero, suc, ◌+◌, ◌<◌, ◌≤◌, Bool, true, false, cond, not, [], ◌∷◌, length, get_or, slice_set, Option, Some, None, refl, sym, ap, ◌∙◌, arith, ◌||◌}
use Rattle.std.specs.Prelude.{nat_lt, is_some, IfSome}
use Rattle.std.specs.List.{position, position_or_len, list_any, remove}
use Rattle.std.proofs.lemmas.List.Quantifiers.{position-Some}
use Rattle.std.proofs.lemmas.Bool.{ltb-false}
use Rattle.forwarding.specs.declared.request.PendingWrite.{PendingWrite}
use Rattle.forwarding.specs.declared.request.AnsweredWrite.{AnsweredWrite}
use Rattle.forwarding.specs.declared.request.PendingRequest.{PendingRequest}
use Rattle.forwarding.specs.declared.request.PendingRequest.TheVariants.{Connect, Write, Sync, Held}
use Rattle.forwarding.specs.Queue.{RequestQueue, is_write, oldest_write, write_place, without_oldest_write, is_answered, kind_in, at_place, found_write, OldestWriteIsAt, after_answer, is_close, oldest_close, is_unsettled, settled_request, with_oldest_settled}
use Rattle.forwarding.specs.Inner.{as_write, is_close_request, IsOldestWrite}

-- The request at this place is the first that passes.
pub record IsFirst (p : PendingRequest → Bool) (q : RequestQueue) (place : ℕ) (r : PendingRequest) : Type 0 where
  pub within : place < length q
  pub at : get_or q place r ≡ r
  pub passes : p r ≡ true
  pub before : (k : ℕ) → k < place → p (get_or q k r) ≡ false

pub is_first : (p : PendingRequest → Bool) (q : RequestQueue) (place : ℕ) (r : PendingRequest)
    → position p q ≡ Some place → r ≡ get_or q place r → IsFirst p q place r
is_first p q place r e at =
    let first = position-Some p q place r e in
    record { within = first.0; at = sym at; passes = ap p at ∙ first.1; before = first.2 }

-- After one that doesn't pass.
after_front : (p : PendingRequest → Bool) (x : PendingRequest) (xs : RequestQueue) (place : ℕ) (r : PendingRequest)
    → IsFirst p (x ∷ xs) (suc place) r → IsFirst p xs place r
after_front p x xs place r h = record {
  within = (let w = h.within in omega arith);
  at = h.at;
  passes = h.passes;
  before = λ k l. h.before (suc k) (omega arith);
}

fails : (p : PendingRequest → Bool) (x : PendingRequest) (xs : RequestQueue) (place : ℕ) (r : PendingRequest)
    → IsFirst p (x ∷ xs) (suc place) r → p x ≡ false
fails p x xs place r h = h.before 0 (omega arith)

nowhere : {A : Type 0} (p : PendingRequest → Bool) (place : ℕ) (r : PendingRequest) → IsFirst p [] place r → A
nowhere p place r h = let w = h.within in absurd (omega arith)

-- Of the place alone: the place is within, and its request passes.
pub placed : (p : PendingRequest → Bool) (q : RequestQueue) (place : ℕ) → Some place ≡ position p q
    → place < length q
placed p q place e = (position-Some p q place (Held []) (sym e)).0

-- ---- no request passes

none_from : (p : PendingRequest → Bool) (q : RequestQueue) → length q ≤ position_or_len p q → list_any p q ≡ false
none_from p [] h = refl
none_from p (x ∷ xs) h =
    elim (p x) as (λ b. suc (length xs) ≤ cond (not b) (1 + position_or_len p xs) 0 → (b || list_any p xs) ≡ false) [
      | true ↦ λ l. absurd (omega arith)
      | false ↦ λ l. none_from p xs (omega arith)
    ] h

pub none_passes : (p : PendingRequest → Bool) (q : RequestQueue) → None ≡ position p q → list_any p q ≡ false
none_passes p q e = by (nat_lt (position_or_len p q) (length q)) refl e
  where
    by : (b : Bool) → nat_lt (position_or_len p q) (length q) ≡ b → None ≡ cond b (Some (position_or_len p q)) None
        → list_any p q ≡ false
    by true t e = cc
    by false t e = none_from p q (ltb-false (position_or_len p q) (length q) t)

-- ---- writes

true-false : {A : Type 0} → true ≡ false → A
true-false e = cc

pub no_write : (q : RequestQueue) → list_any is_write q ≡ false → oldest_write q ≡ None
no_write [] h = refl
no_write (Connect c ∷ rest) h = no_write rest h
no_write (Write w ∷ rest) h = true-false h
no_write (Sync s ∷ rest) h = no_write rest h
no_write (Held f ∷ rest) h = no_write rest h

pub no_as_write : (r : PendingRequest) → is_write r ≡ true → None ≡ as_write r → ⊥
no_as_write (Connect c) h e = true-false (sym h)
no_as_write (Write w) h e = cc
no_as_write (Sync s) h e = true-false (sym h)
no_as_write (Held f) h e = true-false (sym h)

pub written_as : (r : PendingRequest) (w : PendingWrite) → Some w ≡ as_write r → r ≡ Write w
written_as (Connect c) w e = cc
written_as (Write v) w e = cc
written_as (Sync s) w e = cc
written_as (Held f) w e = cc

-- The oldest write of the rest is that of the whole, a place later.
one_later : (r : PendingRequest) (rest : RequestQueue) (place : ℕ) (w : PendingWrite) → suc place < length (r ∷ rest)
    → write_place (r ∷ rest) ≡ suc (write_place rest) → oldest_write (r ∷ rest) ≡ oldest_write rest
    → without_oldest_write (r ∷ rest) ≡ r ∷ without_oldest_write rest
    → IsOldestWrite rest place w → IsOldestWrite (r ∷ rest) (suc place) w
one_later r rest place w within at is without h = record {
  within = within;
  at = ap suc h.at ∙ sym at;
  is = is ∙ h.is;
  rest = ap (λ q. r ∷ q) h.rest ∙ sym without;
}

written : (q : RequestQueue) (place : ℕ) (w : PendingWrite) → IsFirst is_write q place (Write w)
    → IsOldestWrite q place w
written [] place w h = nowhere is_write place (Write w) h
written (Connect c ∷ rest) zero w h = true-false (sym (ap is_write h.at))
written (Write v ∷ rest) zero w h =
    record { within = h.within; at = refl; is = ap oldest_write (λ i. h.at i ∷ rest); rest = refl }
written (Sync s ∷ rest) zero w h = true-false (sym (ap is_write h.at))
written (Held f ∷ rest) zero w h = true-false (sym (ap is_write h.at))
written (Connect c ∷ rest) (suc place) w h =
    one_later (Connect c) rest place w h.within refl refl refl
    (written rest place w (after_front is_write (Connect c) rest place (Write w) h))
written (Write v ∷ rest) (suc place) w h = true-false (fails is_write (Write v) rest place (Write w) h)
written (Sync s ∷ rest) (suc place) w h =
    one_later (Sync s) rest place w h.within refl refl refl
    (written rest place w (after_front is_write (Sync s) rest place (Write w) h))
written (Held f ∷ rest) (suc place) w h =
    one_later (Held f) rest place w h.within refl refl refl
    (written rest place w (after_front is_write (Held f) rest place (Write w) h))

pub is_oldest_write : (q : RequestQueue) (place : ℕ) (w : PendingWrite) → IsFirst is_write q place (Write w)
    → IsOldestWrite q place w
is_oldest_write q place w h = written q place w h

-- The write at this place is the oldest, so that its place and what is left without it are known.
pub removed_at : (q : RequestQueue) (place : ℕ) → OldestWriteIsAt q place
    → (place < length q) × (remove q place ≡ without_oldest_write q)
removed_at q place h = rw h.at (at_write q h.there)
  where
    at_write : (q : RequestQueue) → is_some (oldest_write q) ≡ true
        → (write_place q < length q) × (remove q (write_place q) ≡ without_oldest_write q)
    at_write [] none = true-false (sym none)
    at_write (Write w ∷ rest) some = (omega arith, refl)
    at_write (Connect c ∷ rest) some =
        let more = at_write rest some in (let l = more.0 in omega arith, ap (λ q. Connect c ∷ q) more.1)
    at_write (Sync s ∷ rest) some =
        let more = at_write rest some in (let l = more.0 in omega arith, ap (λ q. Sync s ∷ q) more.1)
    at_write (Held f ∷ rest) some =
        let more = at_write rest some in (let l = more.0 in omega arith, ap (λ q. Held f ∷ q) more.1)

-- A transaction that answers the oldest write answers it at its place, and takes it out.
pub found_is : (q : RequestQueue) (xid txn_kind : ℤ) (write : AnsweredWrite) → found_write q xid txn_kind ≡ Some write
    → OldestWriteIsAt q write.place × (after_answer q xid txn_kind ≡ without_oldest_write q)
found_is q xid txn_kind write e = by (oldest_write q) refl (is_answered (oldest_write q) xid txn_kind) refl e
  where
    place_in : Option AnsweredWrite → ℕ
    place_in None = 0
    place_in (Some w) = w.place

    by : (o : Option PendingWrite) → oldest_write q ≡ o → (b : Bool) → is_answered (oldest_write q) xid txn_kind ≡ b
        → at_place (write_place q) (cond b (kind_in o) None) ≡ Some write
        → OldestWriteIsAt q write.place × (cond b (without_oldest_write q) q ≡ without_oldest_write q)
    by None is true answers none = true-false (sym (ap is_some none))
    by (Some w) is true answers some =
        (record { there = ap is_some is; at = sym (ap place_in some) }, refl)
    by o is false answers none = true-false (sym (ap is_some none))

pub found_at : (q : RequestQueue) (xid txn_kind : ℤ) (found : Option AnsweredWrite) → found ≡ found_write q xid txn_kind
    → IfSome found (λ write. OldestWriteIsAt q write.place)
found_at q xid txn_kind None is = tt
found_at q xid txn_kind (Some write) is = (found_is q xid txn_kind write (sym is)).0

-- ---- closeSessions

pub close_is_write : (r : PendingRequest) → is_close_request r ≡ true → is_write r ≡ true
close_is_write (Connect c) h = true-false (sym h)
close_is_write (Write w) h = refl
close_is_write (Sync s) h = true-false (sym h)
close_is_write (Held f) h = true-false (sym h)

pub no_close : (q : RequestQueue) → list_any is_close_request q ≡ false → oldest_close q ≡ None
no_close [] h = refl
no_close (Connect c ∷ rest) h = no_close rest h
no_close (Write w ∷ rest) h =
    elim (is_close w.kind) as (λ b. (b || list_any is_close_request rest) ≡ false
    → cond b (Some w.xid) (oldest_close rest) ≡ None) [
      | true ↦ λ e. true-false e
      | false ↦ λ e. no_close rest e
    ] h
no_close (Sync s ∷ rest) h = no_close rest h
no_close (Held f ∷ rest) h = no_close rest h

pub closes : (q : RequestQueue) (place : ℕ) (w : PendingWrite) → IsFirst is_close_request q place (Write w)
    → oldest_close q ≡ Some w.xid
closes [] place w h = nowhere is_close_request place (Write w) h
closes (Connect c ∷ rest) zero w h = true-false (sym (ap is_write h.at))
closes (Write v ∷ rest) zero w h =
    ap (λ r. oldest_close (r ∷ rest)) h.at ∙ ap (λ b. cond b (Some w.xid) (oldest_close rest)) h.passes
closes (Sync s ∷ rest) zero w h = true-false (sym (ap is_write h.at))
closes (Held f ∷ rest) zero w h = true-false (sym (ap is_write h.at))
closes (Connect c ∷ rest) (suc place) w h = closes rest place w (after_front is_close_request (Connect c) rest place (Write w) h)
closes (Write v ∷ rest) (suc place) w h =
    ap (λ b. cond b (Some v.xid) (oldest_close rest)) (fails is_close_request (Write v) rest place (Write w) h)
    ∙ closes rest place w (after_front is_close_request (Write v) rest place (Write w) h)
closes (Sync s ∷ rest) (suc place) w h = closes rest place w (after_front is_close_request (Sync s) rest place (Write w) h)
closes (Held f ∷ rest) (suc place) w h = closes rest place w (after_front is_close_request (Held f) rest place (Write w) h)

-- ---- syncs

pub none_settles : (q : RequestQueue) → list_any is_unsettled q ≡ false → q ≡ with_oldest_settled q
none_settles [] h = refl
none_settles (r ∷ rest) h =
    elim (is_unsettled r) as (λ b. (b || list_any is_unsettled rest) ≡ false
    → r ∷ rest ≡ cond b (settled_request r ∷ rest) (r ∷ with_oldest_settled rest)) [
      | true ↦ λ e. true-false e
      | false ↦ λ e. ap (λ q. r ∷ q) (none_settles rest e)
    ] h

pub settles : (q : RequestQueue) (place : ℕ) (r : PendingRequest) → IsFirst is_unsettled q place r
    → slice_set q place (settled_request r) ≡ with_oldest_settled q
settles [] place r h = nowhere is_unsettled place r h
settles (x ∷ rest) zero r h =
    sym (ap (λ b. cond b (settled_request x ∷ rest) (x ∷ with_oldest_settled rest)) (ap is_unsettled h.at ∙ h.passes)
    ∙ ap (λ y. settled_request y ∷ rest) h.at)
settles (x ∷ rest) (suc place) r h =
    ap (λ q. x ∷ q) (settles rest place r (after_front is_unsettled x rest place r h))
    ∙ sym (ap (λ b. cond b (settled_request x ∷ rest) (x ∷ with_oldest_settled rest))
    (fails is_unsettled x rest place r h))
