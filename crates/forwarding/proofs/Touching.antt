-- The rows of touched sessions, one after the other.
use Rattle.std.proofs.Common.{◌≡◌, ℕ, zero, suc, ◌-◌, ◌≤◌, ℤ, List, [], ◌∷◌, ◌++◌, length, map, take, drop, Option, Some, None, refl, sym, ap, ◌∙◌, append_assoc, length-drop, arith}
use Rattle.std.specs.FinSet as set
use Rattle.forwarding.specs.State.{TouchedSessions, PendingTable}
use Rattle.forwarding.specs.Pending.{with_timeout, live_rows, touched_limit, touched_rows, take_touched}

pub lives : (timeout_of : ℤ → Option ℤ) (rows : List (ℤ × ℤ)) (session timeout : ℤ) (rest : List ℤ)
    → timeout_of session ≡ Some timeout
    → (rows ++ (session, timeout) ∷ []) ++ live_rows timeout_of rest ≡ rows ++ live_rows timeout_of (session ∷ rest)
lives timeout_of rows session timeout rest at =
    append_assoc rows ((session, timeout) ∷ []) (live_rows timeout_of rest)
    ∙ ap (λ o. rows ++ with_timeout session o (live_rows timeout_of rest)) (sym at)

pub ended : (timeout_of : ℤ → Option ℤ) (rows : List (ℤ × ℤ)) (session : ℤ) (rest : List ℤ)
    → timeout_of session ≡ None
    → rows ++ live_rows timeout_of rest ≡ rows ++ live_rows timeout_of (session ∷ rest)
ended timeout_of rows session rest at = ap (λ o. rows ++ with_timeout session o (live_rows timeout_of rest)) (sym at)

-- ---- the rows that are too many

pub none_beyond : {A : Type 0} (n : ℕ) (xs : List A) → length xs ≤ n → [] ≡ drop n xs
none_beyond zero [] l = refl
none_beyond zero (x ∷ xs) l = absurd (omega arith)
none_beyond (suc n) [] l = refl
none_beyond (suc n) (x ∷ xs) l = none_beyond n xs (omega arith)

whole : {A : Type 0} (n : ℕ) (xs : List A) → n ≡ length xs → take n xs ≡ xs
whole zero [] l = refl
whole zero (x ∷ xs) l = absurd (omega arith)
whole (suc n) [] l = refl
whole (suc n) (x ∷ xs) l = ap (λ ys. x ∷ ys) (whole n xs (omega arith))

pub all_beyond : {A : Type 0} (n : ℕ) (xs : List A) → take (length xs - n) (drop n xs) ≡ drop n xs
all_beyond n xs = whole (length xs - n) (drop n xs) (sym (length-drop n xs))

pub told : (s : PendingTable) (timeout_of : ℤ → Option ℤ) (all rows rest : List (ℤ × ℤ)) (touched : TouchedSessions)
    → all ≡ touched_rows s timeout_of → rows ≡ take touched_limit all → rest ≡ drop touched_limit all
    → touched ≡ set.from_list (map (λ (row : ℤ × ℤ). row.0) rest)
    → take_touched s timeout_of ≡ record { rows = rows; after = record s { touched = touched } }
told s timeout_of all rows rest touched e f g h =
    let rows_are : rows ≡ take touched_limit (touched_rows s timeout_of) = f ∙ ap (λ xs. take touched_limit xs) e in
    let rest_is : rest ≡ drop touched_limit (touched_rows s timeout_of) = g ∙ ap (λ xs. drop touched_limit xs) e in
    let touched_are : touched
    ≡ set.from_list (map (λ (row : ℤ × ℤ). row.0) (drop touched_limit (touched_rows s timeout_of))) =
    h ∙ ap (λ xs. set.from_list (map (λ (row : ℤ × ℤ). row.0) xs)) rest_is in
    λ i. record { rows = sym rows_are i; after = record s { touched = sym touched_are i } }
