-- The table of a PING's answer.
use Rattle.std.proofs.Common.{◌≡◌, ℕ, ◌*◌, ◌<◌, ◌≤◌, ◌^◌, ℤ, List, Option, length, min, Result, Ok, Err, ap, subst, ◌∙◌, arith}
use Rattle.std.specs.Prelude.{IfOk}
use Rattle.std.proofs.lemmas.List.{length-take}
use Rattle.values.specs.declared.fault.NoMemory.{NoMemory}
use Rattle.forwarding.specs.State.{PendingTable}
use Rattle.forwarding.specs.Pending.{touched_limit, touched_rows, TakenTouched, take_touched}

-- No more rows are taken than the limit.
few_rows : (s : PendingTable) (timeout_of : ℤ → Option ℤ)
    → length (take_touched s timeout_of).rows ≤ touched_limit
few_rows s timeout_of =
    let taken : length (take_touched s timeout_of).rows ≡ min touched_limit (length (touched_rows s timeout_of)) =
    length-take touched_limit (touched_rows s timeout_of) in
    grind (arith, taken)

module _ (s : PendingTable) (timeout_of : ℤ → Option ℤ) (told : TakenTouched)
    (is : take_touched s timeout_of ≡ told) where
  short_table : (table : List ℕ) → length table ≡ 12 * length told.rows → length table < 2 ^ 31
  short_table table long =
      let few : length told.rows ≤ touched_limit = subst (λ (t : TakenTouched). length t.rows ≤ touched_limit) is (few_rows s timeout_of) in
      omega (arith, few, long)

  -- So the table is short.
  pub short_if_ok : (rows : List (ℤ × ℤ)) → rows ≡ told.rows → (made : Result (List ℕ) NoMemory)
      → IfOk made (λ table. length table ≡ 12 * length rows) → IfOk made (λ table. length table < 2 ^ 31)
  short_if_ok rows same (Ok table) long =
      short_table table (long ∙ ap (λ (r : List (ℤ × ℤ)). 12 * length r) same)
  short_if_ok rows same (Err e) long = tt
