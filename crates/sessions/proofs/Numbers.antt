-- Two counters of a server give two session ids, and there is one after the first counter.
use Rattle.std.proofs.Common.{◌≡◌, ◌≢◌, ℕ, ◌+◌, ◌*◌, ◌^◌, ◌<◌, ◌==◌, false, ℤ, pos, negsuc, sym, ap, ◌∙◌, arith, w64}
use Rattle.std.specs.Prelude.{IsTrue, unsigned_abs}
use Rattle.std.specs.Int.{cast_unsigned}
use Rattle.std.proofs.lemmas.Int.{of_z-to_z}
use Rattle.settings.specs.Settings.{is_server_id, is_first_counter}
use Rattle.sessions.specs.Credentials.{session_id_of, session_number}
use Rattle.sessions.specs.Sessions.{greatest_counter}

pub server_below : (server_id : ℤ) → IsTrue (is_server_id server_id) → unsigned_abs server_id < 256
server_below (pos n) h = grind arith
server_below (negsuc n) h = grind arith

pub number_below : (server_id : ℤ) (counter : ℕ) → IsTrue (is_server_id server_id) → counter < 2 ^ 56
    → session_number server_id counter < 2 ^ 64
number_below server_id counter h below = let server : unsigned_abs server_id < 256 =
    server_below server_id h in omega arith

same_counter : (high i j : ℕ) → high * 2 ^ 56 + i ≡ high * 2 ^ 56 + j → i ≡ j
same_counter high i j e = omega arith

pub counters_apart : (server_id : ℤ) (i j : ℕ) → IsTrue (is_server_id server_id) → i < 2 ^ 56 → j < 2 ^ 56
    → session_id_of server_id i ≡ session_id_of server_id j → i ≡ j
unfolding session_id_of
counters_apart server_id i j h low_i low_j e =
    same_counter (unsigned_abs server_id) i j (
    sym (of_z-to_z w64 (session_number server_id i) (number_below server_id i h low_i))
    ∙ ap (cast_unsigned w64) e
    ∙ of_z-to_z w64 (session_number server_id j) (number_below server_id j h low_j))

positive : (server_id : ℤ) → IsTrue (is_server_id server_id) → 0 < unsigned_abs server_id
positive (pos n) h = grind arith
positive (negsuc n) h = grind arith

not_zero : (high counter : ℕ) → 0 < high → high * 2 ^ 56 + counter ≡ 0 → ⊥
not_zero high counter p e = omega arith

-- No counter gives the id 0.
pub never_zero : (server_id : ℤ) (counter : ℕ) → IsTrue (is_server_id server_id) → counter < 2 ^ 56
    → session_id_of server_id counter ≢ pos 0
unfolding session_id_of
never_zero server_id counter h low e =
    not_zero (unsigned_abs server_id) counter (positive server_id h)
    (sym (of_z-to_z w64 (session_number server_id counter) (number_below server_id counter h low))
    ∙ ap (cast_unsigned w64) e)

-- ---- the first counter

pub first_below : (first : ℕ) → IsTrue (is_first_counter first) → first < 2 ^ 56
first_below first fits = grind arith

-- There is a counter after it.
pub first_not_last : (first : ℕ) → IsTrue (is_first_counter first) → (first == greatest_counter) ≡ false
first_not_last first fits = grind arith
