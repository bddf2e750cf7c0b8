-- The passwords that each server of ZooKeeper makes, four bytes after four.
use borrow.Rule.Slice.PartMut.{put_mid}
use Rattle.std.proofs.Common.{◌≡◌, ℕ, suc, ◌+◌, ◌-◌, ◌*◌, ◌<◌, ◌≤◌, List, ◌++◌, length, take, refl, ap, ◌∙◌, append_assoc, append-nil, take_all, arith}
use Rattle.std.proofs.lemmas.Slice.{take-put_mid}
use Rattle.sessions.specs.Credentials.{next_state, state_bytes, random_bytes}

four_bytes : (state : ℕ) → length (state_bytes state) ≡ 4
unfolding state_bytes
four_bytes state = refl

-- One step writes the next four.
pub one_step : (written word : List ℕ) (place k state : ℕ) → place < 4 → length written ≡ 16
    → word ≡ state_bytes (next_state state)
    → take (4 * (place + 1)) (put_mid (4 * place) k written word) ++ random_bytes (4 - (place + 1)) (next_state state)
    ≡ take (4 * place) written ++ random_bytes (4 - place) state
one_step written word place k state below whole is =
    let rest : List ℕ = random_bytes (4 - (place + 1)) (next_state state) in
    let four : length word ≡ 4 = ap length is ∙ four_bytes (next_state state) in
    let next : 4 * (place + 1) ≡ 4 * place + length word = omega (arith, four) in
    let within : 4 * place ≤ length written = omega (arith, whole, below) in
    let steps : suc (4 - (place + 1)) ≡ 4 - place = omega (arith, below) in
    ap (λ front. front ++ rest) (take-put_mid (4 * place) k written word (4 * (place + 1)) next within)
    ∙ append_assoc (take (4 * place) written) word rest
    ∙ ap (λ bytes. take (4 * place) written ++ (bytes ++ rest)) is
    ∙ ap (λ n. take (4 * place) written ++ random_bytes n state) steps

-- After four steps all are written.
pub all_steps : (written : List ℕ) (place state : ℕ) → 4 ≤ place → place ≤ 4 → length written ≡ 16
    → take (4 * place) written ++ random_bytes (4 - place) state ≡ written
all_steps written place state beyond within whole =
    let none : 4 - place ≡ 0 = omega (arith, beyond) in
    ap (λ n. take (4 * place) written ++ random_bytes n state) none
    ∙ append-nil (take (4 * place) written)
    ∙ take_all (4 * place) written (omega (arith, whole, beyond))
