-- The options of a replay, read pair by pair.
use Rattle.std.proofs.Common.{◌≡◌, ℕ, ◌-◌, ◌^◌, ◌≤◌, List, [], ◌∷◌, Some, map, length, get_or, take, drop, sym, ap, ◌∙◌, arith}
use Rattle.std.proofs.lemmas.List.{take_all}
use Rattle.values.specs.Maybe.{◌>>=◌}
use Rattle.texts.specs.Number.{number_up_to}
use Rattle.replay.specs.Command.{with_option, with_options}
use Rattle.replay.specs.declared.command.GivenLimits.{GivenLimits}

-- A pair that is taken leaves the options after it.
pub after_pair : {A : Type 0} (bytes : A → List ℕ) (given more : GivenLimits) (number : ℕ) (rest : List A)
    (name text : A) → 2 ≤ length rest → name ≡ get_or rest 0 name → text ≡ get_or rest 1 text
    → number_up_to (2 ^ 64 - 1) (bytes text) ≡ Some number → with_option given (bytes name) number ≡ Some more
    → with_options more (map bytes (take (length rest - 2) (drop 2 rest))) ≡ with_options given (map bytes rest)
after_pair bytes given more number [] name text two is_name is_text spelled taken = absurd (omega arith)
after_pair bytes given more number (x ∷ []) name text two is_name is_text spelled taken = absurd (omega arith)
after_pair bytes given more number (x ∷ y ∷ others) name text two is_name is_text spelled taken =
    ap (λ l. with_options more (map bytes l)) (take_all (length (x ∷ y ∷ others) - 2) others (omega arith))
    ∙ sym (ap (λ n. n >>= λ m. with_option given (bytes x) m >>= λ g. with_options g (map bytes others))
    (ap (λ t. number_up_to (2 ^ 64 - 1) (bytes t)) (sym is_text) ∙ spelled)
    ∙ ap (λ g. g >>= λ h. with_options h (map bytes others))
    (ap (λ n. with_option given (bytes n) number) (sym is_name) ∙ taken))
