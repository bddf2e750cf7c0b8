-- The parts of a text at a mark.
use Rattle.std.proofs.Common.{◌≡◌, ◌≢◌, ◌<◌, ℕ, Bool, true, false, List, [], ◌∷◌, Option, Some, None, nat_eq, length, if◌then◌else◌, refl, ap, sym, ◌∙◌, ltb-true, ltb-false, arith}
use Rattle.std.specs.Prelude.{nat_lt, ◌==◌}
use Rattle.std.specs.List.{position_or_len, before_first, after_first}
use Rattle.std.specs.Option.{option_map, MatchOption}
use Rattle.std.specs.Borrow.{Bor}
use Rattle.std.proofs.lemmas.Bool.{eqb-true}
use Rattle.zoo_config.specs.Addresses.{halves_at, after_mark}

abbrev Halves : Type 0
Halves = Option (Bor (List ℕ) × Bor (List ℕ))

-- What `split_once` says.
abbrev IsCut : ℕ → List ℕ → Halves → Type 0
IsCut mark text found =
    MatchOption found (position_or_len (λ letter. letter == mark) text ≡ length text)
    (λ x. (position_or_len (λ letter. letter == mark) text < length text)
    × (x.0.now ≡ before_first (λ letter. letter == mark) text)
    × (x.1.now ≡ after_first (λ letter. letter == mark) text))

both : (a b c d : List ℕ) → a ≡ c → b ≡ d → ◌≡◌ {A = Option (List ℕ × List ℕ)} (Some (a, b)) (Some (c, d))
both a b c d p q = cc

halves_if : (mark : ℕ) (text : List ℕ) (found : Halves) (is_there : Bool)
    → nat_lt (position_or_len (λ letter. letter == mark) text) (length text) ≡ is_there → IsCut mark text found
    → option_map {U = List ℕ × List ℕ} (λ halves. (halves.0.now, halves.1.now)) found
    ≡ (if is_there
    then Some (before_first (λ letter. letter == mark) text, after_first (λ letter. letter == mark) text) else None)
halves_if mark text None true e none = absurd (omega (arith, ltb-true _ _ e, none))
halves_if mark text None false e none = refl
halves_if mark text (Some halves) true e cut = both _ _ _ _ cut.1 cut.2
halves_if mark text (Some halves) false e cut = absurd (omega (arith, ltb-false _ _ e, cut.0))

pub halves_are : (mark : ℕ) (text : List ℕ) (found : Halves) → IsCut mark text found
    → option_map {U = List ℕ × List ℕ} (λ halves. (halves.0.now, halves.1.now)) found ≡ halves_at mark text
halves_are mark text found cut =
    halves_if mark text found (nat_lt (position_or_len (λ letter. letter == mark) text) (length text)) refl cut

of_letter : (mark letter : ℕ) (text : List ℕ) (is_it : Bool) → nat_eq letter mark ≡ is_it
    → ((rest : List ℕ) → letter ∷ text ≢ mark ∷ rest)
    → ◌≡◌ {A = Option (List ℕ)} (if is_it then Some text else None) None
of_letter mark letter text true e none = absurd (none text (ap (λ l. l ∷ text) (eqb-true letter mark e)))
of_letter mark letter text false e none = refl

of_none : (mark : ℕ) (text : List ℕ) → ((rest : List ℕ) → text ≢ mark ∷ rest) → after_mark mark text ≡ None
of_none mark [] none = refl
of_none mark (letter ∷ text) none = of_letter mark letter text (nat_eq letter mark) refl none

eq_self : (n : ℕ) → nat_eq n n ≡ true
eq_self n = search (arith)

of_mark : (mark : ℕ) (rest : List ℕ) → after_mark mark (mark ∷ rest) ≡ Some rest
of_mark mark rest = ap (λ (is_it : Bool). if is_it then Some rest else None) (eq_self mark)

pub after_is : (mark : ℕ) (text : List ℕ) (found : Option (Bor (List ℕ)))
    → MatchOption found ((rest : List ℕ) → text ≢ mark ∷ rest) (λ rest. text ≡ mark ∷ rest.now)
    → option_map (λ rest. rest.now) found ≡ after_mark mark text
after_is mark text None none = sym (of_none mark text none)
after_is mark text (Some rest) e = sym (ap (after_mark mark) e ∙ of_mark mark rest.now)
