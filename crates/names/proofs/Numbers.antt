-- Numbers never change, no two texts have the same one, and a text that was added has one.
use Rattle.std.proofs.Common.{◌≡◌, ℕ, ◌+◌, ◌<◌, ◌≤◌, ◌++◌, ◌⊎◌, inl, inr, ◌||◌, Bool, true, false, List, [], ◌∷◌, Option, Some, None, refl, sym, ap, ◌∙◌, subst, arith, length, cond, not, nat_lt, nat_eq, get_or, suc}
use Rattle.std.specs.List.{position_or_len, list_any}
use Rattle.std.specs.Str.{bytes_eq}
use Rattle.std.specs.Cmp.Lexicographic.{bytes_decides, nat_list_eq_equiv}
use Rattle.std.proofs.lemmas.Bool.Decides.{nat_tests}
use Rattle.std.proofs.lemmas.List.{length-append}
use Rattle.std.proofs.lemmas.List.Sums.{passes_at_first}
use Rattle.std.proofs.lemmas.List.Folds.{position_or_len_push}
use Rattle.pairs.specs.Pairs.{Bytes}
use Rattle.names.specs.Names.{number_among, with_new_name, number_or_next}

lt_test : (a b : ℕ) → a < b → nat_lt a b ≡ true
lt_test a b h = grind (arith, nat_tests)

ge_test : (a b : ℕ) → b ≤ a → nat_lt a b ≡ false
ge_test a b h = grind (arith, nat_tests)

test_lt : (a b : ℕ) → nat_lt a b ≡ true → a < b
test_lt a b h = grind (arith, nat_tests)

test_ge : (a b : ℕ) → nat_lt a b ≡ false → b ≤ a
test_ge a b h = grind (arith, nat_tests)

same_test : (a b : ℕ) → a ≡ b → nat_eq a b ≡ true
same_test a b h = grind (arith, nat_tests)

other_test : (a b : ℕ) → a < b → nat_eq a b ≡ false
other_test a b h = grind (arith, nat_tests)

some_is : {A : Type 0} {x y : A} → Some x ≡ Some y → x ≡ y
some_is e = cc

none_is : {A : Type 0} (x : A) → None ≡ Some x → ⊥
none_is x e = cc

place_within : (names : List Bytes) (p : Bytes) → number_or_next names p ≤ length names
place_within [] p = omega arith
place_within (n ∷ ns) p = by (bytes_eq p n) (place_within ns p)
  where
    by : (b : Bool) → number_or_next ns p ≤ length ns
        → cond (not b) (1 + number_or_next ns p) 0 ≤ length (n ∷ ns)
    by true rest = omega arith
    by false rest = omega arith

any_is : (names : List Bytes) (p : Bytes)
    → list_any (bytes_eq p) names ≡ nat_lt (number_or_next names p) (length names)
any_is [] p = sym (ge_test 0 0 (omega arith))
any_is (n ∷ ns) p = by (bytes_eq p n) (any_is ns p)
  where
    next : (a b : ℕ) → nat_lt a b ≡ nat_lt (1 + a) (suc b)
    next a b = grind (arith, nat_tests)

    by : (b : Bool) → list_any (bytes_eq p) ns ≡ nat_lt (number_or_next ns p) (length ns)
        → (b || list_any (bytes_eq p) ns) ≡ nat_lt (cond (not b) (1 + number_or_next ns p) 0) (length (n ∷ ns))
    by true rest = sym (lt_test 0 (length (n ∷ ns)) (omega arith))
    by false rest = rest ∙ next (number_or_next ns p) (length ns)

-- ---- what a number says

here : (names : List Bytes) (p : Bytes) → number_or_next names p < length names
    → number_among names p ≡ Some (number_or_next names p)
here names p h = ap (λ b. cond b (Some (number_or_next names p)) None) (lt_test (number_or_next names p) (length names) h)

absent : (names : List Bytes) (p : Bytes) → length names ≤ number_or_next names p → number_among names p ≡ None
absent names p h = ap (λ b. cond b (Some (number_or_next names p)) None) (ge_test (number_or_next names p) (length names) h)

pub number_is : (names : List Bytes) (p : Bytes) (n : ℕ) → number_among names p ≡ Some n
    → (number_or_next names p ≡ n) × (n < length names)
number_is names p n is = by (nat_lt (number_or_next names p) (length names)) refl is
  where
    by : (b : Bool) → nat_lt (number_or_next names p) (length names) ≡ b
        → cond b (Some (number_or_next names p)) None ≡ Some n
        → (number_or_next names p ≡ n) × (n < length names)
    by true e is =
        let same = some_is is in
        let within = test_lt (number_or_next names p) (length names) e in
        (same, omega arith)
    by false e is = absurd (none_is n is)

text_at : (names : List Bytes) (p : Bytes) (n : ℕ) → number_among names p ≡ Some n → p ≡ get_or names n []
text_at names p n is =
    let found = number_is names p n is in
    let same = found.0 in
    let within = found.1 in
    (bytes_decides p (get_or names n [])).0
    (ap (λ i. bytes_eq p (get_or names i [])) (sym same)
    ∙ passes_at_first (bytes_eq p) names [] (omega arith))

-- Texts with the same number are the same.
pub one_text : (names : List Bytes) (p q : Bytes) (n : ℕ) → number_among names p ≡ Some n → number_among names q ≡ Some n
    → p ≡ q
one_text names p q n first second = text_at names p n first ∙ sym (text_at names q n second)

-- ---- a text that is added

pub no_growth : (names : List Bytes) (p : Bytes) → number_or_next names p < length names → with_new_name names p ≡ names
no_growth names p h =
    ap (λ b. cond b names (names ++ p ∷ []))
    (any_is names p ∙ lt_test (number_or_next names p) (length names) h)

pub growth : (names : List Bytes) (p : Bytes) → length names ≤ number_or_next names p
    → with_new_name names p ≡ names ++ p ∷ []
growth names p h =
    ap (λ b. cond b names (names ++ p ∷ []))
    (any_is names p ∙ ge_test (number_or_next names p) (length names) h)

long : (names : List Bytes) (p : Bytes) → length (names ++ p ∷ []) ≡ length names + 1
long names p = length-append names (p ∷ [])

-- Where a text is after another one was added at the end.
place_before : (names : List Bytes) (p q : Bytes) → number_or_next names q < length names
    → number_or_next (names ++ p ∷ []) q ≡ number_or_next names q
place_before names p q h =
    position_or_len_push (bytes_eq q) names p
    ∙ ap (λ b. cond b (length names + cond (bytes_eq q p) 0 1) (number_or_next names q))
    (other_test (number_or_next names q) (length names) h)

place_behind : (names : List Bytes) (p q : Bytes) → length names ≤ number_or_next names q
    → number_or_next (names ++ p ∷ []) q ≡ length names + cond (bytes_eq q p) 0 1
place_behind names p q h =
    let most = place_within names q in
    position_or_len_push (bytes_eq q) names p
    ∙ ap (λ b. cond b (length names + cond (bytes_eq q p) 0 1) (number_or_next names q))
    (same_test (number_or_next names q) (length names) (omega arith))

-- A text that was added has its number.
pub has_number : (names : List Bytes) (p : Bytes) → number_among (with_new_name names p) p ≡ Some (number_or_next names p)
has_number names p = by (nat_lt (number_or_next names p) (length names)) refl
  where
    none_more : (n : ℕ) → n + 0 ≡ n
    none_more n = omega arith

    by : (b : Bool) → nat_lt (number_or_next names p) (length names) ≡ b
        → number_among (with_new_name names p) p ≡ Some (number_or_next names p)
    by true e =
        let within = test_lt (number_or_next names p) (length names) e in
        ap (λ ns. number_among ns p) (no_growth names p within) ∙ here names p within
    by false e =
        let past = test_ge (number_or_next names p) (length names) e in
        let most = place_within names p in
        let at = place_behind names p p past
        ∙ ap (λ b. length names + cond b 0 1) (nat_list_eq_equiv.refl p) ∙ none_more (length names) in
        let more = long names p in
        let same : number_or_next (names ++ p ∷ []) p ≡ number_or_next names p = omega arith in
        ap (λ ns. number_among ns p) (growth names p past)
        ∙ here (names ++ p ∷ []) p (omega arith)
        ∙ ap Some same

-- The other texts keep their numbers, or none.
abbrev pub KeptOrLast : List Bytes → Bytes → Bytes → Type 0
KeptOrLast names p q =
    (number_among (with_new_name names p) q ≡ number_among names q)
    ⊎ ((number_among names q ≡ None) × (number_among (with_new_name names p) q ≡ Some (length names)))

pub kept_or_last : (names : List Bytes) (p q : Bytes) → KeptOrLast names p q
kept_or_last names p q =
    by (nat_lt (number_or_next names p) (length names)) refl (nat_lt (number_or_next names q) (length names)) refl
  where
    more : length (names ++ p ∷ []) ≡ length names + 1
    more = long names p

    last : length names ≤ number_or_next names p → length names ≤ number_or_next names q → (b : Bool) → bytes_eq q p ≡ b
        → KeptOrLast names p q
    last grows past true e =
        let at = place_behind names p q past ∙ ap (λ b. length names + cond b 0 1) e in
        let same : number_or_next (names ++ p ∷ []) q ≡ length names = omega arith in
        inr (
          absent names q past,
          ap (λ ns. number_among ns q) (growth names p grows)
              ∙ here (names ++ p ∷ []) q (omega (arith, more)) ∙ ap Some same,
        )
    last grows past false e =
        let at = place_behind names p q past ∙ ap (λ b. length names + cond b 0 1) e in
        inl
        (ap (λ ns. number_among ns q) (growth names p grows)
        ∙ absent (names ++ p ∷ []) q (omega (arith, more))
        ∙ sym (absent names q past))

    by : (b : Bool) → nat_lt (number_or_next names p) (length names) ≡ b → (d : Bool)
        → nat_lt (number_or_next names q) (length names) ≡ d
        → KeptOrLast names p q
    by true e d f =
        inl (ap (λ ns. number_among ns q) (no_growth names p (test_lt (number_or_next names p) (length names) e)))
    by false e true f =
        let grows = test_ge (number_or_next names p) (length names) e in
        let within = test_lt (number_or_next names q) (length names) f in
        let at = place_before names p q within in
        inl
        (ap (λ ns. number_among ns q) (growth names p grows)
        ∙ here (names ++ p ∷ []) q (omega (arith, more))
        ∙ ap Some at
        ∙ sym (here names q within))
    by false e false f =
        last (test_ge (number_or_next names p) (length names) e) (test_ge (number_or_next names q) (length names) f)
        (bytes_eq q p) refl

-- A number never changes.
pub stays : (names : List Bytes) (p q : Bytes) (n : ℕ) → number_among names q ≡ Some n
    → number_among (with_new_name names p) q ≡ Some n
stays names p q n is = by (kept_or_last names p q)
  where
    by : KeptOrLast names p q → number_among (with_new_name names p) q ≡ Some n
    by (inl kept) = kept ∙ is
    by (inr last) = absurd (none_is n (sym last.0 ∙ is))
