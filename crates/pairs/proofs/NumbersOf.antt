-- The numbers of a text, the texts of a number, and pairs without a text or a number.
use Rattle.std.proofs.Common.{◌≡◌, ℕ, List, [], ◌∷◌, Bool, true, false, cond, not, ◌||◌, ◌&&◌, refl, sym, ap, ◌∙◌, map}
use mathlib.Core.Bool.{and-true, and-false, true≢false}
use Rattle.std.specs.List.{list_any, filter}
use Rattle.std.specs.Ordering.{eq_by_cmp, nat_cmp}
use Rattle.std.specs.Cmp.{nat_cmp_total}
use Rattle.std.proofs.lemmas.Map.Lookups.{exact_unsigned, exact_bytes}
use Rattle.std.specs.FinSet as set
use Rattle.pairs.proofs.Ties.{tied_then}
use Rattle.pairs.specs.Pairs.{Bytes, text_cmp, pair_cmp, Numbers, TextKeys, TextPairs, same_text, same_number, numbers_at, texts_at, without_text, without_number, keys_in}
use Rattle.pairs.proofs.Keys.{has-key}
use Rattle.pairs.proofs.Totals.{text_total, pair_exact}

pub any-number : (text : Bytes) (c : ℕ) (ps : List (Bytes × ℕ))
    → list_any (eq_by_cmp nat_cmp c) (map (λ (p : Bytes × ℕ). p.1) (filter (λ (p : Bytes × ℕ). same_text text p.0) ps))
    ≡ list_any (eq_by_cmp (pair_cmp text_cmp nat_cmp) (text, c)) ps
any-number text c [] = refl
any-number text c (p ∷ ps) =
    by (same_text text p.0) ∙ (λ i. sym (tied_then (text_cmp text p.0) (nat_cmp c p.1)) i || any-number text c ps i)
  where
    by : (b : Bool) → list_any (eq_by_cmp nat_cmp c) (map (λ (p : Bytes × ℕ). p.1)
        (cond b (p ∷ filter (λ (p : Bytes × ℕ). same_text text p.0) ps)
        (filter (λ (p : Bytes × ℕ). same_text text p.0) ps)))
        ≡ ((b && eq_by_cmp nat_cmp c p.1) || list_any (eq_by_cmp nat_cmp c)
        (map (λ (p : Bytes × ℕ). p.1) (filter (λ (p : Bytes × ℕ). same_text text p.0) ps)))
    by true = refl
    by false = refl

pub contains-numbers : (text : Bytes) (pairs : TextPairs) (c : ℕ)
    → set.contains (numbers_at text pairs) c ≡ set.contains pairs (text, c)
contains-numbers text pairs c =
    set.contains-from_list nat_cmp_total (map (λ (p : Bytes × ℕ). p.1)
    (filter (λ (p : Bytes × ℕ). same_text text p.0) (set.items pairs))) c
    ∙ any-number text c (set.items pairs)
    ∙ sym (set.contains-items pairs (text, c))

pub contains-without_text : (text : Bytes) (pairs : TextPairs) (q : Bytes × ℕ)
    → set.contains (without_text text pairs) q ≡ (set.contains pairs q && not (same_text text q.0))
contains-without_text text pairs q =
    set.contains-retain pairs (λ (p : Bytes × ℕ). not (same_text text p.0)) q
    (λ x tie. ap (λ (p : Bytes × ℕ). not (same_text text p.0)) (sym (pair_exact q x tie)))

pub contains-without_number : (number : ℕ) (pairs : TextPairs) (q : Bytes × ℕ)
    → set.contains (without_number number pairs) q ≡
    (set.contains pairs q && not (same_number number q.1))
contains-without_number number pairs q =
    set.contains-retain pairs (λ (p : Bytes × ℕ). not (same_number number p.1)) q
    (λ x tie. ap (λ (p : Bytes × ℕ). not (same_number number p.1)) (sym (pair_exact q x tie)))

-- A set that has exactly the numbers as members.
pub are_numbers : (text : Bytes) (pairs : TextPairs) (numbers : Numbers)
    → ((c : ℕ) → set.contains numbers c ≡ set.contains pairs (text, c)) → numbers ≡ numbers_at text pairs
are_numbers text pairs numbers is =
    set.same_set nat_cmp_total exact_unsigned _ _ (λ c. is c ∙ sym (contains-numbers text pairs c))

pub no_number : (text : Bytes) (pairs : TextPairs) → ((c : ℕ) → set.contains pairs (text, c) ≡ false)
    → numbers_at text pairs ≡ set.empty
no_number text pairs none = sym (are_numbers text pairs set.empty (λ c. set.contains-empty nat_cmp c ∙ sym (none c)))

-- ---- the texts of a number

any-text : (number : ℕ) (t : Bytes) (ps : List (Bytes × ℕ))
    → list_any (eq_by_cmp text_cmp t) (map (λ (p : Bytes × ℕ). p.0) (filter (λ (p : Bytes × ℕ). same_number number p.1) ps))
    ≡ list_any (eq_by_cmp (pair_cmp text_cmp nat_cmp) (t, number)) ps
any-text number t [] = refl
any-text number t (p ∷ ps) =
    by (eq_by_cmp text_cmp t p.0) (same_number number p.1)
    ∙ (λ i. sym (tied_then (text_cmp t p.0) (nat_cmp number p.1)) i || any-text number t ps i)
  where
    by : (a b : Bool) → list_any (eq_by_cmp text_cmp t) (map (λ (p : Bytes × ℕ). p.0)
        (cond b (p ∷ filter (λ (p : Bytes × ℕ). same_number number p.1) ps)
        (filter (λ (p : Bytes × ℕ). same_number number p.1) ps)))
        ≡ ((eq_by_cmp text_cmp t p.0 && b) || list_any (eq_by_cmp text_cmp t)
        (map (λ (p : Bytes × ℕ). p.0) (filter (λ (p : Bytes × ℕ). same_number number p.1) ps)))
    by a true = ap (λ x. x || list_any (eq_by_cmp text_cmp t) (map (λ (p : Bytes × ℕ). p.0)
        (filter (λ (p : Bytes × ℕ). same_number number p.1) ps))) (sym (and-true (eq_by_cmp text_cmp t p.0)))
    by a false = ap (λ x. x || list_any (eq_by_cmp text_cmp t) (map (λ (p : Bytes × ℕ). p.0)
        (filter (λ (p : Bytes × ℕ). same_number number p.1) ps))) (sym (and-false (eq_by_cmp text_cmp t p.0)))

pub contains-texts : (number : ℕ) (pairs : TextPairs) (t : Bytes)
    → set.contains (texts_at number pairs) t ≡ set.contains pairs (t, number)
contains-texts number pairs t =
    set.contains-from_list text_total (map (λ (p : Bytes × ℕ). p.0)
    (filter (λ (p : Bytes × ℕ). same_number number p.1) (set.items pairs))) t
    ∙ any-text number t (set.items pairs)
    ∙ sym (set.contains-items pairs (t, number))

-- A set that has exactly the texts as members.
pub are_texts : (number : ℕ) (pairs : TextPairs) (texts : TextKeys)
    → ((t : Bytes) → set.contains texts t ≡ set.contains pairs (t, number)) → texts ≡ texts_at number pairs
are_texts number pairs texts is =
    set.same_set text_total exact_bytes _ _ (λ t. is t ∙ sym (contains-texts number pairs t))

pub no_text : (number : ℕ) (pairs : TextPairs) → ((t : Bytes) → set.contains pairs (t, number) ≡ false)
    → texts_at number pairs ≡ set.empty
no_text number pairs none =
    sym (are_texts number pairs set.empty (λ t. set.contains-empty text_cmp t ∙ sym (none t)))

-- A text that isn't the first part of a pair has no number.
pub unlisted : (text : Bytes) (pairs : TextPairs) → set.contains (keys_in text_cmp pairs) text ≡ false
    → numbers_at text pairs ≡ set.empty
unlisted text pairs none = no_number text pairs (λ n. by n (set.contains pairs (text, n)) refl)
  where
    by : (n : ℕ) (b : Bool) → set.contains pairs (text, n) ≡ b → set.contains pairs (text, n) ≡ false
    by n true e =
        absurd (true≢false
        (sym (has-key text_total nat_cmp_total exact_bytes exact_unsigned pairs text n e) ∙ none))
    by n false e = e
