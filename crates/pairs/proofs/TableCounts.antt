-- The counts of pairs: those of a text and of a number, and how many numbers have a text.
use Rattle.std.proofs.Common.{◌≡◌, ℕ, ◌-◌, ◌≤◌, List, [], ◌∷◌, Bool, true, false, ◌||◌, ◌&&◌, refl, sym, ap, ◌∙◌, map, arith}
use mathlib.Core.Bool.{and-true, and-false}
use Rattle.std.specs.List.{list_any}
use Rattle.std.specs.Ordering.{eq_by_cmp, is_eq, nat_cmp}
use Rattle.std.specs.Cmp.{nat_cmp_total, eq_by_cmp_equiv, tied_itself}
use Rattle.std.proofs.lemmas.Map.Views.{tells_apart}
use Rattle.std.proofs.lemmas.Map.Lookups.{exact_unsigned, exact_bytes}
use Rattle.std.specs.FinSet as set
use Rattle.pairs.proofs.Ties.{tied_then}
use Rattle.pairs.specs.Pairs.{Bytes, TextKeys, Numbers, TextPairs, pair_cmp, text_cmp, numbers_at, pairs_of_number, without_text, without_number, same_text, same_number, keys_in, keys_beyond, numbers_in, numbers_beyond}
use Rattle.pairs.specs.Inner.Stored.{NumberPairs, AgreeOn}
use Rattle.pairs.proofs.Totals.{text_total, pair_total, pair_exact}
use Rattle.pairs.proofs.NumbersOf.{contains-numbers}
use Rattle.pairs.proofs.SetCounts.{contains-kept, len-image, len-parts}
use Rattle.pairs.proofs.Keys.{same-keys}
use Rattle.pairs.proofs.Tables.{turned}

-- ---- the pairs of a number

pub any-of_number : (q : Bytes) (d c : ℕ) (ps : List Bytes)
    → list_any (eq_by_cmp (pair_cmp text_cmp nat_cmp) (q, d)) (map (λ (p : Bytes). (p, c)) ps)
    ≡ (list_any (eq_by_cmp text_cmp q) ps && eq_by_cmp nat_cmp d c)
any-of_number q d c [] = refl
any-of_number q d c (p ∷ ps) =
    (λ i. tied_then (text_cmp q p) (nat_cmp d c) i || any-of_number q d c ps i)
    ∙ by (eq_by_cmp text_cmp q p) (list_any (eq_by_cmp text_cmp q) ps) (eq_by_cmp nat_cmp d c)
  where
    by : (a b k : Bool) → ((a && k) || (b && k)) ≡ ((a || b) && k)
    by true true true = refl
    by true true false = refl
    by true false true = refl
    by true false false = refl
    by false b k = refl

-- As many pairs as texts.
pub len-texts : (pairs : TextPairs) (turn : NumberPairs) (c : ℕ) (texts : TextKeys) → AgreeOn pairs turn
    → ((p : Bytes) → set.contains texts p ≡ set.contains turn (c, p)) → set.len texts ≡ set.len (pairs_of_number c pairs)
len-texts pairs turn c texts agree is =
    sym (len-image text_total exact_bytes pair_total (λ (p : Bytes). (p, c)) alike texts)
    ∙ ap set.len (set.same_set pair_total pair_exact _ _ (λ r. each r.0 r.1))
  where
    alike : (a b : Bytes) → eq_by_cmp (pair_cmp text_cmp nat_cmp) (a, c) (b, c) ≡ eq_by_cmp text_cmp a b
    alike a b =
        tied_then (text_cmp a b) (nat_cmp c c)
        ∙ ap (λ r. eq_by_cmp text_cmp a b && is_eq r) (tied_itself nat_cmp_total c)
        ∙ and-true (eq_by_cmp text_cmp a b)

    by : (q : Bytes) (d : ℕ) (t : Bool) → eq_by_cmp nat_cmp d c ≡ t
        → (set.contains pairs (q, c) && t) ≡ (set.contains pairs (q, d) && t)
    by q d true e = ap (λ x. set.contains pairs (q, x) && true) (sym (tells_apart exact_unsigned d c e))
    by q d false e = and-false (set.contains pairs (q, c)) ∙ sym (and-false (set.contains pairs (q, d)))

    each : (q : Bytes) (d : ℕ)
        → set.contains (set.from_list {R = pair_cmp text_cmp nat_cmp} (map (λ (p : Bytes). (p, c)) (set.items texts))) (q, d)
        ≡ set.contains (pairs_of_number c pairs) (q, d)
    each q d =
        set.contains-from_list pair_total (map (λ (p : Bytes). (p, c)) (set.items texts)) (q, d)
        ∙ any-of_number q d c (set.items texts)
        ∙ ap (λ b. b && eq_by_cmp nat_cmp d c) (sym (set.contains-items texts q) ∙ is q ∙ sym (agree q c))
        ∙ by q d (eq_by_cmp nat_cmp d c) refl
        ∙ ap (λ b. set.contains pairs (q, d) && b) ((eq_by_cmp_equiv nat_cmp_total).symm d c)
        ∙ sym (contains-kept pair_total pair_exact pairs (λ (p : Bytes × ℕ). same_number c p.1) (q, d))

pub no-texts : (pairs : TextPairs) (turn : NumberPairs) (c : ℕ) → AgreeOn pairs turn
    → ((p : Bytes) → set.contains turn (c, p) ≡ false) → 0 ≡ set.len (pairs_of_number c pairs)
no-texts pairs turn c agree none =
    sym (set.len-empty text_cmp)
    ∙ len-texts pairs turn c set.empty agree (λ p. set.contains-empty text_cmp p ∙ sym (none p))

pub texts-within : (pairs : TextPairs) (turn : NumberPairs) (c : ℕ) (texts : TextKeys) (count some : ℕ) → AgreeOn pairs turn
    → ((p : Bytes) → set.contains texts p ≡ set.contains turn (c, p)) → count ≡ set.len pairs → some ≡ set.len texts
    → some ≤ count
texts-within pairs turn c texts count some agree is all part =
    omega (
      arith,
      all,
      part,
      len-texts pairs turn c texts agree is,
      len-parts pair_total pair_exact (λ (p : Bytes × ℕ). same_number c p.1) pairs,
    )

pub texts-less : (pairs : TextPairs) (turn : NumberPairs) (c : ℕ) (texts : TextKeys) (count some : ℕ) → AgreeOn pairs turn
    → ((p : Bytes) → set.contains texts p ≡ set.contains turn (c, p)) → count ≡ set.len pairs → some ≡ set.len texts
    → count - some ≡ set.len (without_number c pairs)
texts-less pairs turn c texts count some agree is all part =
    omega (
      arith,
      all,
      part,
      len-texts pairs turn c texts agree is,
      len-parts pair_total pair_exact (λ (p : Bytes × ℕ). same_number c p.1) pairs,
    )

-- ---- the pairs of a text

any-of_text : (p q : Bytes) (d : ℕ) (cs : List ℕ)
    → list_any (eq_by_cmp (pair_cmp text_cmp nat_cmp) (q, d)) (map (λ (c : ℕ). (p, c)) cs)
    ≡ (eq_by_cmp text_cmp q p && list_any (eq_by_cmp nat_cmp d) cs)
any-of_text p q d [] = sym (and-false (eq_by_cmp text_cmp q p))
any-of_text p q d (c ∷ cs) =
    (λ i. tied_then (text_cmp q p) (nat_cmp d c) i || any-of_text p q d cs i)
    ∙ by (eq_by_cmp text_cmp q p) (eq_by_cmp nat_cmp d c) (list_any (eq_by_cmp nat_cmp d) cs)
  where
    by : (k a b : Bool) → ((k && a) || (k && b)) ≡ (k && (a || b))
    by true a b = refl
    by false a b = refl

-- As many pairs as numbers.
len-numbers : (pairs : TextPairs) (p : Bytes) (numbers : Numbers) → numbers ≡ numbers_at p pairs
    → set.len numbers ≡ set.len (set.retain pairs (λ (r : Bytes × ℕ). same_text p r.0))
len-numbers pairs p numbers is =
    sym (len-image nat_cmp_total exact_unsigned pair_total (λ (c : ℕ). (p, c)) alike numbers)
    ∙ ap set.len (set.same_set pair_total pair_exact _ _ (λ r. each r.0 r.1))
  where
    alike : (a b : ℕ) → eq_by_cmp (pair_cmp text_cmp nat_cmp) (p, a) (p, b) ≡ eq_by_cmp nat_cmp a b
    alike a b =
        tied_then (text_cmp p p) (nat_cmp a b)
        ∙ ap (λ r. is_eq r && eq_by_cmp nat_cmp a b) (tied_itself text_total p)

    by : (q : Bytes) (d : ℕ) (t : Bool) → eq_by_cmp text_cmp q p ≡ t
        → (t && set.contains pairs (p, d)) ≡ (set.contains pairs (q, d) && t)
    by q d true e =
        ap (λ x. set.contains pairs (x, d)) (sym (tells_apart exact_bytes q p e))
        ∙ sym (and-true (set.contains pairs (q, d)))
    by q d false e = sym (and-false (set.contains pairs (q, d)))

    each : (q : Bytes) (d : ℕ)
        → set.contains (set.from_list {R = pair_cmp text_cmp nat_cmp} (map (λ (c : ℕ). (p, c)) (set.items numbers))) (q, d)
        ≡ set.contains (set.retain pairs (λ (r : Bytes × ℕ). same_text p r.0)) (q, d)
    each q d =
        set.contains-from_list pair_total (map (λ (c : ℕ). (p, c)) (set.items numbers)) (q, d)
        ∙ any-of_text p q d (set.items numbers)
        ∙ ap (λ b. eq_by_cmp text_cmp q p && b)
        (sym (set.contains-items numbers d) ∙ ap (λ s. set.contains s d) is ∙ contains-numbers p pairs d)
        ∙ by q d (eq_by_cmp text_cmp q p) refl
        ∙ ap (λ b. set.contains pairs (q, d) && b) ((eq_by_cmp_equiv text_total).symm q p)
        ∙ sym (contains-kept pair_total pair_exact pairs (λ (r : Bytes × ℕ). same_text p r.0) (q, d))

pub numbers-within : (pairs : TextPairs) (p : Bytes) (numbers : Numbers) (count some : ℕ)
    → numbers ≡ numbers_at p pairs → count ≡ set.len pairs → some ≡ set.len numbers → some ≤ count
numbers-within pairs p numbers count some is all part =
    omega (
      arith,
      all,
      part,
      len-numbers pairs p numbers is,
      len-parts pair_total pair_exact (λ (r : Bytes × ℕ). same_text p r.0) pairs,
    )

pub numbers-less : (pairs : TextPairs) (p : Bytes) (numbers : Numbers) (count some : ℕ)
    → numbers ≡ numbers_at p pairs → count ≡ set.len pairs → some ≡ set.len numbers
    → count - some ≡ set.len (without_text p pairs)
numbers-less pairs p numbers count some is all part =
    omega (
      arith,
      all,
      part,
      len-numbers pairs p numbers is,
      len-parts pair_total pair_exact (λ (r : Bytes × ℕ). same_text p r.0) pairs,
    )

-- ---- the numbers that have a text

abbrev swapped : List (Bytes × ℕ) → List (ℕ × Bytes)
swapped ps = map (λ (p : Bytes × ℕ). (p.1, p.0)) ps

any-swapped : (r : ℕ × Bytes) (ps : List (Bytes × ℕ))
    → list_any (eq_by_cmp (pair_cmp nat_cmp text_cmp) r) (swapped ps) ≡ list_any (eq_by_cmp (pair_cmp text_cmp nat_cmp) (r.1, r.0)) ps
any-swapped r [] = refl
any-swapped r (p ∷ ps) = (λ i. sym (turned r.1 p.0 r.0 p.1) i || any-swapped r ps i)

any-second : (d : ℕ) (ps : List (Bytes × ℕ))
    → list_any (eq_by_cmp nat_cmp d) (map (λ (p : Bytes × ℕ). p.1) ps)
    ≡ list_any (eq_by_cmp nat_cmp d) (map (λ (r : ℕ × Bytes). r.0) (swapped ps))
any-second d [] = refl
any-second d (p ∷ ps) = ap (λ b. eq_by_cmp nat_cmp d p.1 || b) (any-second d ps)

pub alike-numbers : (pairs : TextPairs) (turn : NumberPairs) → AgreeOn pairs turn
    → keys_in nat_cmp turn ≡ numbers_in pairs
alike-numbers pairs turn agree = set.same_set nat_cmp_total exact_unsigned _ _ (λ d.
    set.contains-from_list nat_cmp_total (map (λ (r : ℕ × Bytes). r.0) (set.items turn)) d
    ∙ same-keys nat_cmp_total text_total exact_unsigned exact_bytes (set.items turn) (swapped (set.items pairs))
    (λ r. sym (set.contains-items turn r) ∙ sym (agree r.1 r.0) ∙ set.contains-items pairs (r.1, r.0)
    ∙ sym (any-swapped r (set.items pairs))) d
    ∙ sym (any-second d (set.items pairs))
    ∙ sym (set.contains-from_list nat_cmp_total (map (λ (p : Bytes × ℕ). p.1) (set.items pairs)) d))

pub same-beyond : (p1 p2 p3 p4 : TextPairs) (t1 t2 t3 t4 : NumberPairs) → AgreeOn p1 t1 → AgreeOn p2 t2 → AgreeOn p3 t3
    → AgreeOn p4 t4
    → keys_beyond nat_cmp t1 t2 t3 t4 ≡ numbers_beyond p1 p2 p3 p4
same-beyond p1 p2 p3 p4 t1 t2 t3 t4 a1 a2 a3 a4 =
    λ i. set.difference (alike-numbers p1 t1 a1 i)
    (set.union (alike-numbers p2 t2 a2 i) (set.union (alike-numbers p3 t3 a3 i) (alike-numbers p4 t4 a4 i)))
