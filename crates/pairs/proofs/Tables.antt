-- Pairs by text and by number.
use Rattle.std.proofs.Common.{◌≡◌, ℕ, List, [], ◌∷◌, Bool, true, false, not, ◌||◌, ◌&&◌, refl, sym, ap, ◌∙◌, map}
use mathlib.Core.Bool.{and-true, and-false}
use Rattle.std.specs.List.{list_any}
use Rattle.std.specs.Ordering.{eq_by_cmp, nat_cmp}
use Rattle.std.specs.Cmp.{nat_cmp_total, eq_by_cmp_equiv}
use Rattle.std.proofs.lemmas.Map.Views.{tells_apart}
use Rattle.std.proofs.lemmas.Map.Lookups.{exact_unsigned, exact_bytes}
use Rattle.std.specs.FinSet as set
use Rattle.pairs.proofs.Ties.{tied_then}
use Rattle.pairs.proofs.Grouped.{any-append}
use Rattle.pairs.specs.Pairs.{Bytes, TextKeys, Numbers, TextPairs, pair_cmp, text_cmp, numbers_at, texts_at, without_text, without_number, same_text, same_number, listed_pairs}
use Rattle.pairs.specs.Inner.Stored.{NumberPairs, all_pairs, AgreeOn, HasLostTexts, HasLostNumbers, without_key}
use Rattle.pairs.proofs.Totals.{text_total, pair_total, pair_exact, turned_total, turned_exact}
use Rattle.pairs.proofs.NumbersOf.{contains-numbers, contains-without_text, contains-without_number, are_texts, no_text}

pub turned : (q p : Bytes) (d c : ℕ) → eq_by_cmp (pair_cmp text_cmp nat_cmp) (q, d) (p, c)
    ≡ eq_by_cmp (pair_cmp nat_cmp text_cmp) (d, q) (c, p)
turned q p d c =
    tied_then (text_cmp q p) (nat_cmp d c) ∙ and_comm (eq_by_cmp text_cmp q p) (eq_by_cmp nat_cmp d c)
    ∙ sym (tied_then (nat_cmp d c) (text_cmp q p))
  where
    and_comm : (a b : Bool) → (a && b) ≡ (b && a)
    and_comm true true = refl
    and_comm true false = refl
    and_comm false true = refl
    and_comm false false = refl

pub agree-empty : AgreeOn set.empty set.empty
agree-empty text number =
    set.contains-empty (pair_cmp text_cmp nat_cmp) (text, number) ∙ sym
    (set.contains-empty (pair_cmp nat_cmp text_cmp) (number, text))

pub agree-insert : (pairs : TextPairs) (turn : NumberPairs) (p : Bytes) (c : ℕ) → AgreeOn pairs turn
    → AgreeOn (set.insert pairs (p, c)) (set.insert turn (c, p))
agree-insert pairs turn p c agree q d =
    set.contains-insert pair_total pairs (p, c) (q, d)
    ∙ (λ i. turned q p d c i || agree q d i)
    ∙ sym (set.contains-insert turned_total turn (c, p) (d, q))

pub agree-remove : (pairs : TextPairs) (turn : NumberPairs) (p : Bytes) (c : ℕ) → AgreeOn pairs turn
    → AgreeOn (set.remove pairs (p, c)) (set.remove turn (c, p))
agree-remove pairs turn p c agree q d =
    set.contains-remove pair_total pairs (p, c) (q, d)
    ∙ (λ i. not (turned q p d c i) && agree q d i)
    ∙ sym (set.contains-remove turned_total turn (c, p) (d, q))

-- Without the text at each of the numbers.
abbrev pub without_numbers : Bytes → List ℕ → NumberPairs → NumberPairs
without_numbers text [] pairs = pairs
without_numbers text (number ∷ numbers) pairs = without_numbers text numbers (set.remove pairs (number, text))

-- Without the number at each of the texts.
abbrev pub without_texts : ℕ → List Bytes → TextPairs → TextPairs
without_texts number [] pairs = pairs
without_texts number (text ∷ texts) pairs = without_texts number texts (set.remove pairs (text, number))

contains-without_numbers : (p : Bytes) (cs : List ℕ) (turn : NumberPairs) (d : ℕ) (q : Bytes)
    → set.contains (without_numbers p cs turn) (d, q)
    ≡ (set.contains turn (d, q) && not (eq_by_cmp text_cmp q p && list_any (eq_by_cmp nat_cmp d) cs))
contains-without_numbers p [] turn d q = by (set.contains turn (d, q)) (eq_by_cmp text_cmp q p)
  where
    by : (b x : Bool) → b ≡ (b && not (x && false))
    by true true = refl
    by true false = refl
    by false x = refl
contains-without_numbers p (c ∷ cs) turn d q =
    contains-without_numbers p cs (set.remove turn (c, p)) d q
    ∙ ap (λ b. b && not (eq_by_cmp text_cmp q p && list_any (eq_by_cmp nat_cmp d) cs))
    (set.contains-remove turned_total turn (c, p) (d, q)
    ∙ ap (λ b. not b && set.contains turn (d, q)) (tied_then (nat_cmp d c) (text_cmp q p)))
    ∙ by (eq_by_cmp nat_cmp d c) (eq_by_cmp text_cmp q p) (set.contains turn (d, q)) (list_any (eq_by_cmp nat_cmp d) cs)
  where
    by : (x y b z : Bool) → ((not (x && y) && b) && not (y && z)) ≡ (b && not (y && (x || z)))
    by true true true z = refl
    by true true false z = refl
    by true false true z = refl
    by true false false z = refl
    by false y true z = refl
    by false y false z = refl

contains-without_texts : (c : ℕ) (ps : List Bytes) (pairs : TextPairs) (q : Bytes) (d : ℕ)
    → set.contains (without_texts c ps pairs) (q, d)
    ≡ (set.contains pairs (q, d) && not (eq_by_cmp nat_cmp d c && list_any (eq_by_cmp text_cmp q) ps))
contains-without_texts c [] pairs q d = by (set.contains pairs (q, d)) (eq_by_cmp nat_cmp d c)
  where
    by : (b x : Bool) → b ≡ (b && not (x && false))
    by true true = refl
    by true false = refl
    by false x = refl
contains-without_texts c (p ∷ ps) pairs q d =
    contains-without_texts c ps (set.remove pairs (p, c)) q d
    ∙ ap (λ b. b && not (eq_by_cmp nat_cmp d c && list_any (eq_by_cmp text_cmp q) ps))
    (set.contains-remove pair_total pairs (p, c) (q, d)
    ∙ ap (λ b. not b && set.contains pairs (q, d)) (tied_then (text_cmp q p) (nat_cmp d c)))
    ∙ by (eq_by_cmp text_cmp q p) (eq_by_cmp nat_cmp d c) (set.contains pairs (q, d))
    (list_any (eq_by_cmp text_cmp q) ps)
  where
    by : (x y b z : Bool) → ((not (x && y) && b) && not (y && z)) ≡ (b && not (y && (x || z)))
    by true true true z = refl
    by true true false z = refl
    by true false true z = refl
    by true false false z = refl
    by false y true z = refl
    by false y false z = refl

-- Removal at one key only where the pair is there.
there : (t b c : Bool) → (t ≡ true → b ≡ c) → (b && not (t && c)) ≡ (b && not t)
there true b c same = ap (λ x. x && not c) (same refl) ∙ by c ∙ sym (and-false b)
  where
    by : (x : Bool) → (x && not x) ≡ false
    by true = refl
    by false = refl
there false b c same = refl

-- After a loop over the numbers, or over the texts.
pub lost-numbers : (p : Bytes) (cs : List ℕ) (numbers : Numbers) (old new : NumberPairs)
    → new ≡ without_numbers p cs old → ((d : ℕ) → list_any (eq_by_cmp nat_cmp d) cs ≡ set.contains numbers d)
    → HasLostNumbers p numbers old new
lost-numbers p cs numbers old new is listed d q =
    ap (λ s. set.contains s (d, q)) is
    ∙ contains-without_numbers p cs old d q
    ∙ ap (λ b. set.contains old (d, q) && not (eq_by_cmp text_cmp q p && b)) (listed d)

pub lost-texts : (c : ℕ) (ps : List Bytes) (texts : TextKeys) (old new : TextPairs)
    → new ≡ without_texts c ps old → ((q : Bytes) → list_any (eq_by_cmp text_cmp q) ps ≡ set.contains texts q)
    → HasLostTexts c texts old new
lost-texts c ps texts old new is listed q d =
    ap (λ s. set.contains s (q, d)) is
    ∙ contains-without_texts c ps old q d
    ∙ ap (λ b. set.contains old (q, d) && not (eq_by_cmp nat_cmp d c && b)) (listed q)

-- No number, or one.
pub lost-no_number : (p : Bytes) (numbers : Numbers) (old new : NumberPairs) → numbers ≡ set.empty → new ≡ old
    → HasLostNumbers p numbers old new
lost-no_number p numbers old new none is =
    lost-numbers p [] numbers old new is (λ d. sym (ap (λ s. set.contains s d) none ∙ set.contains-empty nat_cmp d))

pub lost-one_number : (p : Bytes) (c : ℕ) (numbers : Numbers) (old new : NumberPairs)
    → numbers ≡ set.insert set.empty c → new ≡ set.remove old (c, p) → HasLostNumbers p numbers old new
lost-one_number p c numbers old new one is =
    lost-numbers p (c ∷ []) numbers old new is (λ d. sym (ap (λ s. set.contains s d) one
    ∙ set.contains-insert nat_cmp_total set.empty c d
    ∙ ap (λ b. eq_by_cmp nat_cmp d c || b) (set.contains-empty nat_cmp d)))

-- The text is removed at each of its numbers.
pub agree-without_text : (pairs : TextPairs) (turn after : NumberPairs) (p : Bytes) (numbers : Numbers)
    → AgreeOn pairs turn → numbers ≡ numbers_at p pairs → HasLostNumbers p numbers turn after
    → AgreeOn (without_text p pairs) after
agree-without_text pairs turn after p numbers agree is lost q d =
    contains-without_text p pairs (q, d)
    ∙ ap (λ b. set.contains pairs (q, d) && not b) ((eq_by_cmp_equiv text_total).symm p q)
    ∙ sym (there (eq_by_cmp text_cmp q p) (set.contains pairs (q, d)) (set.contains pairs (p, d))
    (λ t. ap (λ x. set.contains pairs (x, d)) (tells_apart exact_bytes q p t)))
    ∙ (λ i. agree q d i && not (eq_by_cmp text_cmp q p && sym listed i))
    ∙ sym (lost d q)
  where
    listed : set.contains numbers d ≡ set.contains pairs (p, d)
    listed = ap (λ s. set.contains s d) is ∙ contains-numbers p pairs d

-- A text without a number.
pub textless : (p : Bytes) (pairs : TextPairs) → numbers_at p pairs ≡ set.empty → pairs ≡ without_text p pairs
textless p pairs none =
    set.same_set pair_total pair_exact _ _ (λ r. by r.0 r.1 (same_text p r.0) refl
    ∙ sym (contains-without_text p pairs r))
  where
    by : (q : Bytes) (d : ℕ) (t : Bool) → same_text p q ≡ t
        → set.contains pairs (q, d) ≡ (set.contains pairs (q, d) && not t)
    by q d true e =
        let out : set.contains pairs (q, d) ≡ false =
        ap (λ x. set.contains pairs (x, d)) (sym (tells_apart exact_bytes p q e)) ∙ sym (contains-numbers p pairs d)
        ∙ ap (λ s. set.contains s d) none ∙ set.contains-empty nat_cmp d in
        out ∙ ap (λ b. b && false) (sym out)
    by q d false e = sym (and-true (set.contains pairs (q, d)))

-- The number is removed at each of its texts.
pub are_dropped : (pairs after : TextPairs) (turn : NumberPairs) (c : ℕ) (texts : TextKeys) → AgreeOn pairs turn
    → ((p : Bytes) → set.contains texts p ≡ set.contains turn (c, p)) → HasLostTexts c texts pairs after
    → after ≡ without_number c pairs
are_dropped pairs after turn c texts agree is lost = set.same_set pair_total pair_exact _ _ (λ r. each r.0 r.1)
  where
    each : (q : Bytes) (d : ℕ) → set.contains after (q, d) ≡ set.contains (without_number c pairs) (q, d)
    each q d =
        lost q d
        ∙ ap (λ b. set.contains pairs (q, d) && not (eq_by_cmp nat_cmp d c && b)) (is q ∙ sym (agree q c))
        ∙ there (eq_by_cmp nat_cmp d c) (set.contains pairs (q, d)) (set.contains pairs (q, c))
        (λ t. ap (λ x. set.contains pairs (q, x)) (tells_apart exact_unsigned d c t))
        ∙ ap (λ b. set.contains pairs (q, d) && not b) ((eq_by_cmp_equiv nat_cmp_total).symm d c)
        ∙ sym (contains-without_number c pairs (q, d))

pub agree-without_number : (pairs : TextPairs) (turn : NumberPairs) (c : ℕ) → AgreeOn pairs turn
    → AgreeOn (without_number c pairs) (without_key c turn)
agree-without_number pairs turn c agree q d =
    contains-without_number c pairs (q, d)
    ∙ ap (λ b. b && not (same_number c d)) (agree q d)
    ∙ sym (set.contains-retain turn (λ (p : ℕ × Bytes). not (same_number c p.0)) (d, q)
    (λ x tie. ap (λ (p : ℕ × Bytes). not (same_number c p.0)) (sym (turned_exact (d, q) x tie))))

-- A number without a text.
pub numberless : (pairs : TextPairs) (turn : NumberPairs) (c : ℕ) → AgreeOn pairs turn
    → ((p : Bytes) → set.contains turn (c, p) ≡ false) → pairs ≡ without_number c pairs
numberless pairs turn c agree none =
    set.same_set pair_total pair_exact _ _ (λ r. by r.0 r.1 (same_number c r.1) refl
    ∙ sym (contains-without_number c pairs r))
  where
    by : (q : Bytes) (d : ℕ) (t : Bool) → same_number c d ≡ t
        → set.contains pairs (q, d) ≡ (set.contains pairs (q, d) && not t)
    by q d true e =
        let out : set.contains pairs (q, d) ≡ false =
        ap (λ x. set.contains pairs (q, x)) (sym (tells_apart exact_unsigned c d e)) ∙ agree q c ∙ none q in
        out ∙ ap (λ b. b && false) (sym out)
    by q d false e = sym (and-true (set.contains pairs (q, d)))

-- ---- the texts of a number

pub turned_texts : (pairs : TextPairs) (turn : NumberPairs) (c : ℕ) (texts : TextKeys) → AgreeOn pairs turn
    → ((p : Bytes) → set.contains texts p ≡ set.contains turn (c, p)) → texts ≡ texts_at c pairs
turned_texts pairs turn c texts agree is = are_texts c pairs texts (λ p. is p ∙ sym (agree p c))

pub no_turned_text : (pairs : TextPairs) (turn : NumberPairs) (c : ℕ) → AgreeOn pairs turn
    → ((p : Bytes) → set.contains turn (c, p) ≡ false) → texts_at c pairs ≡ set.empty
no_turned_text pairs turn c agree none = no_text c pairs (λ p. agree p c ∙ none p)

-- ---- all pairs

any-row : (t : Bytes) (n k : ℕ) (vs : List Bytes)
    → list_any (eq_by_cmp (pair_cmp text_cmp nat_cmp) (t, n)) (map (λ (v : Bytes). (v, k)) vs)
    ≡ list_any (eq_by_cmp (pair_cmp nat_cmp text_cmp) (n, t)) (map (λ (v : Bytes). (k, v)) vs)
any-row t n k [] = refl
any-row t n k (v ∷ vs) = λ i. turned t v n k i || any-row t n k vs i

any-listed : (t : Bytes) (n : ℕ) (es : List (ℕ × TextKeys))
    → list_any (eq_by_cmp (pair_cmp text_cmp nat_cmp) (t, n)) (listed_pairs es)
    ≡ list_any (eq_by_cmp (pair_cmp nat_cmp text_cmp) (n, t)) (all_pairs es)
any-listed t n [] = refl
any-listed t n (e ∷ es) =
    any-append (eq_by_cmp (pair_cmp text_cmp nat_cmp) (t, n)) (map (λ (v : Bytes). (v, e.0)) (set.items e.1)) (listed_pairs es)
    ∙ (λ i. any-row t n e.0 (set.items e.1) i || any-listed t n es i)
    ∙ sym (any-append (eq_by_cmp (pair_cmp nat_cmp text_cmp) (n, t)) (map (λ (v : Bytes). (e.0, v)) (set.items e.1))
    (all_pairs es))

-- The pairs that are listed number by number.
pub listed-agree : (pairs : TextPairs) (turn : NumberPairs) (es : List (ℕ × TextKeys)) → AgreeOn pairs turn
    → set.from_list (all_pairs es) ≡ turn → set.from_list (listed_pairs es) ≡ pairs
listed-agree pairs turn es agree is = set.same_set pair_total pair_exact _ _ (λ r. each r.0 r.1)
  where
    each : (t : Bytes) (n : ℕ)
        → set.contains (set.from_list {R = pair_cmp text_cmp nat_cmp} (listed_pairs es)) (t, n) ≡ set.contains pairs (t, n)
    each t n =
        set.contains-from_list pair_total (listed_pairs es) (t, n)
        ∙ any-listed t n es
        ∙ sym (set.contains-from_list turned_total (all_pairs es) (n, t))
        ∙ ap (λ s. set.contains s (n, t)) is
        ∙ sym (agree t n)
