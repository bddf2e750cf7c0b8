-- Texts in runs: one run that changes, and the place of a text among those of all runs.
use Rattle.std.proofs.Common.{◌≡◌, ℕ, zero, suc, ◌+◌, ◌-◌, ◌<◌, ◌≤◌, List, [], ◌∷◌, ◌++◌, Bool, true, false, length, take, drop, get_or, set, refl, sym, ap, subst, ◌∙◌, arith}
use mathlib.Core.Bool.{true≢false}
use Rattle.std.specs.declared.cmp.Ordering.{Ordering}
use Rattle.std.specs.declared.cmp.Ordering.TheVariants.{Less, Equal, Greater}
use Rattle.std.specs.List.{AllByRecursion, AllWithin, flat_map, insert, remove}
use Rattle.std.specs.List.Sorted.{IsStrictlySortedBy, IsPartitionedBy}
use Rattle.std.specs.Ordering.{is_lt}
use Rattle.std.proofs.lemmas.List.{append_assoc, append-nil, take-append-le, drop-append-le, length-append, length-take-le, length-drop, take-append-drop, get_or_append_left, get_or-append-add}
use Rattle.std.proofs.Math.Seq.{take-append-add, drop-append-add}
use Rattle.std.proofs.lemmas.List.Concat.{flat_map-append}
use Rattle.std.proofs.lemmas.List.Edits.{insert-append_left, insert-append_right, remove-append_left, remove-append_right}
use Rattle.ephemerals.specs.Orders.{Bytes, path_cmp}
use Rattle.ephemerals.specs.Inner.Runs.{joined, texts_before, AreFilled, AreRuns, AreBelow, AreAbove, IsAt, IsGapFor, ends_below}
use Rattle.ephemerals.proofs.Totals.{path_total}
use Rattle.ephemerals.proofs.Places.{flipped, from_greater, all_append, all_front, all_back, ascending_back, ascending_front, ascending_none}

-- ---- a run among the others

pub no_runs : AreRuns []
no_runs = record { filled = tt; ascending = ascending_none }

pub with_run : (runs : List (List Bytes)) (i : ℕ) (run : List Bytes) → i < length runs
    → joined (set runs i run) ≡ joined (take i runs) ++ (run ++ joined (drop (suc i) runs))
with_run [] i run lt = absurd (omega arith)
with_run (r ∷ runs) zero run lt = refl
with_run (r ∷ runs) (suc i) run lt =
    ap (λ ts. r ++ ts) (with_run runs i run (omega arith))
    ∙ sym (append_assoc r (joined (take i runs)) (run ++ joined (drop (suc i) runs)))

same_run : (runs : List (List Bytes)) (i : ℕ) → i < length runs → set runs i (get_or runs i []) ≡ runs
same_run [] i lt = refl
same_run (r ∷ runs) zero lt = refl
same_run (r ∷ runs) (suc i) lt = ap (λ rs. r ∷ rs) (same_run runs i (omega arith))

pub at_run : (runs : List (List Bytes)) (i : ℕ) → i < length runs
    → joined runs ≡ joined (take i runs) ++ (get_or runs i [] ++ joined (drop (suc i) runs))
at_run runs i lt = ap joined (sym (same_run runs i lt)) ∙ with_run runs i (get_or runs i []) lt

pub filled_set : (runs : List (List Bytes)) (i : ℕ) (run : List Bytes) → AreFilled runs → 0 < length run
    → AreFilled (set runs i run)
filled_set [] i run filled some = tt
filled_set (r ∷ runs) zero run filled some = (some, filled.1)
filled_set (r ∷ runs) (suc i) run filled some = (filled.0, filled_set runs i run filled.1 some)

pub filled_run : (runs : List (List Bytes)) (i : ℕ) (d : List Bytes) → AreFilled runs → i < length runs
    → 0 < length (get_or runs i d)
filled_run [] i d filled lt = absurd (omega arith)
filled_run (r ∷ runs) zero d filled lt = filled.0
filled_run (r ∷ runs) (suc i) d filled lt = filled_run runs i d filled.1 (omega arith)

pub ascending_run : (runs : List (List Bytes)) (i : ℕ) → IsStrictlySortedBy path_cmp (joined runs) → i < length runs
    → IsStrictlySortedBy path_cmp (get_or runs i [])
ascending_run [] i s lt = absurd (omega arith)
ascending_run (r ∷ runs) zero s lt = ascending_front r (joined runs) s
ascending_run (r ∷ runs) (suc i) s lt = ascending_run runs i (ascending_back r (joined runs) s) (omega arith)

-- ---- a text of one run among all texts

pub put_within : (front run back : List Bytes) (place : ℕ) (text : Bytes) → place ≤ length run
    → insert (front ++ (run ++ back)) (length front + place) text ≡ front ++ (insert run place text ++ back)
put_within front run back place text le =
    insert-append_right front (run ++ back) (length front) (length front + place) text refl (omega arith)
    ∙ ap (λ i. front ++ insert (run ++ back) i text) (there (length front) place)
    ∙ ap (λ ts. front ++ ts) (insert-append_left run back place text le)
  where
    there : (n i : ℕ) → n + i - n ≡ i
    there n i = omega arith

pub taken_within : (front run back : List Bytes) (place : ℕ) → place < length run
    → remove (front ++ (run ++ back)) (length front + place) ≡ front ++ (remove run place ++ back)
taken_within front run back place lt =
    remove-append_right front (run ++ back) (length front) (length front + place) refl (omega arith)
    ∙ ap (λ i. front ++ remove (run ++ back) i) (there (length front) place)
    ∙ ap (λ ts. front ++ ts) (remove-append_left run back place lt)
  where
    there : (n i : ℕ) → n + i - n ≡ i
    there n i = omega arith

pub at_within : (front run back : List Bytes) (place : ℕ) (text : Bytes) → IsAt text run place
    → IsAt text (front ++ (run ++ back)) (length front + place)
at_within front run back place text at = record {
  in_range = omega (arith, at.in_range, length-append front (run ++ back), length-append run back);
  is = get_or-append-add front (run ++ back) place [] ∙ get_or_append_left run back [] place at.in_range ∙ at.is;
}

pub gap_within : (front run back : List Bytes) (place : ℕ) (text : Bytes) → AreBelow text front
    → IsGapFor text run place → AreAbove text back → IsGapFor text (front ++ (run ++ back)) (length front + place)
gap_within front run back place text below gap above = record {
  in_range = omega (arith, gap.in_range, length-append front (run ++ back), length-append run back);
  below = subst (AreBelow text)
      (sym (take-append-add front (run ++ back) place ∙ ap (λ ts. front ++ ts) (take-append-le place run back gap.in_range)))
      (all_append (λ (t : Bytes). path_cmp t text ≡ Less) front (take place run) below gap.below);
  above = subst (AreAbove text)
      (sym (drop-append-add front (run ++ back) place ∙ drop-append-le place run back gap.in_range))
      (all_append (λ (t : Bytes). path_cmp text t ≡ Less) (drop place run) back gap.above above);
}

pub put_in_run : (runs : List (List Bytes)) (i place : ℕ) (text : Bytes) → i < length runs
    → place ≤ length (get_or runs i [])
    → joined (set runs i (insert (get_or runs i []) place text)) ≡ insert (joined runs) (texts_before runs i + place) text
put_in_run runs i place text lt le =
    let run = get_or runs i [] in
    let front = joined (take i runs) in
    let back = joined (drop (suc i) runs) in
    with_run runs i (insert run place text) lt
    ∙ sym (ap (λ ts. insert ts (length front + place) text) (at_run runs i lt) ∙ put_within front run back place text le)

pub taken_from_run : (runs : List (List Bytes)) (i place : ℕ) → i < length runs → place < length (get_or runs i [])
    → joined (set runs i (remove (get_or runs i []) place)) ≡ remove (joined runs) (texts_before runs i + place)
taken_from_run runs i place lt le =
    let run = get_or runs i [] in
    let front = joined (take i runs) in
    let back = joined (drop (suc i) runs) in
    with_run runs i (remove run place) lt
    ∙ sym (ap (λ ts. remove ts (length front + place)) (at_run runs i lt) ∙ taken_within front run back place le)

pub at_in_runs : (runs : List (List Bytes)) (i place : ℕ) (text : Bytes) → i < length runs
    → IsAt text (get_or runs i []) place → IsAt text (joined runs) (texts_before runs i + place)
at_in_runs runs i place text lt at =
    subst (λ (ts : List Bytes). IsAt text ts (texts_before runs i + place)) (sym (at_run runs i lt))
    (at_within (joined (take i runs)) (get_or runs i []) (joined (drop (suc i) runs)) place text at)

pub gap_in_runs : (runs : List (List Bytes)) (i place : ℕ) (text : Bytes) → i < length runs
    → AreBelow text (joined (take i runs)) → IsGapFor text (get_or runs i []) place
    → AreAbove text (joined (drop (suc i) runs)) → IsGapFor text (joined runs) (texts_before runs i + place)
gap_in_runs runs i place text lt below gap above =
    subst (λ (ts : List Bytes). IsGapFor text ts (texts_before runs i + place)) (sym (at_run runs i lt))
    (gap_within (joined (take i runs)) (get_or runs i []) (joined (drop (suc i) runs)) place text below gap above)

-- ---- runs that end below a text

pub ends_below_is : (text : Bytes) (run : List Bytes) (d : Bytes) → 0 < length run
    → ends_below text run ≡ is_lt (path_cmp (get_or run (length run - 1) d) text)
ends_below_is text [] d some = absurd (omega arith)
ends_below_is text (t ∷ []) d some = refl
ends_below_is text (t ∷ u ∷ run) d some =
    ends_below_is text (u ∷ run) d (omega arith)
    ∙ ap (λ i. is_lt (path_cmp (get_or (t ∷ u ∷ run) i d) text)) {x = suc (length (u ∷ run) - 1)} (omega arith)

lesser : (r : Ordering) → is_lt r ≡ true → r ≡ Less
lesser Less e = refl
lesser Equal e = absurd (true≢false (sym e))
lesser Greater e = absurd (true≢false (sym e))

pub all_below : (text : Bytes) (run : List Bytes) → IsStrictlySortedBy path_cmp run → ends_below text run ≡ true
    → AreBelow text run
unfolding IsStrictlySortedBy
all_below text [] s e = tt
all_below text (t ∷ []) s e = (lesser (path_cmp t text) e, tt)
all_below text (t ∷ u ∷ run) s e =
    let rest = all_below text (u ∷ run) s.1 e in
    (path_total.trans t u text s.0.0 rest.0, rest)

-- What is above a text that isn't below another one is above the other.
above_both : (t u text : Bytes) → is_lt (path_cmp t text) ≡ false → path_cmp t u ≡ Less → path_cmp text u ≡ Less
above_both t u text over l = by (path_cmp t text) refl
  where
    by : (r : Ordering) → path_cmp t text ≡ r → path_cmp text u ≡ Less
    by Less e = absurd (true≢false (sym (ap is_lt e) ∙ over))
    by Equal e = sym (path_total.congr t text u e) ∙ l
    by Greater e = path_total.trans text t u (from_greater t text e) l

all_above : (t text : Bytes) (texts : List Bytes) → is_lt (path_cmp t text) ≡ false
    → AllByRecursion (λ (u : Bytes). path_cmp t u ≡ Less) texts → AreAbove text texts
all_above t text [] over l = tt
all_above t text (u ∷ texts) over l = (above_both t u text over l.0, all_above t text texts over l.1)

pub above_last : (text : Bytes) (run back : List Bytes) → IsStrictlySortedBy path_cmp (run ++ back)
    → ends_below text run ≡ false → AreAbove text back
unfolding IsStrictlySortedBy
above_last text [] back s e = absurd (true≢false e)
above_last text (t ∷ []) back s e = all_above t text back e s.0
above_last text (t ∷ u ∷ run) back s e = above_last text (u ∷ run) back s.1 e

-- A run above the text doesn't end below it.
not_below : (text : Bytes) (run : List Bytes) → 0 < length run → AreAbove text run → ends_below text run ≡ false
not_below text [] some above = absurd (omega arith)
not_below text (t ∷ []) some above = ap is_lt (flipped text t above.0)
not_below text (t ∷ u ∷ run) some above = not_below text (u ∷ run) (omega arith) above.1

above_run : (text : Bytes) (runs : List (List Bytes)) (i : ℕ) (d : List Bytes) → i < length runs
    → AreAbove text (joined runs) → AreAbove text (get_or runs i d)
above_run text [] i d lt above = absurd (omega arith)
above_run text (r ∷ runs) zero d lt above = all_front (λ (t : Bytes). path_cmp text t ≡ Less) r (joined runs) above
above_run text (r ∷ runs) (suc i) d lt above =
    above_run text runs i d (omega arith) (all_back (λ (t : Bytes). path_cmp text t ≡ Less) r (joined runs) above)

-- Each run that ends below the text comes before those that don't.
partitioned_runs : (text : Bytes) (runs : List (List Bytes)) (d : List Bytes) → AreFilled runs
    → IsStrictlySortedBy path_cmp (joined runs) → (i j : ℕ) → i ≤ j → j < length runs
    → ends_below text (get_or runs j d) ≡ true → ends_below text (get_or runs i d) ≡ true
partitioned_runs text [] d filled s i j le lt e = absurd (omega arith)
partitioned_runs text (r ∷ runs) d filled s zero zero le lt e = e
partitioned_runs text (r ∷ runs) d filled s (suc i) zero le lt e = absurd (omega arith)
partitioned_runs text (r ∷ runs) d filled s (suc i) (suc j) le lt e =
    partitioned_runs text runs d filled.1 (ascending_back r (joined runs) s) i j (omega arith) (omega arith) e
partitioned_runs text (r ∷ runs) d filled s zero (suc j) le lt e = by (ends_below text r) refl
  where
    by : (b : Bool) → ends_below text r ≡ b → ends_below text r ≡ true
    by true f = f
    by false f =
        let some = filled_run runs j d filled.1 (omega arith) in
        let above = above_run text runs j d (omega arith) (above_last text r (joined runs) s f) in
        absurd (true≢false (sym e ∙ not_below text (get_or runs j d) some above))

pub partitioned : (text : Bytes) (runs : List (List Bytes)) → AreRuns runs → IsPartitionedBy (ends_below text) runs
partitioned text runs are i j d le lt e = partitioned_runs text runs d are.filled are.ascending i j le lt e

pub below_before : (text : Bytes) (runs : List (List Bytes)) (i : ℕ) → IsStrictlySortedBy path_cmp (joined runs)
    → i ≤ length runs → AllWithin (λ (run : List Bytes). ends_below text run ≡ true) runs 0 i
    → AreBelow text (joined (take i runs))
below_before text runs zero s le h = tt
below_before text [] (suc i) s le h = absurd (omega arith)
below_before text (r ∷ runs) (suc i) s le h =
    all_append (λ (t : Bytes). path_cmp t text ≡ Less) r (joined (take i runs))
    (all_below text r (ascending_front r (joined runs) s) (h 0 [] (omega arith) (omega arith)))
    (below_before text runs i (ascending_back r (joined runs) s) (omega arith)
    (λ k d lo hi. h (suc k) d (omega arith) (omega arith)))

pub above_after : (text : Bytes) (runs : List (List Bytes)) (i : ℕ) → IsStrictlySortedBy path_cmp (joined runs)
    → i < length runs → ends_below text (get_or runs i []) ≡ false → AreAbove text (joined (drop (suc i) runs))
above_after text [] i s lt e = absurd (omega arith)
above_after text (r ∷ runs) zero s lt e = above_last text r (joined runs) s e
above_after text (r ∷ runs) (suc i) s lt e =
    above_after text runs i (ascending_back r (joined runs) s) (omega arith) e

pub all_end_below : (text : Bytes) (runs : List (List Bytes)) → AreRuns runs → 0 < length runs
    → ((d : List Bytes) → ends_below text (get_or runs (length runs - 1) d) ≡ true)
    → AreBelow text (joined (take (length runs) runs))
all_end_below text runs are some last =
    below_before text runs (length runs) are.ascending (omega arith) (λ k d lo hi.
    partitioned_runs text runs d are.filled are.ascending k (length runs - 1) (omega arith) (omega arith) (last d))

-- ---- a run that goes, and a run in two

pub joined_without : (runs : List (List Bytes)) (i : ℕ) → i < length runs → length (get_or runs i []) ≡ 0
    → joined (remove runs i) ≡ joined runs
joined_without [] i lt none = absurd (omega arith)
joined_without ([] ∷ runs) zero lt none = refl
joined_without ((t ∷ r) ∷ runs) zero lt none = absurd (omega arith)
joined_without (r ∷ runs) (suc i) lt none = ap (λ ts. r ++ ts) (joined_without runs i (omega arith) none)

pub filled_without : (runs : List (List Bytes)) (i : ℕ) (run : List Bytes) → AreFilled runs → AreFilled (remove (set runs i run) i)
filled_without [] zero run filled = tt
filled_without [] (suc i) run filled = tt
filled_without (r ∷ runs) zero run filled = filled.1
filled_without (r ∷ runs) (suc i) run filled = (filled.0, filled_without runs i run filled.1)

pub get-set : (runs : List (List Bytes)) (i : ℕ) (run : List Bytes) → i < length runs → get_or (set runs i run) i [] ≡ run
get-set [] i run lt = absurd (omega arith)
get-set (r ∷ runs) zero run lt = refl
get-set (r ∷ runs) (suc i) run lt = get-set runs i run (omega arith)

-- The runs, with one of them in two parts.
abbrev pub parted : List (List Bytes) → ℕ → List Bytes → List Bytes → List (List Bytes)
parted runs i earlier later = take i runs ++ earlier ∷ later ∷ drop (suc i) runs

pub parted_is : (runs : List (List Bytes)) (i : ℕ) (earlier later : List Bytes) → i < length runs
    → set (insert runs (suc i) later) i earlier ≡ parted runs i earlier later
parted_is [] i earlier later lt = absurd (omega arith)
parted_is (r ∷ runs) zero earlier later lt = refl
parted_is (r ∷ runs) (suc i) earlier later lt = ap (λ rs. r ∷ rs) (parted_is runs i earlier later (omega arith))

module _ (earlier later : List Bytes) where
  pub parted_filled : (runs : List (List Bytes)) (i : ℕ) → AreFilled runs → i < length runs → 0 < length earlier
      → 0 < length later → AreFilled (parted runs i earlier later)
  parted_filled [] i filled lt some more = absurd (omega arith)
  parted_filled (r ∷ runs) zero filled lt some more = (some, (more, filled.1))
  parted_filled (r ∷ runs) (suc i) filled lt some more = (filled.0, parted_filled runs i filled.1 (omega arith) some more)

  pub parted_first : (runs : List (List Bytes)) (i : ℕ) → i < length runs
      → get_or (parted runs i earlier later) i [] ≡ earlier
  parted_first [] i lt = absurd (omega arith)
  parted_first (r ∷ runs) zero lt = refl
  parted_first (r ∷ runs) (suc i) lt = parted_first runs i (omega arith)

  pub parted_second : (runs : List (List Bytes)) (i : ℕ) → i < length runs
      → get_or (parted runs i earlier later) (suc i) [] ≡ later
  parted_second [] i lt = absurd (omega arith)
  parted_second (r ∷ runs) zero lt = refl
  parted_second (r ∷ runs) (suc i) lt = parted_second runs i (omega arith)

  pub parted_length : (runs : List (List Bytes)) (i : ℕ) → i < length runs → suc i < length (parted runs i earlier later)
  parted_length [] i lt = absurd (omega arith)
  parted_length (r ∷ runs) zero lt = omega arith
  parted_length (r ∷ runs) (suc i) lt = let rest = parted_length runs i (omega arith) in omega arith

  pub parted_joined : (runs : List (List Bytes)) (i : ℕ) → i < length runs → get_or runs i [] ≡ earlier ++ later
      → joined (parted runs i earlier later) ≡ joined runs
  parted_joined [] i lt is = absurd (omega arith)
  parted_joined (r ∷ runs) zero lt is =
      sym (append_assoc earlier later (joined runs)) ∙ ap (λ ts. ts ++ joined runs) (sym is)
  parted_joined (r ∷ runs) (suc i) lt is = ap (λ ts. r ++ ts) (parted_joined runs i (omega arith) is)

  pub parted_before : (runs : List (List Bytes)) (i : ℕ) → i < length runs
      → texts_before (parted runs i earlier later) i ≡ texts_before runs i
  parted_before [] i lt = absurd (omega arith)
  parted_before (r ∷ runs) zero lt = refl
  parted_before (r ∷ runs) (suc i) lt =
      length-append r (joined (take i (parted runs i earlier later)))
      ∙ ap (λ n. length r + n) (parted_before runs i (omega arith))
      ∙ sym (length-append r (joined (take i runs)))

  pub parted_between : (runs : List (List Bytes)) (i : ℕ) → i < length runs
      → texts_before (parted runs i earlier later) (suc i) ≡ texts_before runs i + length earlier
  parted_between [] i lt = absurd (omega arith)
  parted_between (r ∷ runs) zero lt = ap length (append-nil earlier) ∙ omega arith
  parted_between (r ∷ runs) (suc i) lt =
      let rest = parted_between runs i (omega arith) in
      let new = length-append r (joined (take (suc i) (parted runs i earlier later))) in
      let old = length-append r (joined (take i runs)) in
      omega arith

-- The runs after one of them was split.
pub record IsSplit (runs new : List (List Bytes)) (i : ℕ) : Type 0 where
  pub filled : AreFilled new
  pub first : length (get_or new i []) ≡ 32
  pub second : length (get_or new (i + 1) []) + 32 ≡ length (get_or runs i [])
  pub same : joined new ≡ joined runs
  pub before : texts_before new i ≡ texts_before runs i
  pub between : texts_before new (i + 1) ≡ texts_before runs i + 32

pub split_is : (runs new : List (List Bytes)) (i : ℕ) → AreFilled runs → i < length runs → 32 < length (get_or runs i [])
    → new ≡ take i runs ++ take 32 (get_or runs i []) ∷ drop 32 (get_or runs i []) ∷ drop (i + 1) runs
    → IsSplit runs new i
split_is runs new i filled lt len is =
    let run = get_or runs i [] in
    let earlier = take 32 run in
    let later = drop 32 run in
    let next : i + 1 ≡ suc i = omega arith in
    let whole : new ≡ parted runs i earlier later =
    is ∙ ap (λ (n : ℕ). take i runs ++ earlier ∷ later ∷ drop n runs) next in
    let first : length earlier ≡ 32 = length-take-le 32 run (omega arith) in
    let second : length later ≡ length run - 32 = length-drop 32 run in
    record {
      filled = subst AreFilled (sym whole)
          (parted_filled earlier later runs i filled lt (omega arith) (omega arith));
      first = ap (λ rs. length (get_or rs i [])) whole ∙ ap length (parted_first earlier later runs i lt) ∙ first;
      second =
          let here = ap (λ rs. length (get_or rs (i + 1) [])) whole
          ∙ ap (λ (n : ℕ). length (get_or (parted runs i earlier later) n [])) next
          ∙ ap length (parted_second earlier later runs i lt) in
          omega (arith, here);
      same = ap joined whole ∙ parted_joined earlier later runs i lt (sym (take-append-drop 32 run));
      before = ap (λ rs. texts_before rs i) whole ∙ parted_before earlier later runs i lt;
      between = ap (λ rs. texts_before rs (i + 1)) whole
          ∙ ap (λ (n : ℕ). texts_before (parted runs i earlier later) n) next
          ∙ parted_between earlier later runs i lt
          ∙ ap (λ (n : ℕ). texts_before runs i + n) first;
    }

-- A text that was put among the same texts.
pub put_alike : (new : List Bytes) (texts same : List Bytes) (m n : ℕ) (t u : Bytes) → texts ≡ same → m ≡ n → t ≡ u
    → new ≡ insert texts m t → new ≡ insert same n u
put_alike new texts same m n t u e f g is = is ∙ (λ i. insert (e i) (f i) (g i))
