-- Consequences of a board's invariant, and the parts of it that each step keeps.
use Rattle.std.proofs.Common.{◌≡◌, ◌≢◌, ℕ, zero, suc, ◌+◌, ◌<◌, ◌≤◌, min, Bool, true, false, cond, List, [], ◌∷◌, ◌++◌, length, set, sym, refl, ap, ◌∙◌, subst, ⊎_elim, arith, length-set}
use mathlib.Core.Logic.{dite}
use mathlib.Core.Option.{some, some-injective}
use mathlib.Core.List.{map-append}
use native.Mathlib.Decide.{dec_le}
use lib.ListN.{get_elem?}
use Rattle.atomic_table.proofs.Lists.{at_set, at_map}
use Rattle.apply_board.specs.declared.view.View.{View}
use Rattle.apply_board.specs.Views.{result_numbers, marks_of}
use Rattle.apply_board.specs.Board.{sum_of, occurrences_of, Shared, draw_count, claims_of, gifts_of, seats_of, OpenerIsFirst, IsSeat, BoardHistory}
use Rattle.apply_board.proofs.Sums.{bit_le, total-set, total-both, total_le, total_le_at, term_le, in_times, times-append}

pub numbers-append : {F : Type 0} (a b : List (ℕ × F)) → result_numbers (a ++ b) ≡ result_numbers a ++ result_numbers b
numbers-append {F} a b = map-append (λ (g : ℕ × F). g.0) a b

module _ {W F : Type 0} (gives : W → F → Type 0) (works : List W) where
  abbrev V : Type 0
  V = View W F

  abbrev S : Type 0
  S = Shared W F

  -- A seat has claimed what it gave.
  given_le : (s : S) (v : V) (k : ℕ) → IsSeat gives works s v
      → occurrences_of k (result_numbers v.given) ≤ occurrences_of k v.claimed
  given_le s v k o = ⊎_elim (λ (e : v.claimed ≡ result_numbers v.given). let t = ap (occurrences_of k) e in omega arith)
      (λ t. let e = ap (occurrences_of k) t.1 in
      omega (arith, times-append k (result_numbers v.given) (t.0 ∷ []))) o.given_is

  gifts_le : (s : S) → BoardHistory gives works s → (k j : ℕ) (v : V) → get_elem? s.views j ≡ some v
      → gifts_of k v ≤ claims_of k v
  gifts_le s r k j v at = let by : (b : Bool) → v.seated ≡ b
      → gifts_of k v ≤ claims_of k v = λ b. elim b as (λ c. v.seated ≡ c → gifts_of k v ≤ claims_of k v) [
        | true ↦ λ e. omega (arith, given_le s v k (r.each_seat j v at e))
        | false ↦ λ e. subst (λ (u : V). gifts_of k u ≤ claims_of k u) (sym (r.each_vacated j v at e)) (omega arith)
      ] in by v.seated refl

  pub gift_claimed : (s : S) (v : V) (i k : ℕ) (f : F) → IsSeat gives works s v
      → get_elem? (v.given ++ v.gathered) i ≡ some (k, f) → 1 ≤ claims_of k v
  gift_claimed s v i k f o e = let a : 1 ≤ occurrences_of k (result_numbers (v.given ++ v.gathered)) = in_times
      (result_numbers (v.given ++ v.gathered)) i k (at_map (λ (g : ℕ × F). g.0) (v.given ++ v.gathered) i (k, f) e) in
      let b = ap (occurrences_of k) (numbers-append v.given v.gathered) in
      omega (arith, times-append k (result_numbers v.given) (result_numbers v.gathered), given_le s v k o)

  pub at_most_one : (s : S) → BoardHistory gives works s → (k : ℕ) → sum_of (claims_of k) s.views ≤ 1
  at_most_one s r k = dite (dec_le (suc k) (min (draw_count s) (length works)))
      (λ below. omega (arith, r.claimed k (omega arith))) (λ past. omega (arith, r.unclaimed k (omega arith)))

  -- A claimed number is below word 0, and a work's.
  pub claimed_below : (s : S) → BoardHistory gives works s → (j : ℕ) (v : V) → get_elem? s.views j ≡ some v → (k : ℕ)
      → 1 ≤ claims_of k v → (k < draw_count s) × (k < length works)
  claimed_below s r j v at k d = let t = term_le (claims_of k) s.views j v at in
      dite (dec_le (suc k) (min (draw_count s) (length works)))
      (λ below. (omega arith, omega arith))
      (λ past. let z = r.unclaimed k (omega arith) in absurd (omega arith))

  -- A marked seat is a seat or was joined into one.
  marks_le : (s : S) → BoardHistory gives works s → (j : ℕ) (v : V) → get_elem? s.views j ≡ some v
      → marks_of v ≤ v.gathered_marks + seats_of v
  marks_le s r j v at = let by : (b : Bool) → v.seated ≡ b
      → marks_of v ≤ v.gathered_marks + seats_of v = λ b. elim b as (λ c. v.seated ≡ c
      → marks_of v ≤ v.gathered_marks + seats_of v) [
        | true ↦ λ e. let one = ap (λ (c : Bool). cond {A = ℕ} c 1 0) e in let few = bit_le v.spent in omega arith
        | false ↦ λ e. subst (λ (u : V). marks_of u ≤ u.gathered_marks + seats_of u) (sym (r.each_vacated j v at e))
            (omega arith)
      ] in by v.seated refl

  pub marks_few : (s : S) → BoardHistory gives works s → sum_of marks_of s.views ≤ 64
  marks_few s r = let kept = r.gathered_marks_few in let few = r.seats_at_most_64 in omega (
    arith,
    total_le marks_of (λ v. v.gathered_marks + seats_of v) s.views (marks_le s r),
    total-both (λ v. v.gathered_marks) seats_of s.views,
  )

  -- A number that seat v claimed and didn't give was given by no seat.
  pub none_given : (s : S) → BoardHistory gives works s → (j : ℕ) (v : V) → get_elem? s.views j ≡ some v → (k : ℕ)
      → 1 ≤ claims_of k v → gifts_of k v ≡ 0 → sum_of (gifts_of k) s.views ≡ 0
  none_given s r j v at k held ungiven = let t = total_le_at (gifts_of k) (claims_of k) s.views j v at
      (gifts_le s r k) in let m = at_most_one s r k in omega arith

  -- A seat is as it was if a step leaves the slots of its claims.
  pub stays : (s s' : S) (v : V) → draw_count s ≤ draw_count s'
      → ((k : ℕ) → 1 ≤ claims_of k v → get_elem? s'.homes k ≡ get_elem? s.homes k) → IsSeat gives works s v
      → IsSeat gives works s' v
  stays s s' v up same o = record {
    keeps = o.keeps;
    claimed_rises = o.claimed_rises;
    given_is = o.given_is;
    home = λ i k f e. same k (gift_claimed s v i k f o e) ∙ o.home i k f e;
    fits = o.fits;
    spent_late = λ e. let h = o.spent_late e in omega arith;
  }

  -- A property of the view that a step changes, and of the others, holds for all.
  pub seats_stay : (K : ℕ → V → Type 0) (vs : List V) (me : ℕ) (w : V) → K me w
      → ((j : ℕ) (d : V) → j ≢ me → get_elem? vs j ≡ some d → K j d) → (j : ℕ) (d : V)
      → get_elem? (set vs me w) j ≡ some d → K j d
  seats_stay K vs me w mine others j d e = ⊎_elim (λ (t : (j ≡ me) × (w ≡ d)). subst (λ (x : ℕ × V). K x.0 x.1)
      (λ i. (sym t.0 i, t.1 i)) mine)
      (λ (t : (j ≢ me) × (get_elem? vs j ≡ some d)). others j d t.0 t.1) (at_set vs me j w d e)

  -- A step of one seat leaves the opener's the first.
  pub opener_stays : (vs : List V) (id : ℕ) (v w : V) → get_elem? vs id ≡ some v → (0 < v.made → 0 < w.made)
      → w.seated ≡ true → OpenerIsFirst vs → OpenerIsFirst (set vs id w)
  opener_stays [] id v w at made seated first = first
  opener_stays (x ∷ xs) zero v w at made seated first = (
    made (subst (λ (u : V). 0 < u.made) (some-injective x v at)
        first.0),
    seated,
  )
  opener_stays (x ∷ xs) (suc id) v w at made seated first = first

  -- So does a change of another seat.
  pub opener_beside : (vs : List V) (other : ℕ) (w : V) → other ≢ 0 → OpenerIsFirst vs
      → OpenerIsFirst (set vs other w)
  opener_beside [] other w apart first = first
  opener_beside (x ∷ xs) zero w apart first = absurd (apart refl)
  opener_beside (x ∷ xs) (suc other) w apart first = first

  pub opener_ahead : (vs more : List V) → OpenerIsFirst vs → OpenerIsFirst (vs ++ more)
  opener_ahead [] more first = absurd first
  opener_ahead (x ∷ xs) more first = first

  abbrev pub Counts : List V → ℕ → V → Type 0
  Counts vs j v = 0 < v.made → (j ≡ 0) × (v.made ≡ length vs) × (v.unjoined ≡ sum_of seats_of vs)

  -- A step that makes no seat and joins none leaves the counts.
  pub counts_stay : (s : S) → BoardHistory gives works s → (id : ℕ) (v w : V) → get_elem? s.views id ≡ some v
      → w.made ≡ v.made → w.unjoined ≡ v.unjoined → w.seated ≡ v.seated
      → (j : ℕ) (d : V) → get_elem? (set s.views id w) j ≡ some d → Counts (set s.views id w) j d
  counts_stay s r id v w at made unjoined seated = let len = length-set s.views id w in
      let t = total-set seats_of s.views id v w at in let e = ap (λ (b : Bool). cond {A = ℕ} b 1 0) seated in
      seats_stay (Counts (set s.views id w)) s.views id w (λ p. let c = r.opener_counts id v at (omega arith) in
      (c.0, omega arith, omega arith))
      (λ j d _ at' p. let c = r.opener_counts j d at' p in (c.0, omega arith, omega arith))
