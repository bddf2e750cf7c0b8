-- The start and the end of a board.
use Rattle.std.proofs.Common.{◌≡◌, ℕ, zero, suc, ◌+◌, ◌-◌, ◌<◌, ◌≤◌, ◌^◌, Bool, true, false, cond, ◌||◌, List, [], ◌∷◌, ◌++◌, map, length, get_or, replicate, sym, refl, ap, ◌∙◌, subst, inl, arith, Option, Some, append_assoc, true≢false, All, remove}
use Rattle.std.proofs.lemmas.List.{append-nil}
use mathlib.Core.Logic.{dite}
use mathlib.Core.Option.{some, some-injective, some-ne-none}
use native.Mathlib.Decide.{ℕ_discrete, dec_le}
use lib.ListN.{get_elem?, length-map}
use Rattle.std.specs.Option.{unwrap_or}
use Rattle.atomic_table.specs.Seated.{TableId}
use Rattle.atomic_table.specs.Table.{opening, Final, Seen}
use Rattle.atomic_table.proofs.Lists.{at_map}
use Rattle.apply_board.specs.declared.view.View.{View}
use Rattle.apply_board.specs.declared.group.Group.{Group}
use Rattle.apply_board.specs.declared.group.Group.TheVariants.{Home, Unclaimed}
use Rattle.apply_board.specs.Views.{result_numbers, opener_view, marks_of, with_seat_joined}
use Rattle.apply_board.specs.Board.{sum_of, occurrences_of, Shared, draw_count, claims_of, seats_of, IsSeat, BoardHistory, Moment}
use Rattle.apply_board.specs.Sitting.{Sitting}
use Rattle.apply_board.specs.Seats.{IsIdle, AreAllSeats, all_given, any_spent}
use Rattle.apply_board.specs.Closing.{IsSettled}
use Rattle.apply_board.specs.Inner.Fields.{with_sitting, with_sittings}
use Rattle.apply_board.specs.Inner.Slots.{AreFull}
use Rattle.apply_board.proofs.Sums.{bit_zero, total_only, times-append, place_of, unmap, at_inside, there}
use Rattle.apply_board.proofs.Histories.{numbers-append, at_most_one}

pub zeros : (n i : ℕ) → get_or {A = ℕ} (replicate n 0) i 0 ≡ 0
zeros zero i = refl
zeros (suc n) zero = refl
zeros (suc n) (suc i) = zeros n i

-- The contents of the slots at the end, where gs was given.
pub record Lies {W F : Type 0} (gives : W → F → Type 0) (works : List W) (gs : List (ℕ × F)) (spent : Bool)
    (xs : List (Option (Group W F))) : Type 0 where
  pub count : length xs ≡ length works
  pub home : (i k : ℕ) (f : F) → get_elem? gs i ≡ some (k, f) → get_elem? xs k ≡ some (Some (Home f))
  pub unclaimed : (k : ℕ) (w : W) → get_elem? works k ≡ some w → occurrences_of k (result_numbers gs) ≡ 0
      → get_elem? xs k ≡ some (Some (Unclaimed w))
  pub fits : (i k : ℕ) (f : F) (w : W) → get_elem? gs i ≡ some (k, f) → get_elem? works k ≡ some w → gives w f
  pub once : (k : ℕ) → occurrences_of k (result_numbers gs) ≤ 1
  pub whole : spent ≡ true → (k : ℕ) → k < length works → occurrences_of k (result_numbers gs) ≡ 1

module _ {W F : Type 0} (gives : W → F → Type 0) (works : List W) where
  only_one : (v : View W F) (j : ℕ) (d : View W F) → get_elem? (v ∷ []) j ≡ some d → (j ≡ 0) × (v ≡ d)
  only_one v zero d e = (refl, some-injective v d e)
  only_one v (suc j) d e = absurd (some-ne-none d (sym e))

  pub opens : (ws : List ℕ) (xs : List (Option (Group W F))) → length ws ≡ length works + 1
      → ((i : ℕ) → get_or ws i 0 ≡ 0) → xs ≡ map (λ (w : W). Some (Unclaimed w)) works → length works < 2 ^ 63
      → BoardHistory gives works (opening ws xs (opener_view works))
  opens ws xs wide zeros are few = let s : Shared W F = opening ws xs (opener_view works) in let z0 = zeros 0 in
      let one : (j : ℕ) (d : View W F) → get_elem? (opener_view works ∷ []) j ≡ some d
      → (j ≡ 0) × (opener_view works ≡ d) = only_one (opener_view works) in
      record {
        words_count = wide;
        slots_count = length-map xs (λ (x : Option (Group W F)). some x)
            ∙ (ap (λ (l : List (Option (Group W F))). length l) are ∙ length-map works (λ (w : W). Some (Unclaimed w)));
        works_count = few;
        claimed = λ k a. absurd (omega arith);
        unclaimed = λ k _. omega arith;
        words = λ k _. let z = zeros (k + 1) in omega arith;
        waits = λ k w _ a. subst (λ (l : List (Option (Group W F))). get_elem? (map some l) k ≡ some
            (some (Some (Unclaimed w)))) (sym are) (at_map some (map (λ (u : W). Some (Unclaimed u)) works) k
            (Some (Unclaimed w)) (at_map (λ (u : W). Some (Unclaimed u)) works k w a));
        marks = omega arith;
        gathered_marks_few = omega arith;
        seats_at_most_64 = omega arith;
        opener_is_first = (omega arith, refl);
        opener_counts = λ j d e p. let o = one j d e in
            (o.0, ap (λ (x : View W F). x.made) (sym o.1), ap (λ (x : View W F). x.unjoined) (sym o.1));
        each_seat = λ j d e l. subst (IsSeat gives works s) (one j d e).1 record {
          keeps = refl;
          claimed_rises = λ k l. absurd (omega arith);
          given_is = inl refl;
          home = λ i k f a. absurd (some-ne-none (k, f) (sym a));
          fits = λ i k f w a. absurd (some-ne-none (k, f) (sym a));
          spent_late = λ l. absurd (omega arith);
        };
        each_vacated = λ j d e l. absurd (true≢false (ap (λ (x : View W F). x.seated) (one j d e).1 ∙ l));
      }

  -- A board at its opening is a moment of the opener's seat.
  pub opening_moment : (ws : List ℕ) (xs : List (Option (Group W F)))
      → BoardHistory gives works (opening ws xs (opener_view works)) → Moment gives (opener_view works)
  opening_moment ws xs history = record {
    board = opening ws xs (opener_view works);
    history = history;
    seat = 0;
    has = refl;
  }

  -- All other seats were joined into seat v, which has no open claim.
  lies : (ws : List ℕ) (xs : List (Option (Group W F))) (id : ℕ) (v : View W F) (spent : Bool)
      → Final (Seen (BoardHistory gives works) id v) ws xs → v.seated ≡ true → 0 < v.made → v.unjoined ≡ 1
      → v.claimed ≡ result_numbers v.given → (spent ≡ true → 0 < marks_of v)
      → Lies gives v.works (v.given ++ v.gathered) spent xs
  lies ws xs id v spent final seated made alone idle marked =
      let s = final.0 in let r = final.1.0 in let at = final.1.1 in let back = final.4 in
      let c = r.opener_counts id v at made in
      let o = r.each_seat id v at seated in
      let here = ap (λ (x : Bool). cond {A = ℕ} x 1 0) seated in
      let count = c.2 in
      let gs : List (ℕ × F) = v.given ++ v.gathered in
      let mine : (k : ℕ) → claims_of k v ≡ occurrences_of k (result_numbers gs) = λ k. let e =
      ap (occurrences_of k) idle in
      let n = ap (occurrences_of k) (numbers-append v.given v.gathered) in
      omega (arith, times-append k (result_numbers v.given) (result_numbers v.gathered)) in
      let sums : (k : ℕ) → sum_of (claims_of k) s.views ≡ occurrences_of k (result_numbers gs) =
      λ k. total_only seats_of
      (claims_of k) s.views id v
      (λ j x a z. ap (claims_of k) (r.each_vacated j x a (bit_zero x.seated z))) at (omega arith) ∙ mine k in
      subst (λ (l : List W). Lies gives l gs spent xs) (sym o.keeps) record {
        count = sym final.3 ∙ r.slots_count;
        home = λ i k f e. back k (Some (Home f)) (o.home i k f e);
        unclaimed = λ k w a z. let h = sums k in let i = at_inside works k w a in
            back k (Some (Unclaimed w)) (r.waits k w
            (dite (dec_le (suc k) (draw_count s)) (λ l. let d = r.claimed k (omega arith) in absurd (omega arith))
            (λ n. omega arith)) a);
        fits = o.fits;
        once = λ k. let h = sums k in let m = at_most_one gives works s r k in omega arith;
        whole = λ e k i. let h = sums k in let l = o.spent_late (marked e) in sym h ∙ r.claimed k (omega arith);
      }

module _ {W F : Type 0} where
  -- The number of spent seats among these.
  abbrev marks_in : List (Sitting W F) → ℕ
  marks_in seats = sum_of (λ seat. cond seat.view.spent 1 0) seats

  any_mark : (first : Bool) (seats : List (Sitting W F)) → first || any_spent seats ≡ true
      → 0 < cond {A = ℕ} first 1 0 + marks_in seats
  any_mark true seats e = omega arith
  any_mark false [] e = absurd (true≢false (sym e))
  any_mark false (seat ∷ seats) e = let more = any_mark seat.view.spent seats e in omega arith

  -- The opener's view once all others were joined into it.
  record Gathered (v : View W F) (seats : List (Sitting W F)) (u : View W F) : Type 0 where
    works : u.works ≡ v.works
    claimed : u.claimed ≡ v.claimed
    given : u.given ≡ v.given
    gathered : u.gathered ≡ v.gathered ++ all_given seats
    marks : marks_of u ≡ marks_of v + marks_in seats
    seated : u.seated ≡ v.seated
    made : u.made ≡ v.made
    unjoined : (n : ℕ) → v.unjoined ≡ length seats + n → u.unjoined ≡ n

  gathers : (v : View W F) (seats : List (Sitting W F)) → Gathered v seats (with_sittings v seats)
  gathers v [] = record {
    works = refl;
    claimed = refl;
    given = refl;
    gathered = sym (append-nil v.gathered);
    marks = omega arith;
    seated = refl;
    made = refl;
    unjoined = λ n e. omega arith;
  }
  gathers v (seat ∷ seats) = let g = gathers (with_sitting v seat) seats in record {
    works = g.works;
    claimed = g.claimed;
    given = g.given;
    gathered = g.gathered ∙ append_assoc v.gathered seat.view.given (all_given seats);
    marks = let more = g.marks in omega arith;
    seated = g.seated;
    made = g.made;
    unjoined = λ n e. g.unjoined n (omega arith);
  }

  -- Each slot holds a group.
  pub are_full : (gives : W → F → Type 0) (works : List W) (gs : List (ℕ × F)) (b : Bool)
      (xs : List (Option (Group W F))) → Lies gives works gs b xs → AreFull xs
  are_full gives works gs b xs s k l = let n = s.count in let w = there works k (omega arith) in
      dite (ℕ_discrete (occurrences_of k (result_numbers gs)) 0) (λ z. (Unclaimed w.0, s.unclaimed k w.0 w.1 z))
      (λ o. let p = place_of k (result_numbers gs) (omega arith) in let q = unmap (λ (g : ℕ × F). g.0) gs p.0 k p.1 in
      (Home q.0.1, s.home p.0 k q.0.1 (q.1 ∙ ap (λ (j : ℕ). some (j, q.0.1)) q.2)))

  pub closes : (gives : W → F → Type 0) (works : List W) (ws : List ℕ) (xs : List (Option (Group W F))) (id : ℕ)
      (v u : View W F) (seats : List (Sitting W F)) → Final (Seen (BoardHistory gives works) id u) ws xs
      → u ≡ with_sittings v seats
      → 0 < v.made → v.seated ≡ true → v.gathered ≡ [] → v.claimed ≡ result_numbers v.given
      → v.unjoined ≡ length seats + 1
      → Lies gives v.works (v.given ++ all_given seats) (v.spent || any_spent seats) xs
  closes gives works ws xs id v u seats final is made seated none idle unjoined = let w = gathers v seats in
      let g : View W F = with_sittings v seats in let m = w.made in
      let spent : Bool = v.spent || any_spent seats in
      let s = lies gives works ws xs id g spent (subst
      (λ (z : View W F). Final (Seen (BoardHistory gives works) id z) ws xs) is final) (w.seated ∙ seated)
      (omega arith) (w.unjoined 1 unjoined) (w.claimed
      ∙ (idle ∙ ap (λ (l : List (ℕ × F)). result_numbers l) (sym w.given)))
      (λ e. let some = any_mark v.spent seats e in let all = w.marks in omega arith) in
      let q : g.gathered ≡ all_given seats = w.gathered ∙ ap (λ (l : List (ℕ × F)). l ++ all_given seats) none in
      subst (λ (t : List W × List (ℕ × F)). Lies gives t.0 t.1 spent xs) (λ i. (w.works i, w.given i ++ q i)) s

  at_some : (groups : List (Group W F)) (k : ℕ) (g : Group W F)
      → get_elem? (map (λ (x : Group W F). Some x) groups) k ≡ some (Some g) → get_elem? groups k ≡ some g
  at_some groups k g e = let r = unmap (λ (x : Group W F). Some x) groups k (Some g) e in
      r.1 ∙ ap (λ (o : Option (Group W F)). some (unwrap_or o r.0)) r.2

  pub settles : (gives : W → F → Type 0) (works : List W) (gs : List (ℕ × F)) (b : Bool)
      (xs : List (Option (Group W F))) (groups : List (Group W F)) → Lies gives works gs b xs
      → map (λ (x : Group W F). Some x) groups ≡ xs → IsSettled gives works gs b groups
  settles gives works gs b xs groups s is = let at : (k : ℕ) (g : Group W F) → get_elem? xs k ≡ some (Some g)
      → get_elem? groups k ≡ some g = λ k g e. at_some groups k g
      (ap (λ (l : List (Option (Group W F))). get_elem? l k) is ∙ e) in record {
        count = sym (length-map groups (λ (x : Group W F). Some x))
            ∙ (ap (λ (l : List (Option (Group W F))). length l) is ∙ s.count);
        home = λ i k f e. at k (Home f) (s.home i k f e);
        unclaimed = λ k w a z. at k (Unclaimed w) (s.unclaimed k w a z);
        fits = s.fits;
        once = s.once;
        whole = λ e k w a. let p = place_of k (result_numbers gs) (let t = s.whole e k (at_inside works k w a) in
            omega arith) in let q = unmap (λ (g : ℕ × F). g.0) gs p.0 k p.1 in
            let there : get_elem? gs p.0 ≡ some (k, q.0.1) = q.1 ∙ ap (λ (j : ℕ). some (j, q.0.1)) q.2 in
            (q.0.1, at k (Home q.0.1) (s.home p.0 k q.0.1 there), s.fits p.0 k q.0.1 w there a);
      }

  -- Joining a seat into which none was joined.
  pub takes_in : (v : View W F) (seat : Sitting W F) → seat.view.gathered ≡ [] → seat.view.gathered_marks ≡ 0
      → with_seat_joined v seat.view ≡ with_sitting v seat
  takes_in v seat none unmarked = λ i. record v {
    gathered = v.gathered ++
        (ap (λ (l : List (ℕ × F)). seat.view.given ++ l) none ∙ append-nil seat.view.given) i;
    gathered_marks = v.gathered_marks + (let e : marks_of seat.view ≡ cond seat.view.spent 1 0 = omega arith in e i);
    unjoined = v.unjoined - 1;
  }

  -- All seats of a board, the first separate from the others.
  pub record IsCrew (board : TableId) (first : Sitting W F) (others : List (Sitting W F)) : Type 0 where
    pub made : 0 < first.view.made
    pub unjoined : first.view.unjoined ≡ length others + 1
    pub own : first.board ≡ board
    pub idle : IsIdle first
    pub rest : All (λ seat. (seat.board ≡ board) × IsIdle seat) others

  pub first_and_others : (board : TableId) (seats : List (Sitting W F)) (first : Sitting W F)
      (others : List (Sitting W F)) → AreAllSeats board seats → first ≡ get_or seats 0 first → others ≡ remove seats 0
      → (seats ≡ first ∷ others) × IsCrew board first others
  first_and_others board [] first others all is are = absurd all
  first_and_others board (x ∷ xs) first others all is are = let h = all.2 0 x (omega arith) in (
    λ i. sym is i ∷ sym are i,
    subst (λ (p : Sitting W F × List (Sitting W F)). IsCrew board p.0 p.1) (λ i. (sym is i, sym are i)) record {
      made = all.0;
      unjoined = let u = all.1 in omega arith;
      own = h.0;
      idle = h.1;
      rest = λ k d l. all.2 (suc k) d (omega arith);
    },
  )
