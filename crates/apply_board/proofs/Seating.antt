-- Making a seat and joining one keep the board's invariant.
use Rattle.std.proofs.Common.{◌≡◌, ◌≢◌, ◌⊎◌, ℕ, ◌+◌, ◌<◌, ◌≤◌, Bool, true, false, cond, List, [], ◌∷◌, ◌++◌, length, set, sym, refl, ap, ◌∙◌, subst, ⊎_elim, inl, inr, arith, length-set, true≢false}
use mathlib.Core.Logic.{dite}
use mathlib.Core.Option.{some, some-ne-none}
use native.Mathlib.Decide.{dec_le}
use lib.ListN.{get_elem?}
use Rattle.atomic_table.specs.Table.{Splits, Joins}
use Rattle.atomic_table.proofs.Lists.{at_set, set_here, set_else, at_snoc}
use Rattle.apply_board.specs.declared.view.View.{View}
use Rattle.apply_board.specs.Views.{result_numbers, new_seat_view, with_seat_made, marks_of, with_seat_joined, vacated_view}
use Rattle.apply_board.specs.Board.{sum_of, occurrences_of, Shared, claims_of, gifts_of, seats_of, IsSeat, BoardHistory, Moment}
use Rattle.apply_board.proofs.Sums.{bit_le, total-append, total-set, times-append, at_either, at_behind, at_front, at_last, at_inside}
use Rattle.apply_board.proofs.Histories.{numbers-append, seats_stay, opener_stays, opener_beside, opener_ahead, Counts}

module _ {W F : Type 0} (gives : W → F → Type 0) (works : List W) where
  abbrev V : Type 0
  V = View W F

  abbrev S : Type 0
  S = Shared W F

  snoc_length : (vs : List V) (v : V) → length (vs ++ v ∷ []) ≡ length vs + 1
  snoc_length [] v = refl
  snoc_length (x ∷ xs) v = omega (arith, snoc_length xs v)

  -- A seat's view stays valid if slots and words are as they were.
  pub same_slots : (s s' : S) (v : V) → s'.words ≡ s.words → s'.homes ≡ s.homes → IsSeat gives works s v
      → IsSeat gives works s' v
  same_slots s s' v words homes o = record {
    keeps = o.keeps;
    claimed_rises = o.claimed_rises;
    given_is = o.given_is;
    home = λ i k f e. ap (λ l. get_elem? l k) homes ∙ o.home i k f e;
    fits = o.fits;
    spent_late = λ e. let h = o.spent_late e in
        let n = ap (λ (l : List ℕ). Rattle.std.proofs.Common.get_or l 0 0) words in omega arith;
  }

  -- A seat that has done nothing.
  fresh : (s : S) (v : V) → v.works ≡ works → IsSeat gives works s (new_seat_view v)
  fresh s v same = record {
    keeps = same;
    claimed_rises = λ k l. absurd (omega arith);
    given_is = inl refl;
    home = λ i k f a. absurd (some-ne-none (k, f) (sym a));
    fits = λ i k f w a. absurd (some-ne-none (k, f) (sym a));
    spent_late = λ l. absurd (omega arith);
  }

  pub splits : (id : ℕ) (v : View W F) → 0 < v.made → v.made < 64 → v.seated ≡ true
      → Splits (BoardHistory gives works) id v (with_seat_made v) (new_seat_view v)
  splits id v opens room seated s r at =
      let v' : V = with_seat_made v in
      let u' : V = new_seat_view v in
      let vs : List V = set s.views id v' in
      let s' : S = record { words = s.words; homes = s.homes; views = vs ++ u' ∷ [] } in
      let c = r.opener_counts id v at opens in
      let len = length-set s.views id v' in
      let longer : length s'.views ≡ length s.views + 1 = omega (arith, snoc_length vs u', len) in
      let seats : sum_of seats_of s'.views ≡ sum_of seats_of s.views + 1 = omega
      (arith, total-append seats_of vs (u' ∷ []), total-set seats_of s.views id v v' at) in
      let same : (k : ℕ) → sum_of (claims_of k) s'.views ≡ sum_of (claims_of k) s.views = λ k. omega
      (arith, total-append (claims_of k) vs (u' ∷ []), total-set (claims_of k) s.views id v v' at) in
      let gifts : (k : ℕ) → sum_of (gifts_of k) s'.views ≡ sum_of (gifts_of k) s.views = λ k. omega
      (arith, total-append (gifts_of k) vs (u' ∷ []), total-set (gifts_of k) s.views id v v' at) in
      let marks : sum_of marks_of s'.views ≡ sum_of marks_of s.views = omega
      (arith, total-append marks_of vs (u' ∷ []), total-set marks_of s.views id v v' at) in
      let mine = r.each_seat id v at seated in
      let first = c.0 in
      record {
        words_count = r.words_count;
        slots_count = r.slots_count;
        works_count = r.works_count;
        claimed = λ k b. same k ∙ r.claimed k b;
        unclaimed = λ k above. same k ∙ r.unclaimed k above;
        words = λ k i. r.words k i ∙ sym (gifts k);
        waits = r.waits;
        marks = let b = r.marks in omega arith;
        gathered_marks_few = let m = r.gathered_marks_few in omega (
          arith,
          total-append (λ u. u.gathered_marks) vs (u' ∷ []),
          total-set (λ u. u.gathered_marks) s.views id v v' at,
        );
        seats_at_most_64 = let m = c.1 in omega arith;
        opener_is_first = opener_ahead gives works vs (u' ∷ [])
            (opener_stays gives works s.views id v v' at (λ p. omega arith) seated r.opener_is_first);
        opener_counts = λ j d e. ⊎_elim
            (λ e'. seats_stay gives works (Counts gives works s'.views) s.views id v' (λ _. let m = c.1 in
            let o = c.2 in (first, omega arith, omega arith))
            (λ i z n a p. let q = r.opener_counts i z a p in absurd (n (q.0 ∙ sym first))) j d e')
            (λ (is : u' ≡ d). subst (λ (z : V). Counts gives works s'.views j z) is (λ p. absurd (omega arith)))
            (at_snoc vs u' d j e);
        each_seat = λ j d e. ⊎_elim
            (λ e'. seats_stay gives works (λ _ z. z.seated ≡ true → IsSeat gives works s' z) s.views id v'
            (λ _. record {
              keeps = mine.keeps;
              claimed_rises = mine.claimed_rises;
              given_is = mine.given_is;
              home = mine.home;
              fits = mine.fits;
              spent_late = mine.spent_late;
            })
            (λ i z _ a l. same_slots s s' z refl refl (r.each_seat i z a l)) j d e')
            (λ (is : u' ≡ d). subst (λ (z : V). z.seated ≡ true → IsSeat gives works s' z) is
            (λ _. fresh s' v mine.keeps)) (at_snoc vs u' d j e);
        each_vacated = λ j d e. ⊎_elim
            (λ e'. seats_stay gives works (λ _ z. z.seated ≡ false → z ≡ vacated_view) s.views id v'
            (λ l. absurd (true≢false (sym seated ∙ l))) (λ i z _ a l. r.each_vacated i z a l) j d e')
            (λ (is : u' ≡ d). subst (λ (z : V). z.seated ≡ false → z ≡ vacated_view) is (λ l. absurd (true≢false l)))
            (at_snoc vs u' d j e);
      }

  -- A property of each result of either seat holds for the results after joining them.
  either_gave : (v w : V) (i k : ℕ) (f : F) {X : Type 0}
      → get_elem? (v.given ++ (with_seat_joined v w).gathered) i ≡ some (k, f)
      → ((j : ℕ) → get_elem? (v.given ++ v.gathered) j ≡ some (k, f) → X)
      → ((j : ℕ) → get_elem? (w.given ++ w.gathered) j ≡ some (k, f) → X) → X
  either_gave v w i k f e left right = ⊎_elim (λ p. left p.0 (at_front v.given v.gathered (k, f) p.0 p.1))
      (λ q. ⊎_elim (λ p. let y = at_behind v.given v.gathered (k, f) p.0 p.1 in left y.0 y.1) (λ p. right p.0 p.1)
      (at_either v.gathered (w.given ++ w.gathered) (k, f) q.0 q.1))
      (at_either v.given (with_seat_joined v w).gathered (k, f) i e)

  pub joins : (id : ℕ) (v : View W F) (other : ℕ) (w : View W F) → 0 < v.made → v.seated ≡ true → w.seated ≡ true
      → w.claimed ≡ result_numbers w.given
      → Joins (BoardHistory gives works) id v other w (with_seat_joined v w) vacated_view
  joins id v other w opens seated seated' idle s r at apart at' =
      let b : V = with_seat_joined v w in
      let vs : List V = set s.views id b in
      let there : get_elem? s.views other ≡ some w = sym (set_else s.views id other b apart) ∙ at' in
      let s' : S = record { words = s.words; homes = s.homes; views = set vs other vacated_view } in
      let c = r.opener_counts id v at opens in
      let first = c.0 in
      let ov = r.each_seat id v at seated in
      let ow = r.each_seat other w there seated' in
      let len : length s'.views ≡ length s.views = omega (
        arith,
        length-set vs other vacated_view,
        length-set s.views id b,
      ) in
      let here = ap (λ (x : Bool). cond {A = ℕ} x 1 0) seated in
      let here' = ap (λ (x : Bool). cond {A = ℕ} x 1 0) seated' in
      let seats : sum_of seats_of s'.views + 1 ≡ sum_of seats_of s.views = omega
      (arith, total-set seats_of vs other w vacated_view at', total-set seats_of s.views id v b at) in
      let sums : (k : ℕ) → occurrences_of k (result_numbers b.gathered) ≡ occurrences_of k (result_numbers v.gathered) +
      (occurrences_of k (result_numbers w.given) + occurrences_of k (result_numbers w.gathered)) = λ k.
      let n1 = ap (occurrences_of k) (numbers-append v.gathered (w.given ++ w.gathered)) in
      let n2 = ap (occurrences_of k) (numbers-append w.given w.gathered) in
      omega (
        arith,
        times-append k (result_numbers v.gathered) (result_numbers (w.given ++ w.gathered)),
        times-append k (result_numbers w.given) (result_numbers w.gathered),
      ) in
      let same : (k : ℕ) → sum_of (claims_of k) s'.views ≡ sum_of (claims_of k) s.views = λ k.
      let e = ap (occurrences_of k) idle in let n = sums k in
      omega (arith, total-set (claims_of k) vs other w vacated_view at', total-set (claims_of k) s.views id v b at) in
      let gifts : (k : ℕ) → sum_of (gifts_of k) s'.views ≡ sum_of (gifts_of k) s.views = λ k.
      let n = sums k in omega (
        arith,
        total-set (gifts_of k) vs other w vacated_view at',
        total-set (gifts_of k) s.views id v b at,
      ) in
      let marks : sum_of marks_of s'.views ≡ sum_of marks_of s.views = omega
      (arith, total-set marks_of vs other w vacated_view at', total-set marks_of s.views id v b at) in
      let two : (K : ℕ → V → Type 0) → K other vacated_view → K id b
      → ((j : ℕ) (d : V) → j ≢ id → j ≢ other → get_elem? s.views j ≡ some d → K j d) → (j : ℕ) (d : V)
      → get_elem? s'.views j ≡ some d → K j d =
      λ K gone mine others. seats_stay gives works K vs other vacated_view gone
      (λ j d n e. ⊎_elim (λ (t : (j ≡ id) × (b ≡ d)). subst (λ (x : ℕ × V). K x.0 x.1) (λ i. (sym t.0 i, t.1 i))
      mine) (λ (t : (j ≢ id) × (get_elem? s.views j ≡ some d)). others j d t.0 n t.1)
      (at_set s.views id j b d e)) in
      record {
        words_count = r.words_count;
        slots_count = r.slots_count;
        works_count = r.works_count;
        claimed = λ k i. same k ∙ r.claimed k i;
        unclaimed = λ k a. same k ∙ r.unclaimed k a;
        words = λ k i. r.words k i ∙ sym (gifts k);
        waits = r.waits;
        marks = let x = r.marks in omega arith;
        gathered_marks_few = let m = r.gathered_marks_few in omega (
          arith,
          total-set (λ u. u.gathered_marks) vs other w vacated_view at',
          total-set (λ u. u.gathered_marks) s.views id v b at,
          bit_le w.spent,
        );
        seats_at_most_64 = let f = r.seats_at_most_64 in omega arith;
        opener_is_first = opener_beside gives works vs other vacated_view (λ e. apart (e ∙ sym first))
            (opener_stays gives works s.views id v b at (λ p. p) seated r.opener_is_first);
        opener_counts = two (Counts gives works s'.views) (λ p. absurd (omega arith)) (λ _. let m = c.1 in
            let o = c.2 in (first, omega arith, omega arith))
            (λ j d n _ a p. absurd (n ((r.opener_counts j d a p).0 ∙ sym first)));
        each_seat = two (λ _ z. z.seated ≡ true → IsSeat gives works s' z) (λ e. absurd (true≢false (sym e)))
            (λ _. record {
              keeps = ov.keeps;
              claimed_rises = ov.claimed_rises;
              given_is = ov.given_is;
              home = λ i k f e. either_gave v w i k f e (λ j. ov.home j k f) (λ j. ow.home j k f);
              fits = λ i k f u e. either_gave v w i k f e (λ j. ov.fits j k f u) (λ j. ow.fits j k f u);
              spent_late = λ e. dite (dec_le 1 (marks_of v)) ov.spent_late (λ n. ow.spent_late (omega arith));
            }) (λ j d _ _ a e. same_slots s s' d refl refl (r.each_seat j d a e));
        each_vacated = two (λ _ z. z.seated ≡ false → z ≡ vacated_view) (λ _. refl)
            (λ e. absurd (true≢false (sym seated ∙ e))) (λ j d _ _ a e. r.each_vacated j d a e);
      }

-- The opener's seat, which had the view v at a moment, has made another, and each has its view at a moment.
pub make_moment : {W F : Type 0} (gives : W → F → Type 0) (v : View W F) → 0 < v.made → v.made < 64 → v.seated ≡ true
    → Moment gives v → Moment gives (with_seat_made v) × Moment gives (new_seat_view v)
make_moment {W} {F} gives v opens room seated moment =
    let vs : List (View W F) = set moment.board.views moment.seat (with_seat_made v) in
    let s' : Shared W F = record {
      words = moment.board.words;
      homes = moment.board.homes;
      views = vs ++ new_seat_view v ∷ [];
    } in
    let kept : BoardHistory gives v.works s' = splits gives v.works moment.seat v opens room seated moment.board
    moment.history moment.has in
    let here = at_inside moment.board.views moment.seat v moment.has in (
      record {
        board = s';
        history = kept;
        seat = moment.seat;
        has = at_front vs (new_seat_view v ∷ []) (with_seat_made v) moment.seat
            (set_here moment.board.views moment.seat (with_seat_made v) here);
      },
      record { board = s'; history = kept; seat = length vs; has = at_last vs (new_seat_view v) },
    )
