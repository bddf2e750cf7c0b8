-- Giving a result keeps the board's invariant.
use Rattle.std.proofs.Common.{◌≡◌, ◌≢◌, ℕ, ◌+◌, ◌≤◌, eqb, true, false, cond, List, [], ◌∷◌, ◌++◌, set, sym, refl, ap, ◌∙◌, subst, ⊎_elim, inl, arith, Option, Some, None, length-set, get_or-set_other, get_or-set_same, true≢false}
use mathlib.Core.Logic.{dite}
use mathlib.Core.Option.{none, some, some-injective}
use native.Mathlib.Decide.{ℕ_discrete}
use lib.ListN.{get_elem?}
use Rattle.atomic_table.specs.Table.{step, gives as returns_slot, stepped, rest, Allows}
use Rattle.atomic_table.proofs.Lists.{set_here, set_else, at_map}
use Rattle.apply_board.specs.declared.view.View.{View}
use Rattle.apply_board.specs.declared.group.Group.{Group}
use Rattle.apply_board.specs.declared.group.Group.TheVariants.{Home, Unclaimed}
use Rattle.apply_board.specs.Views.{result_numbers, marks_of, vacated_view, with_result}
use Rattle.apply_board.specs.Board.{sum_of, occurrences_of, Shared, draw_count, work_word, LiesIn, claims_of, gifts_of, seats_of, IsSeat, BoardHistory}
use Rattle.apply_board.specs.Inner.Steps.{ViewAndSlots, GivesResult}
use Rattle.apply_board.proofs.Sums.{total-set, term_le, terms_le, times-snoc, times-snoc_here, same_bit, other_bit, in_times, times-append, at_insert, at_inside, there}
use Rattle.apply_board.proofs.Histories.{numbers-append, at_most_one, claimed_below, none_given, stays, seats_stay, opener_stays, counts_stay}

module _ {W F : Type 0} where
  abbrev homed : ℕ × F → ℕ → Group W F → ℕ × F
  homed d k (Home f) = (k, f)
  homed d k (Unclaimed w) = d

  abbrev found : ℕ × F → ℕ → Option (Group W F) → ℕ × F
  found d k None = d
  found d k (Some g) = homed d k g

  -- The result in the slot held.
  abbrev held_of : ℕ × F → List (ℕ × Option (Group W F)) → ℕ × F
  held_of d [] = d
  held_of d (x ∷ xs) = found d x.0 x.1

module _ {W F : Type 0} (yields : W → F → Type 0) (works : List W) where
  abbrev V : Type 0
  V = View W F

  abbrev S : Type 0
  S = Shared W F

  -- Seat v claimed q last, and gives it.
  gives_one : (s : S) (r : BoardHistory yields works s) (id : ℕ) (v : V) (q : ℕ) (f : F) (w : W)
      → get_elem? s.views id ≡ some v → v.seated ≡ true → v.claimed ≡ result_numbers v.given ++ q ∷ []
      → get_elem? works q ≡ some w → yields w f
      → BoardHistory yields works record {
        words = set s.words (q + 1) 1;
        homes = set s.homes q (some (Some (Home f)));
        views = set s.views id (with_result v q f);
      }
  gives_one s r id v q f w at seated holding work right =
      let v' : V = with_result v q f in
      let s' : S = record {
        words = set s.words (q + 1) 1;
        homes = set s.homes q (some (Some (Home f)));
        views = set s.views id v';
      } in
      let wide = r.words_count in
      let deep = r.slots_count in
      let o = r.each_seat id v at seated in
      let mine : 1 ≤ occurrences_of q v.claimed = let e = ap (occurrences_of q) holding in
      omega (arith, times-snoc_here q (result_numbers v.given)) in
      let below = claimed_below yields works s r id v at q (omega arith) in
      let lone : claims_of q v ≤ 1 = let t = term_le (claims_of q) s.views id v at in
      let m = at_most_one yields works s r q in omega arith in
      let ungiven : occurrences_of q (result_numbers v.given) + occurrences_of q (result_numbers v.gathered) ≡ 0 =
      let e = ap (occurrences_of q) holding in
      omega (arith, times-snoc_here q (result_numbers v.given)) in
      let nobody : sum_of (gifts_of q) s.views ≡ 0 = none_given yields works s r id v at q (omega arith) ungiven in
      let now : draw_count s' ≡ draw_count s = get_or-set_other s.words (q + 1) 0 1 0 (λ e. omega arith) in
      let raised : work_word s' q ≡ 1 = get_or-set_same s.words (q + 1) 1 0 (omega arith) in
      let words : (k : ℕ) → k ≢ q → work_word s' k ≡ work_word s k = λ k n. get_or-set_other s.words (q + 1) (k + 1) 1 0
      (λ e. n (omega arith)) in
      let homes : (k : ℕ) → k ≢ q → get_elem? s'.homes k ≡ get_elem? s.homes k = λ k n. set_else s.homes q k
      (some (Some (Home f))) n in
      let same : (k : ℕ) → sum_of (claims_of k) s'.views ≡ sum_of (claims_of k) s.views = λ k. omega
      (arith, total-set (claims_of k) s.views id v v' at) in
      let grows : (k : ℕ) → sum_of (gifts_of k) s'.views ≡ sum_of (gifts_of k) s.views + cond (eqb q k) 1 0 = λ k.
      let n = ap (occurrences_of k) (numbers-append v.given ((q, f) ∷ [])) in
      omega (arith, total-set (gifts_of k) s.views id v v' at, times-snoc k q (result_numbers v.given)) in
      let marks : sum_of marks_of s'.views ≡ sum_of marks_of s.views = omega
      (arith, total-set marks_of s.views id v v' at) in
      let in_v : (i k : ℕ) (g : F) → get_elem? (v.given ++ v.gathered) i ≡ some (k, g) → k ≢ q = λ i k g e is.
      let a : 1 ≤ occurrences_of k (result_numbers (v.given ++ v.gathered)) =
      in_times (result_numbers (v.given ++ v.gathered)) i k
      (at_map (λ (x : ℕ × F). x.0) (v.given ++ v.gathered) i (k, g) e) in
      let b = ap (occurrences_of k) (numbers-append v.given v.gathered) in
      let c = times-append k (result_numbers v.given) (result_numbers v.gathered) in
      let z : occurrences_of k (result_numbers v.given) + occurrences_of k (result_numbers v.gathered) ≡ 0 = subst
      (λ (y : ℕ). occurrences_of y (result_numbers v.given) + occurrences_of y (result_numbers v.gathered) ≡ 0)
      (sym is) ungiven in omega arith in
      record {
        words_count = length-set s.words (q + 1) 1 ∙ wide;
        slots_count = length-set s.homes q (some (Some (Home f))) ∙ deep;
        works_count = r.works_count;
        claimed = λ k b. same k ∙ r.claimed k (omega arith);
        unclaimed = λ k above. same k ∙ r.unclaimed k (omega arith);
        words = λ k i. let g = grows k in dite (ℕ_discrete q k)
            (λ e. let b = same_bit k q e in let z : sum_of (gifts_of k) s.views ≡ 0 = subst
            (λ (y : ℕ). sum_of (gifts_of y) s.views ≡ 0) e nobody in
            let one : work_word s' k ≡ 1 = subst (λ (y : ℕ). work_word s' y ≡ 1) e raised in omega arith)
            (λ ne. let b = other_bit k q ne in let u = words k (λ e. ne (sym e)) in let h = r.words k i in omega arith);
        waits = λ k u above a. homes k (λ e. omega arith) ∙ r.waits k u (omega arith) a;
        marks = let b = r.marks in omega arith;
        gathered_marks_few = let m = r.gathered_marks_few in omega (
          arith,
          total-set (λ u. u.gathered_marks) s.views id v v' at,
          total-set seats_of s.views id v v' at,
          length-set s.views id v',
        );
        seats_at_most_64 = let l = r.seats_at_most_64 in omega (arith, length-set s.views id v');
        opener_is_first = opener_stays yields works s.views id v v' at (λ p. p) seated r.opener_is_first;
        opener_counts = counts_stay yields works s r id v v' at refl refl refl;
        each_seat = seats_stay yields works (λ j u. u.seated ≡ true → IsSeat yields works s' u) s.views id v'
            (λ _. record {
              keeps = o.keeps;
              claimed_rises = o.claimed_rises;
              given_is = inl (holding ∙ sym (numbers-append v.given ((q, f) ∷ [])));
              home = λ i k g e. ⊎_elim (λ p. homes k (in_v p.0 k g p.1) ∙ o.home p.0 k g p.1)
                  (λ (is : (q, f) ≡ (k, g)). subst (λ (p : ℕ × F). LiesIn s' p.0 (Home p.1)) is
                  (set_here s.homes q (some (Some (Home f))) (omega arith)))
                  (at_insert v.given v.gathered (q, f) (k, g) i e);
              fits = λ i k g u e a. ⊎_elim (λ p. o.fits p.0 k g u p.1 a)
                  (λ (is : (q, f) ≡ (k, g)). subst (λ (z : F). yields u z) (ap (λ (p : ℕ × F). p.1) is)
                  (subst (λ (z : W). yields z f) (some-injective w u
                  (sym work ∙ (ap (λ (p : ℕ × F). get_elem? works p.0) is ∙ a))) right))
                  (at_insert v.given v.gathered (q, f) (k, g) i e);
              spent_late = λ e. let h = o.spent_late e in omega arith;
            }) (λ j u other a e. stays yields works s s' u (omega arith) (λ k d.
            let n : k ≢ q = λ is. let both_draw = terms_le (claims_of k) s.views id j v u other at a in
            let m = at_most_one yields works s r k in let d' : 1 ≤ claims_of k v = subst
            (λ (y : ℕ). 1 ≤ claims_of y v) (sym is) (omega arith) in omega arith in
            homes k n) (r.each_seat j u a e));
        each_vacated = seats_stay yields works (λ j u. u.seated ≡ false → u ≡ vacated_view) s.views id v'
            (λ e. absurd (true≢false (sym seated ∙ e))) (λ j u _ a e. r.each_vacated j u a e);
      }

  pub gives_back : (slots id q : ℕ) (f : F) (me : ViewAndSlots W F) → me.1 ≡ (q, Some (Home f)) ∷ []
      → me.0.seated ≡ true
      → me.0.claimed ≡ result_numbers me.0.given ++ q ∷ []
      → ((w : W) → get_elem? me.0.works q ≡ some w → yields w f)
      → Allows (BoardHistory yields works) slots id me (q + 1) (λ _. 1)
      (λ _. GivesResult yields (step slots (q + 1) 1 0 none) me)
  gives_back slots id q f me hand seated holding right s r deep at _ = let v : V = me.0 in
      let o = r.each_seat id v at seated in
      let mine : 1 ≤ occurrences_of q v.claimed = let e = ap (occurrences_of q) holding in
      omega (arith, times-snoc_here q (result_numbers v.given)) in
      let w = there works q (claimed_below yields works s r id v at q (omega arith)).1 in
      let s' : S = stepped s (q + 1) 1 id me.1 (with_result v q f) returns_slot in
      let kept : BoardHistory yields works s' = subst
      (λ (c : List (ℕ × Option (Group W F))). BoardHistory yields works
      (stepped s (q + 1) 1 id c (with_result v q f) returns_slot)) (sym hand)
      (gives_one s r id v q f w.0 at seated holding w.1
      (right w.0 (ap (λ (l : List W). get_elem? l q) o.keeps ∙ w.1))) in (
        with_result v q f,
        returns_slot,
        tt,
        kept,
        record {
          gone = λ k g e. let is : (q, f) ≡ (k, g) = ap (held_of (q, f)) (sym hand ∙ e) in
              λ i. (with_result v (is i).0 (is i).1, ap rest hand i);
          history = record {
            board = s';
            history = subst (λ (l : List W). BoardHistory yields l s')
                (sym o.keeps) kept;
            seat = id;
            has = set_here s.views id (with_result v q f) (at_inside s.views id v at);
          };
        },
      )
