-- A claim keeps the board's invariant.
use Rattle.std.proofs.Common.{◌≡◌, ◌≢◌, ℕ, suc, ◌+◌, ◌%◌, ◌^◌, ◌<◌, ◌≤◌, eqb, Bool, true, false, cond, List, [], ◌∷◌, ◌++◌, length, get_or, set, sym, refl, ap, ◌∙◌, subst, inr, arith, Some, length-set, get_or-set_other, get_or-set_same, true≢false}
use mathlib.Core.Logic.{dite}
use mathlib.Core.Option.{none, some}
use native.Mathlib.Decide.{ℕ_discrete, dec_le}
use lib.ListN.{get_elem?}
use Rattle.atomic_table.specs.Table.{step, keeps, takes, Allows}
use Rattle.atomic_table.proofs.Lists.{set_here, set_else}
use Rattle.apply_board.specs.declared.view.View.{View}
use Rattle.apply_board.specs.declared.group.Group.TheVariants.{Unclaimed}
use Rattle.apply_board.specs.Views.{result_numbers, marks_of, vacated_view, with_claim, with_spent}
use Rattle.apply_board.specs.Board.{sum_of, Shared, draw_count, work_word, claims_of, gifts_of, seats_of, IsSeat, BoardHistory}
use Rattle.apply_board.specs.Inner.Steps.{ViewAndSlots, DrawsNumber}
use Rattle.apply_board.proofs.Sums.{total-set, times-snoc, same_bit, other_bit, in_times, at_of, at_inside, there, rises-snoc}
use Rattle.apply_board.proofs.Histories.{claimed_below, marks_few, stays, seats_stay, opener_stays, counts_stay}

module _ {W F : Type 0} (gives : W → F → Type 0) (works : List W) where
  abbrev V : Type 0
  V = View W F

  abbrev S : Type 0
  S = Shared W F

  -- A claim that draws the number x.
  claims_some : (s : S) (r : BoardHistory gives works s) (id : ℕ) (v : V) (x : ℕ) → get_elem? s.views id ≡ some v
      → v.seated ≡ true → v.claimed ≡ result_numbers v.given → draw_count s ≡ x → x < length works
      → BoardHistory gives works record {
        words = set s.words 0 (x + 1);
        homes = set s.homes x none;
        views = set s.views id (with_claim v x);
      }
  claims_some s r id v x at seated idle is inside =
      let v' : V = with_claim v x in
      let s' : S = record { words = set s.words 0 (x + 1); homes = set s.homes x none; views = set s.views id v' } in
      let wide = r.words_count in
      let now : draw_count s' ≡ x + 1 = get_or-set_same s.words 0 (x + 1) 0 (omega arith) in
      let words : (k : ℕ) → work_word s' k ≡ work_word s k = λ k. get_or-set_other s.words 0 (k + 1) (x + 1) 0
      (λ e. omega arith) in
      let grows : (k : ℕ) → sum_of (claims_of k) s'.views ≡ sum_of (claims_of k) s.views + cond
      (eqb x k) 1 0 = λ k. omega (arith, total-set (claims_of k) s.views id v v' at, times-snoc k x v.claimed) in
      let gifts : (k : ℕ) → sum_of (gifts_of k) s'.views ≡ sum_of (gifts_of k) s.views = λ k. omega
      (arith, total-set (gifts_of k) s.views id v v' at) in
      let free : sum_of (claims_of x) s.views ≡ 0 = r.unclaimed x (omega arith) in
      let keeps_seat : (j : ℕ) (u : V) → get_elem? s.views j ≡ some u → u.seated ≡ true
      → IsSeat gives works s' u = λ j u a e. stays gives works s s' u (omega arith)
      (λ k d. let b = claimed_below gives works s r j u a k d in set_else s.homes x k none (λ e. omega arith))
      (r.each_seat j u a e) in
      let mine = keeps_seat id v at seated in
      record {
        words_count = length-set s.words 0 (x + 1) ∙ wide;
        slots_count = length-set s.homes x none ∙ r.slots_count;
        works_count = r.works_count;
        claimed = λ k below. let g = grows k in dite (ℕ_discrete x k) (λ e. let b = same_bit k x e in
            let f : sum_of (claims_of k) s.views ≡ 0 = subst (λ (z : ℕ). sum_of (claims_of z) s.views ≡ 0) e free in
            omega arith)
            (λ ne. let b = other_bit k x ne in let o = r.claimed k (omega arith) in omega arith);
        unclaimed = λ k past. let g = grows k in let ne : x ≢ k = λ e. absurd (omega arith) in
            let b = other_bit k x ne in let o = r.unclaimed k (omega arith) in omega arith;
        words = λ k i. words k ∙ (r.words k i ∙ sym (gifts k));
        waits = λ k w above a. set_else s.homes x k none (λ e. omega arith) ∙ r.waits k w (omega arith) a;
        marks = let m = r.marks in omega (arith, total-set marks_of s.views id v v' at);
        gathered_marks_few = let m = r.gathered_marks_few in omega (
          arith,
          total-set (λ u. u.gathered_marks) s.views id v v' at,
          total-set seats_of s.views id v v' at,
          length-set s.views id v',
        );
        seats_at_most_64 = let f = r.seats_at_most_64 in omega (arith, length-set s.views id v');
        opener_is_first = opener_stays gives works s.views id v v' at (λ p. p) seated r.opener_is_first;
        opener_counts = counts_stay gives works s r id v v' at refl refl refl;
        each_seat = seats_stay gives works (λ j u. u.seated ≡ true → IsSeat gives works s' u) s.views id v'
            (λ _. record {
              keeps = mine.keeps;
              claimed_rises = rises-snoc v.claimed x mine.claimed_rises
                  (λ i l. let d = in_times v.claimed i (get_or v.claimed i 0) (at_of v.claimed i l) in
                  let b = claimed_below gives works s r id v at (get_or v.claimed i 0) (omega arith) in omega arith);
              given_is = inr (x, ap (λ (l : List ℕ). l ++ x ∷ []) idle);
              home = mine.home;
              fits = mine.fits;
              spent_late = mine.spent_late;
            }) (λ j u _ a e. keeps_seat j u a e);
        each_vacated = seats_stay gives works (λ j u. u.seated ≡ false → u ≡ vacated_view) s.views id v'
            (λ e. absurd (true≢false (sym seated ∙ e))) (λ j u _ a e. r.each_vacated j u a e);
      }

  -- A claim that finds every number drawn.
  claims_none : (s : S) (r : BoardHistory gives works s) (id : ℕ) (v : V) (x : ℕ) → get_elem? s.views id ≡ some v
      → v.seated ≡ true → v.spent ≡ false → draw_count s ≡ x → length works ≤ x
      → BoardHistory gives works record {
        words = set s.words 0 (x + 1);
        homes = s.homes;
        views = set s.views id (with_spent v);
      }
  claims_none s r id v x at seated fresh is past =
      let v' : V = with_spent v in
      let s' : S = record { words = set s.words 0 (x + 1); homes = s.homes; views = set s.views id v' } in
      let wide = r.words_count in
      let now : draw_count s' ≡ x + 1 = get_or-set_same s.words 0 (x + 1) 0 (omega arith) in
      let words : (k : ℕ) → work_word s' k ≡ work_word s k = λ k. get_or-set_other s.words 0 (k + 1) (x + 1) 0
      (λ e. omega arith) in
      let same : (k : ℕ) → sum_of (claims_of k) s'.views ≡ sum_of (claims_of k) s.views = λ k. omega
      (arith, total-set (claims_of k) s.views id v v' at) in
      let gifts : (k : ℕ) → sum_of (gifts_of k) s'.views ≡ sum_of (gifts_of k) s.views = λ k. omega
      (arith, total-set (gifts_of k) s.views id v v' at) in
      let marks : sum_of marks_of s'.views ≡ sum_of marks_of s.views + 1 = omega
      (arith, total-set marks_of s.views id v v' at, ap (λ (b : Bool). cond {A = ℕ} b 1 0) fresh) in
      let keeps_seat : (j : ℕ) (u : V) → get_elem? s.views j ≡ some u → u.seated ≡ true
      → IsSeat gives works s' u = λ j u a e. stays gives works s s' u (omega arith) (λ k d. refl)
      (r.each_seat j u a e) in
      let mine = keeps_seat id v at seated in
      record {
        words_count = length-set s.words 0 (x + 1) ∙ wide;
        slots_count = r.slots_count;
        works_count = r.works_count;
        claimed = λ k below. same k ∙ r.claimed k (omega arith);
        unclaimed = λ k above. same k ∙ r.unclaimed k (omega arith);
        words = λ k i. words k ∙ (r.words k i ∙ sym (gifts k));
        waits = λ k w above a. let i = at_inside works k w a in absurd (omega arith);
        marks = let b = r.marks in omega arith;
        gathered_marks_few = let m = r.gathered_marks_few in omega (
          arith,
          total-set (λ u. u.gathered_marks) s.views id v v' at,
          total-set seats_of s.views id v v' at,
          length-set s.views id v',
        );
        seats_at_most_64 = let f = r.seats_at_most_64 in omega (arith, length-set s.views id v');
        opener_is_first = opener_stays gives works s.views id v v' at (λ p. p) seated r.opener_is_first;
        opener_counts = counts_stay gives works s r id v v' at refl refl refl;
        each_seat = seats_stay gives works (λ j u. u.seated ≡ true → IsSeat gives works s' u) s.views id v'
            (λ _. record {
              keeps = mine.keeps;
              claimed_rises = mine.claimed_rises;
              given_is = mine.given_is;
              home = mine.home;
              fits = mine.fits;
              spent_late = λ _. omega arith;
            }) (λ j u _ a e. keeps_seat j u a e);
        each_vacated = seats_stay gives works (λ j u. u.seated ≡ false → u ≡ vacated_view) s.views id v'
            (λ e. absurd (true≢false (sym seated ∙ e))) (λ j u _ a e. r.each_vacated j u a e);
      }

  -- Word 0 can count one more.
  no_wrap : (s : S) (r : BoardHistory gives works s) → (draw_count s + 1) % 18446744073709551616 ≡ draw_count s + 1
  no_wrap s r = let few = marks_few gives works s r in let b = r.marks in let l = r.works_count in omega arith

  pub claims : (slots id : ℕ) (me : ViewAndSlots W F) → me.0.seated ≡ true → me.0.spent ≡ false
      → me.0.claimed ≡ result_numbers me.0.given
      → Allows (BoardHistory gives works) slots id me 0 (λ n. (n + 1) % 2 ^ 64)
      (DrawsNumber gives (step slots 0 1 0 none) me)
  claims slots id me seated fresh idle s r deep at _ = let v : V = me.0 in let x : ℕ = draw_count s in
      let d = r.slots_count in let n = no_wrap s r in let m = r.each_seat id v at seated in
      let here = at_inside s.views id v at in dite (dec_le (suc x) (length works))
      (λ inside. let t = there works x inside in
      let s' : S = record {
        words = set s.words 0 ((x + 1) % 18446744073709551616);
        homes = set s.homes x none;
        views = set s.views id (with_claim v x);
      } in
      let kept : BoardHistory gives works s' = subst
      (λ (z : ℕ). BoardHistory gives works record {
        words = set s.words 0 z;
        homes = set s.homes x none;
        views = set s.views id (with_claim v x);
      }) (sym n) (claims_some s r id v x at seated idle refl inside) in (
        with_claim v x,
        takes x (Some (Unclaimed t.0)),
        r.waits x t.0 (omega arith) t.1,
        kept,
        record {
          takes = λ _. record {
            work = t.0;
            opened = ap (λ (l : List W). get_elem? l x) m.keeps ∙ t.1;
            above = λ i l. (claimed_below gives works s r id v at (get_or v.claimed i 0)
                (let b = in_times v.claimed i (get_or v.claimed i 0) (at_of v.claimed i l) in omega arith)).0;
            new_is = refl;
          };
          ends = λ above. absurd (omega arith);
          history = record {
            board = s';
            history = subst (λ (l : List W). BoardHistory gives l s')
                (sym m.keeps) kept;
            seat = id;
            has = set_here s.views id (with_claim v x) here;
          };
        },
      ))
      (λ past.
      let s' : S = record {
        words = set s.words 0 ((x + 1) % 18446744073709551616);
        homes = s.homes;
        views = set s.views id (with_spent v);
      } in
      let kept : BoardHistory gives works s' = subst
      (λ (z : ℕ). BoardHistory gives works record {
        words = set s.words 0 z;
        homes = s.homes;
        views = set s.views id (with_spent v);
      }) (sym n) (claims_none s r id v x at seated fresh refl (omega arith)) in (
        with_spent v,
        keeps,
        tt,
        kept,
        record {
          takes = λ below. absurd (omega arith);
          ends = λ _. refl;
          history = record {
            board = s';
            history = subst (λ (l : List W). BoardHistory gives l s')
                (sym m.keeps) kept;
            seat = id;
            has = set_here s.views id (with_spent v) here;
          };
        },
      ))
