-- A worker's loop.
use Rattle.std.proofs.Common.{◌≡◌, ℕ, zero, suc, ◌+◌, ◌-◌, ◌<◌, ◌≤◌, max, List, [], ◌∷◌, ◌++◌, length, sym, refl, ap, ◌∙◌, arith, append_assoc, All}
use Rattle.std.proofs.lemmas.List.{append-nil}
use mathlib.Core.Option.{some, some-ne-none}
use lib.ListN.{get_elem?}
use Rattle.apply_board.specs.declared.view.View.{View}
use Rattle.apply_board.specs.Sitting.{Sitting}
use Rattle.apply_board.specs.Views.{with_claim, with_result, with_spent}
use Rattle.apply_board.specs.Seats.{IsIdle}
use Rattle.apply_workers.specs.Working.{IsWorked}

-- One more than the greatest number of the list.
abbrev pub reach : List ℕ → ℕ
reach [] = 0
reach (x ∷ xs) = max (x + 1) (reach xs)

reach_le : (xs : List ℕ) (k : ℕ) → All (λ x. x < k) xs → reach xs ≤ k
reach_le [] k h = omega arith
reach_le (x ∷ xs) k h = let a = h 0 0 (omega arith) in let b = reach_le xs k (λ i d l. h (suc i) d (omega arith)) in
    omega arith

reach_snoc : (xs : List ℕ) (k : ℕ) → k + 1 ≤ reach (xs ++ k ∷ [])
reach_snoc [] k = omega arith
reach_snoc (x ∷ xs) k = let r = reach_snoc xs k in omega arith

at_inside : {A : Type 0} (l : List A) (i : ℕ) (a : A) → get_elem? l i ≡ some a → i < length l
at_inside [] i a e = absurd (some-ne-none a (sym e))
at_inside (x ∷ xs) zero a e = omega arith
at_inside (x ∷ xs) (suc i) a e = omega (arith, at_inside xs i a e)

module _ {W F : Type 0} where
  -- Seat s is t so far.
  pub record Going (s t : Sitting W F) : Type 0 where
    pub own : t.board ≡ s.board
    pub idle : IsIdle t
    pub works : t.view.works ≡ s.view.works
    pub made : t.view.made ≡ s.view.made
    pub unjoined : t.view.unjoined ≡ s.view.unjoined
    pub begins : (more : List (ℕ × F)) × (t.view.given ≡ s.view.given ++ more)

  pub starts : (s : Sitting W F) → IsIdle s → Going s s
  starts s idle = record {
    own = refl;
    idle = idle;
    works = refl;
    made = refl;
    unjoined = refl;
    begins = ([], sym (append-nil s.view.given));
  }

  -- Seat t claims k and becomes m, then gives it and becomes u.
  pub goes_on : (s t m u : Sitting W F) (k : ℕ) (f : F) → Going s t → m.board ≡ t.board → m.view ≡ with_claim t.view k
      → u.board ≡ m.board → u.view ≡ with_result m.view k f → IsIdle u → Going s u
  goes_on s t m u k f h own claimed own' given idle = let e : u.view ≡ with_result (with_claim t.view k) k f = given
      ∙ ap (λ (v : View W F). with_result v k f) claimed in record {
        own = own' ∙ (own ∙ h.own);
        idle = idle;
        works = ap (λ (v : View W F). v.works) e ∙ h.works;
        made = ap (λ (v : View W F). v.made) e ∙ h.made;
        unjoined = ap (λ (v : View W F). v.unjoined) e ∙ h.unjoined;
        begins = (
          h.begins.0 ++ (k, f) ∷ [],
          ap (λ (v : View W F). v.given) e
              ∙ (ap (λ (l : List (ℕ × F)). l ++ (k, f) ∷ []) h.begins.1 ∙ append_assoc s.view.given h.begins.0
              ((k, f) ∷ [])),
        );
      }

  -- Fewer numbers are above those that the seat claimed.
  pub gets_near : (t m u : Sitting W F) (k : ℕ) (f : F) (w : W) → m.view ≡ with_claim t.view k
      → u.view ≡ with_result m.view k f → All (λ x. x < k) t.view.claimed → get_elem? t.view.works k ≡ some w
      → length u.view.works - reach u.view.claimed < length t.view.works - reach t.view.claimed
  gets_near t m u k f w claimed given above work = let e : u.view ≡ with_result (with_claim t.view k) k f = given
      ∙ ap (λ (v : View W F). with_result v k f) claimed in
      let r = ap (λ (v : View W F). reach v.claimed) e in let n = ap (λ (v : View W F). length v.works) e in
      let a = reach_le t.view.claimed k above in let b = reach_snoc t.view.claimed k in
      let l = at_inside t.view.works k w work in omega arith

  pub comes_back : (s t u : Sitting W F) → Going s t → u.board ≡ t.board → u.view ≡ with_spent t.view → IsIdle u
      → IsWorked s u
  comes_back s t u h own e idle = record {
    own = own ∙ h.own;
    idle = idle;
    spent = ap (λ (v : View W F). v.spent) e;
    works = ap (λ (v : View W F). v.works) e ∙ h.works;
    made = ap (λ (v : View W F). v.made) e ∙ h.made;
    unjoined = ap (λ (v : View W F). v.unjoined) e ∙ h.unjoined;
    begins = (h.begins.0, ap (λ (v : View W F). v.given) e ∙ h.begins.1);
  }
