-- Looking at ports, one after the other.
use Rattle.std.proofs.Common.{◌≤◌, ◌<◌, ◌+◌, ℕ, List, [], ◌∷◌, ◌++◌, length, take, get_or, refl, sym, ◌∙◌, subst, inl, inr}
use Rattle.std.proofs.lemmas.List.{take_all, take_more}
use Rattle.std.proofs.lemmas.List.Elements.{Contains-append_left, Contains-append_right}
use Rattle.intake.specs.Links.{Links, LooksAt}
use Rattle.intake.proofs.Keeping.{rests_same, rests_on}

pub looks_at_none : (links : Links) → LooksAt [] links links
looks_at_none links = record { rests = rests_same links; full = λ full. full; others = λ n. inl refl }

looks_on : (xs ys : List ℕ) (a b c : Links) → LooksAt xs a b → LooksAt ys b c → LooksAt (xs ++ ys) a c
looks_on xs ys a b c x y = record {
  rests = rests_on a b c x.rests y.rests;
  full = λ full. y.full (x.full full);
  others = λ n. elim (x.others n) [
    | inr h ↦ inr (Contains-append_left xs ys n h)
    | inl same ↦ elim (y.others n) [
      | inr h ↦ inr (Contains-append_right xs ys n h)
      | inl next ↦ inl (next ∙ same)
    ]
  ];
}

pub looks_next : (numbers : List ℕ) (k d : ℕ) (a b c : Links) → k < length numbers → LooksAt (take k numbers) a b
    → LooksAt (get_or numbers k d ∷ []) b c → LooksAt (take (k + 1) numbers) a c
looks_next numbers k d a b c within x y =
    let P : List ℕ → Type 0 = λ l. LooksAt l a c in
    subst P (sym (take_more numbers k d within)) (looks_on (take k numbers) (get_or numbers k d ∷ []) a b c x y)

pub looks_all : (numbers : List ℕ) (k : ℕ) (a b : Links) → length numbers ≤ k → LooksAt (take k numbers) a b
    → LooksAt numbers a b
looks_all numbers k a b all x =
    let P : List ℕ → Type 0 = λ l. LooksAt l a b in subst P (take_all k numbers all) x
