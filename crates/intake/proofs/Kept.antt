-- The ports for which outputs are kept.
use Rattle.std.proofs.Common.{◌≡◌, ◌≢◌, ◌<◌, ◌+◌, ◌-◌, ◌⊎◌, ◌↔◌, ℕ, zero, suc, Bool, true, false, List, [], ◌∷◌, length, take, get_or, Option, Some, None, Result, Ok, Err, refl, ap, sym, ◌∙◌, subst, inl, inr, arith}
use Rattle.std.specs.Prelude.{Contains, IfOk, IsTrue}
use Rattle.world.specs.declared.output.Output.{Output}
use Rattle.std.specs.List.{swap_remove, slice_set, slice_index_or}
use Rattle.std.specs.Ordering.{nat_cmp}
use Rattle.std.specs.FinMap as finmap
use Rattle.std.proofs.lemmas.List.{take_more, take_all, take-take, take-set-le}
use Rattle.std.proofs.lemmas.Grind.{get_or_default_zero}
use Rattle.std.proofs.lemmas.List.Elements.{Contains-append_cases}
use Rattle.std.proofs.lemmas.List.Sorted.{IsPermutation-swap_remove, Contains-permutation}
use Rattle.std.proofs.lemmas.Bool.Decides.{eqb_tells}
use Rattle.world.proofs.NatMaps.{get-inserted, get-beside, get-removed, get-kept}
use Rattle.rtrb.specs.Ring.{received, SameProducer}
use Rattle.values.specs.declared.fault.NoMemory.{NoMemory}
use mathlib.Core.Bool.{true≢false}
use Rattle.intake.specs.declared.link.Link.{Link}
use Rattle.intake.specs.Links.{Links, outputs_owed, kept_for, kept_at, KeepsIfFull, KeepersAreAmong, PutsKept}
use Rattle.intake.proofs.Keeping.{Written, each_at, rests_at, same_wait, stays_put, is_there, rests_is, waits_is}

pub none_keeps : (keeping : List ℕ) → KeepersAreAmong keeping finmap.empty
none_keeps keeping n = inl (ap kept_for (finmap.get-empty nat_cmp n))

-- One port's outputs are kept or put.
pub among_written : (before after : List ℕ) (old : Links) (k : ℕ) (was is : Link) (new : Links)
    → Written old k was is new → ((n : ℕ) → Contains before n → Contains after n)
    → ((was.kept.items ≡ []) ⊎ Contains before k → (is.kept.items ≡ []) ⊎ Contains after k)
    → KeepersAreAmong before old → KeepersAreAmong after new
among_written before after old k was is new w more at listed n =
    each_at (λ j x y. (kept_for x ≡ []) ⊎ Contains before j → (kept_for y ≡ []) ⊎ Contains after j) old k was is new w at
    (λ j apart h. elim h [
      | inl none ↦ inl none
      | inr there ↦ inr (more j there)
    ]) n (listed n)

pub keeps_some : (b : Bool) (kept : List Output) → (IsTrue b ↔ (kept ≢ [])) → b ≡ true → kept ≡ [] → ⊥
keeps_some b kept tells is none = tells.0 is none

pub keeps_none : (b : Bool) (kept : List Output) → (IsTrue b ↔ (kept ≢ [])) → b ≡ false → kept ≡ []
keeps_none b [] tells is = refl
keeps_none true (o ∷ os) tells is = absurd (true≢false is)
keeps_none false (o ∷ os) tells is = absurd (true≢false (sym (tells.1 (λ none. cc))))

pub among_same : (keeping : List ℕ) (old : Links) (k : ℕ) (was is : Link) (new : Links) → Written old k was is new
    → is.kept ≡ was.kept → KeepersAreAmong keeping old → KeepersAreAmong keeping new
among_same keeping old k was is new w same =
    among_written keeping keeping old k was is new w (λ n there. there) (λ h. elim h [
      | inl none ↦ inl (ap (λ o. o.items) same ∙ none)
      | inr there ↦ inr there
    ])

pub among_added : (keeping : List ℕ) (links : Links) (k : ℕ) (link : Link) → link.kept.items ≡ []
    → KeepersAreAmong keeping links → KeepersAreAmong keeping (finmap.insert links k link)
among_added keeping links k link none listed n = elim (eqb_tells n k) [
  | inl h ↦ inl (ap kept_for (ap (finmap.get (finmap.insert links k link)) h.1 ∙ get-inserted links k link) ∙ none)
  | inr h ↦ elim (listed n) [
    | inl nothing ↦ inl (ap kept_for (get-beside links k n link h.1) ∙ nothing)
    | inr there ↦ inr there
  ]
]

pub among_without : (keeping : List ℕ) (links : Links) (k : ℕ) → KeepersAreAmong keeping links
    → KeepersAreAmong keeping (finmap.remove links k)
among_without keeping links k listed n = elim (eqb_tells n k) [
  | inl h ↦ inl (ap kept_for (ap (finmap.get (finmap.remove links k)) h.1 ∙ get-removed links k))
  | inr h ↦ elim (listed n) [
    | inl nothing ↦ inl (ap kept_for (get-kept links k n h.1) ∙ nothing)
    | inr there ↦ inr there
  ]
]

-- ---- the list is gone through from its end

contains_one : (k n : ℕ) → Contains (k ∷ []) n → n ≡ k
contains_one k n (zero, within, is) = sym is
contains_one k n (suc i, within, is) = absurd (let e : suc i < 1 = within in omega (arith, e))

contains_last : (keeping : List ℕ) (left n : ℕ) → left < length keeping → Contains (take (left + 1) keeping) n
    → n ≢ get_or keeping left 0 → Contains (take left keeping) n
contains_last keeping left n within there apart =
    let P : List ℕ → Type 0 = λ l. Contains l n in
    elim (Contains-append_cases (take left keeping) (get_or keeping left 0 ∷ []) n
    (subst P (take_more keeping left 0 within) there)) [
      | inl before ↦ before
      | inr last ↦ absurd (apart (contains_one (get_or keeping left 0) n last))
    ]

-- The list below a place stays when the port at that place is removed from it.
pub below_removed : (keeping : List ℕ) (left x : ℕ) → left < length keeping
    → take left (swap_remove keeping left x) ≡ take left keeping
below_removed keeping left x within =
    let last = slice_index_or keeping (length keeping - 1) x in
    take-take left (length keeping - 1) (slice_set keeping left last) (omega arith)
    ∙ take-set-le left keeping left last (omega arith)

-- A port that keeps nothing is removed.
pub among_removed : (keeping : List ℕ) (left x : ℕ) (links : Links) → left < length keeping → x ≡ get_or keeping left 0
    → kept_at links x ≡ [] → KeepersAreAmong keeping links → KeepersAreAmong (swap_remove keeping left x) links
among_removed keeping left x links within is none listed n = elim (listed n) [
  | inl nothing ↦ inl nothing
  | inr there ↦ by (Contains-permutation keeping (x ∷ swap_remove keeping left x) n
      (IsPermutation-swap_remove keeping left x within (is ∙ sym (get_or_default_zero keeping left x within))) there)
]
  where
    by : Contains (x ∷ swap_remove keeping left x) n → (kept_at links n ≡ []) ⊎ Contains (swap_remove keeping left x) n
    by (zero, inside, same) = inl (ap (kept_at links) (sym same) ∙ none)
    by (suc i, inside, same) = inr (i, (let e : suc i < length (x ∷ swap_remove keeping left x) = inside in omega (arith, e)), same)

-- One port of the list is gone through.
pub among_put : (keeping : List ℕ) (old new : Links) (k : ℕ)
    → ((n : ℕ) → n ≢ k → finmap.get new n ≡ finmap.get old n) → (kept_at old k ≡ [] → kept_at new k ≡ [])
    → KeepersAreAmong keeping old → KeepersAreAmong keeping new
among_put keeping old new k others fewer listed n = elim (eqb_tells n k) [
  | inl h ↦ elim (listed n) [
    | inl nothing ↦ inl (ap (kept_at new) h.1 ∙ fewer (ap (kept_at old) (sym h.1) ∙ nothing))
    | inr there ↦ inr there
  ]
  | inr h ↦ elim (listed n) [
    | inl nothing ↦ inl (ap kept_for (others n h.1) ∙ nothing)
    | inr there ↦ inr there
  ]
]

-- What is kept for a port that isn't in the front of the list is kept only if its outbox is full.
abbrev pub IsDoneFrom : ℕ → List ℕ → Links → Type 0
IsDoneFrom left keeping links = (n : ℕ) → KeepsIfFull (finmap.get links n) ⊎ Contains (take left keeping) n

nothing_kept : (o : Option Link) → kept_for o ≡ [] → KeepsIfFull o
nothing_kept None none = tt
nothing_kept (Some link) none = inl none

pub none_done : (keeping : List ℕ) (links : Links) → KeepersAreAmong keeping links
    → IsDoneFrom (length keeping) keeping links
none_done keeping links listed n = elim (listed n) [
  | inl nothing ↦ inl (nothing_kept (finmap.get links n) nothing)
  | inr there ↦ inr (let P : List ℕ → Type 0 = λ l. Contains l n in
      subst P (sym (take_all (length keeping) keeping (omega arith))) there)
]

pub next_done : (keeping : List ℕ) (left : ℕ) (old new : Links) (k : ℕ) → left < length keeping
    → k ≡ get_or keeping left 0 → ((n : ℕ) → n ≢ k → finmap.get new n ≡ finmap.get old n)
    → KeepsIfFull (finmap.get new k) → IsDoneFrom (left + 1) keeping old → IsDoneFrom left keeping new
next_done keeping left old new k within is others full done n = elim (eqb_tells n k) [
  | inl h ↦ inl (let P : ℕ → Type 0 = λ j. KeepsIfFull (finmap.get new j) in subst P (sym h.1) full)
  | inr h ↦ elim (done n) [
    | inl d ↦ inl (subst KeepsIfFull (sym (others n h.1)) d)
    | inr there ↦ inr (contains_last keeping left n within there (λ e. h.1 (e ∙ sym is)))
  ]
]

pub all_done : (keeping : List ℕ) (links : Links) → IsDoneFrom 0 keeping links → (n : ℕ)
    → KeepsIfFull (finmap.get links n)
all_done keeping links done n = elim (done n) [
  | inl d ↦ d
  | inr there ↦ absurd (let e : there.0 < 0 = there.1 in omega (arith, e))
]

-- ---- one port of the list

pub puts_kept_at : (old : Links) (k : ℕ) (was is : Link) (new : Links) → Written old k was is new
    → SameProducer was.outbox is.outbox → is.inbox ≡ was.inbox → is.slot ≡ was.slot
    → outputs_owed is ≡ outputs_owed was → KeepsIfFull (Some is) → (was.kept.items ≡ [] → is.kept.items ≡ [])
    → PutsKept k old new
puts_kept_at old k was is new w outbox inbox slot owes full fewer = record {
  rests = rests_at old k was is new w (stays_put was is outbox inbox slot) (ap (λ i. received i) inbox) owes;
  waits = same_wait old k was is new w inbox;
  full = subst KeepsIfFull (sym (is_there old k was is new w)) full;
  fewer = λ none. ap kept_for (is_there old k was is new w) ∙ fewer (sym (ap kept_for w.there) ∙ none);
  others = λ n apart. ap (λ (l : Links). finmap.get l n) w.written ∙ get-beside old k n is apart;
}

pub none_left : (r : Result Bool NoMemory) (old : Links) (k : ℕ) (was is : Link) (new : Links) → Written old k was is new
    → IfOk r (λ keeps. keeps ≡ false → is.kept.items ≡ []) → IfOk r (λ keeps. keeps ≡ false → kept_at new k ≡ [])
none_left (Ok b) old k was is new w none = λ no. ap kept_for (is_there old k was is new w) ∙ none no
none_left (Err e) old k was is new w none = tt

none_kept : (o : Option Link) → None ≡ o → (kept_for o ≡ []) × KeepsIfFull o
none_kept o none = subst (λ (x : Option Link). (kept_for x ≡ []) × KeepsIfFull x) none (refl, tt)

pub puts_kept_none : (old new : Links) (k : ℕ) → new ≡ old → None ≡ finmap.get old k
    → PutsKept k old new × (kept_at new k ≡ [])
puts_kept_none old new k is none =
    let P : Links → Type 0 = λ l. PutsKept k old l × (kept_at l k ≡ []) in
    let nothing = none_kept (finmap.get old k) none in
    subst P (sym is) (
      record {
        rests = rests_is old old refl;
        waits = waits_is old old refl;
        full = nothing.1;
        fewer = λ h. h;
        others = λ n apart. refl;
      },
      nothing.0,
    )

pub done_removed : (keeping : List ℕ) (left x : ℕ) (links : Links) → left < length keeping
    → IsDoneFrom left keeping links → IsDoneFrom left (swap_remove keeping left x) links
done_removed keeping left x links within done n = elim (done n) [
  | inl d ↦ inl d
  | inr there ↦ inr (let P : List ℕ → Type 0 = λ l. Contains l n in
      subst P (sym (below_removed keeping left x within)) there)
]
