-- Steps of reading: the value of a step that succeeded, the source of a refusal, and the effect of more bytes.
use Rattle.std.proofs.Common.{◌≡◌, ℕ, zero, suc, ◌+◌, ◌<◌, ◌≤◌, Bool, true, false, cond, ltb, List, [], ◌∷◌, ◌++◌, length, take, drop, Result, Ok, Err, refl, ap, ◌∙◌, arith, ◌⊎◌, inl, inr}
use Rattle.std.proofs.lemmas.Bool.{cases_lt, lt-ltb, le-ltb}
use Rattle.std.proofs.lemmas.List.{drop-append-le, length-append, length-drop, length-take, get_or-drop, get_or-take, get_or_past}
use Rattle.values.specs.declared.fault.Fault.{Fault}
use Rattle.values.specs.declared.fault.Fault.TheVariants.{Short}
use Rattle.jute.specs.Format.{◌>>=◌, Format, SpellsFront}
use Rattle.jute.specs.Laws.{IsBytes, IsLawful}
use Rattle.jute.specs.Pieces.{IsStable, LeavesAtMost, LeavesFewer}

-- ---- parts of bytes

pub IsBytes-drop : (n : ℕ) (bytes : List ℕ) → IsBytes bytes → IsBytes (drop n bytes)
IsBytes-drop n bytes h i = rw get_or-drop (h (n + i))

pub IsBytes-take : (n : ℕ) (bytes : List ℕ) → IsBytes bytes → IsBytes (take n bytes)
IsBytes-take n bytes h i =
    elim (cases_lt i n) [
      | inl lt ↦ rw (get_or-take n bytes i 0 lt) (h i)
      | inr le ↦ rw (get_or_past (take n bytes) i 0 (omega (arith, length-take n bytes))) (omega arith)
    ]

pub IsBytes-back : (a b : List ℕ) → IsBytes (a ++ b) → IsBytes b
IsBytes-back [] b h = h
IsBytes-back (x ∷ a) b h = IsBytes-back a b (λ i. h (suc i))

pub IsBytes-front : (a b : List ℕ) → IsBytes (a ++ b) → IsBytes a
IsBytes-front [] b h i = omega arith
IsBytes-front (x ∷ a) b h zero = h 0
IsBytes-front (x ∷ a) b h (suc i) = IsBytes-front a b (λ i. h (suc i)) i

pub same_length : (x y : List ℕ) → x ≡ y → length y ≤ length x
same_length x y e = omega (arith, ap length e)

-- ---- the value of a step

-- The value of a step that succeeded.
pub bind_ok : {A B F : Type 0} (r : Result A F) (f : A → Result B F) (y : B) → (r >>= f) ≡ Ok y
    → (x : A) × (r ≡ Ok x) × (f x ≡ Ok y)
bind_ok (Ok x) f y e = (x, refl, e)
bind_ok (Err d) f y e = absurd cc

-- A test that succeeded.
pub guard_ok : {A F : Type 0} (b : Bool) (d : F) (x y : A) → cond b (Err d) (Ok x) ≡ Ok y → (b ≡ false) × (x ≡ y)
guard_ok true d x y e = absurd cc
guard_ok false d x y e = (refl, cc)

pub guard_ended : {A F : Type 0} (b : Bool) (d : F) (x y : A) → cond b (Ok x) (Err d) ≡ Ok y → (b ≡ true) × (x ≡ y)
guard_ended true d x y e = (refl, cc)
guard_ended false d x y e = absurd cc

abbrev done : {A : Type 0} → A → Result A Fault
done x = Ok x

pub ok_is : {A : Type 0} (x y : A) → done x ≡ done y → x ≡ y
ok_is x y e = cc

-- ---- the source of a refusal

pub guard_err : {A F : Type 0} (b : Bool) (d e : F) (x : A) → cond b (Err d) (Ok x) ≡ Err e → (b ≡ true) × (d ≡ e)
guard_err true d e x h = (refl, cc)
guard_err false d e x h = absurd cc

pub guard_refused : {A F : Type 0} (b : Bool) (d e : F) (x : A) → cond b (Ok x) (Err d) ≡ Err e → (b ≡ false) × (d ≡ e)
guard_refused true d e x h = absurd cc
guard_refused false d e x h = (refl, cc)

pub bind_err : {A B F : Type 0} (r : Result A F) (f : A → Result B F) (e : F) → (r >>= f) ≡ Err e
    → (r ≡ Err e) ⊎ ((x : A) × (r ≡ Ok x) × (f x ≡ Err e))
bind_err (Ok x) f e h = inr (x, refl, h)
bind_err (Err d) f e h = let same : d ≡ e = cc in inl (ap (λ d. Err d) same)

pub not_refused : {A : Type 0} (x : A) (e : Fault) → done x ≡ Err e → ⊥
not_refused x e h = absurd cc

-- After a value that is spelled.
pub behind_read : {A : Type 0} (f : Format A) → IsLawful f
    → (S : A → List ℕ → Type 0) (bytes : List ℕ) (b : SpellsFront f S bytes) → f.read bytes ≡ Ok (b.0, b.2)
behind_read f lf S bytes b = ap f.read b.3 ∙ lf.again b.0 b.1 b.2 b.4

-- ---- more bytes

pub then_stands : {A B : Type 0} (r after : Result (A × List ℕ) Fault) (more : List ℕ) (f : A × List ℕ
    → Result (B × List ℕ) Fault)
    → IsStable r more after → ((a : A) (rest : List ℕ) → IsStable (f (a, rest)) more (f (a, rest ++ more)))
    → IsStable (r >>= f) more (after >>= f)
then_stands (Ok x) after more f h k = rw h (k x.0 x.1)
then_stands (Err e) after more f (inl s) k = inl s
then_stands (Err e) after more f (inr s) k = inr (rw s refl)

-- A step that reads nothing.
pub plain_stands : {B C : Type 0} (q : Result B Fault) (to : B → C) (rest more : List ℕ)
    → IsStable (q >>= λ k. Ok (to k, rest)) more (q >>= λ k. Ok (to k, rest ++ more))
plain_stands (Ok k) to rest more = refl
plain_stands (Err e) to rest more = inr refl

pub then_leaves : {A B : Type 0} (r : Result (A × List ℕ) Fault) (n : ℕ) (f : A × List ℕ → Result (B × List ℕ) Fault)
    → LeavesAtMost r n → ((a : A) (rest : List ℕ) → length rest ≤ n → LeavesAtMost (f (a, rest)) n)
    → LeavesAtMost (r >>= f) n
then_leaves (Ok x) n f h k = k x.0 x.1 h
then_leaves (Err e) n f h k = tt

pub plain_leaves : {B C : Type 0} (q : Result B Fault) (to : B → C) (rest : List ℕ) (n : ℕ) → length rest ≤ n
    → LeavesAtMost (q >>= λ k. Ok (to k, rest)) n
plain_leaves (Ok k) to rest n h = h
plain_leaves (Err e) to rest n h = tt

pub within : {A : Type 0} (r : Result (A × List ℕ) Fault) (m n : ℕ) → m ≤ n → LeavesAtMost r m → LeavesAtMost r n
within (Ok x) m n le h = omega (arith, h, le)
within (Err e) m n le h = tt

-- This many bytes, or too few of them.
pub cut_stands : {B : Type 0} (n : ℕ) (value : List ℕ → B) (bytes more : List ℕ)
    → (n ≤ length bytes → value (bytes ++ more) ≡ value bytes)
    → IsStable (cond (ltb (length bytes) n) (Err Short) (Ok (value bytes, drop n bytes))) more
    (cond (ltb (length (bytes ++ more)) n) (Err Short) (Ok (value (bytes ++ more), drop n (bytes ++ more))))
cut_stands n value bytes more same =
    elim (cases_lt (length bytes) n) [
      | inl lt ↦ rw (lt-ltb _ _ lt) (inl refl)
      | inr le ↦
          let longer : ltb (length (bytes ++ more)) n ≡ false = le-ltb _ _ (omega (arith, length-append bytes more)) in
          rw (le-ltb _ _ le, longer, same le, drop-append-le n bytes more le) refl
    ]

pub cut_leaves : {B : Type 0} (n : ℕ) (value : B) (bytes : List ℕ)
    → LeavesAtMost (cond (ltb (length bytes) n) (Err Short) (Ok (value, drop n bytes))) (length bytes)
cut_leaves n value bytes =
    elim (cases_lt (length bytes) n) [
      | inl lt ↦ rw (lt-ltb _ _ lt) tt
      | inr le ↦ rw (le-ltb _ _ le) (omega (arith, length-drop n bytes))
    ]

pub cut_eats : {B : Type 0} (n : ℕ) (value : B) (bytes : List ℕ) → 0 < n
    → LeavesFewer (cond (ltb (length bytes) n) (Err Short) (Ok (value, drop n bytes))) (length bytes)
cut_eats n value bytes some =
    elim (cases_lt (length bytes) n) [
      | inl lt ↦ rw (lt-ltb _ _ lt) tt
      | inr le ↦ rw (le-ltb _ _ le) (omega (arith, length-drop n bytes))
    ]

shorter : {A : Type 0} (r : Result (A × List ℕ) Fault) (m n : ℕ) → m < n → LeavesAtMost r m → LeavesFewer r n
shorter (Ok x) m n lt h = omega (arith, h, lt)
shorter (Err e) m n lt h = tt

pub then_eats : {A B : Type 0} (r : Result (A × List ℕ) Fault) (n : ℕ) (f : A × List ℕ → Result (B × List ℕ) Fault)
    → LeavesFewer r n → ((a : A) (rest : List ℕ) → LeavesAtMost (f (a, rest)) (length rest)) → LeavesFewer (r >>= f) n
then_eats (Ok x) n f h k = shorter (f x) (length x.1) n h (k x.0 x.1)
then_eats (Err e) n f h k = tt
