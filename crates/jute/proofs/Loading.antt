-- A value that is read in parts, step by step, and however the bytes are cut.
use Rattle.std.proofs.Common.{◌≡◌, ℕ, zero, suc, ◌<◌, Bool, true, false, List, ◌++◌, length, Result, Ok, Err, refl, ap, subst, ◌∙◌, arith, inl, inr}
use Rattle.values.specs.declared.fault.Fault.{Fault}
use Rattle.jute.specs.Format.{Format, ◌>>=◌}
use Rattle.jute.specs.Pieces.{IsStable, LeavesAtMost, LeavesFewer}
use Rattle.jute.specs.Stream.{IsStreamable, IsStream}
use Rattle.jute.specs.Loading.{LoadRules, unless_last, load_within, load_from}
use Rattle.jute.proofs.Streaming.{shorter_rest}

-- A value that was read in a phase is read again.
stands_in : {A : Type 0} (f : Format A) → IsStreamable f → (bytes more : List ℕ)
    → IsStable (f.read bytes) more (f.read (bytes ++ more))
stands_in f s bytes more = s.pieced.stands bytes more

pub at_most : {A : Type 0} (r : Result (A × List ℕ) Fault) (n : ℕ) → LeavesFewer r n → LeavesAtMost r n
at_most (Ok x) n h = omega (arith, h)
at_most (Err e) n h = tt

module _ {S A L : Type 0} (load : LoadRules S A L) (s : IsStream load.stream) where
  -- What is made of a value, and of the others.
  abbrev pub made_with : L → (A → L → List ℕ → Result (L × List ℕ) Fault) → A × List ℕ → Result (L × List ℕ) Fault
  made_with made others x = load.takes made x.0 >>= λ next. unless_last (load.is_last x.0) next x.1
      (others x.0 next x.1)

  abbrev pub one : Result (A × List ℕ) Fault → L → (A → L → List ℕ → Result (L × List ℕ) Fault)
      → Result (L × List ℕ) Fault
  one r made others = r >>= made_with made others

  abbrev pub behind : S → A → L → List ℕ → Result (L × List ℕ) Fault
  behind phase v next rest = load_from load (load.stream.after phase v) next rest

  taken_same : (q : Result L Fault) (last : Bool) (rest : List ℕ) (g h : L → Result (L × List ℕ) Fault)
      → ((next : L) → g next ≡ h next)
      → (q >>= λ next. unless_last last next rest (g next)) ≡ (q >>= λ next. unless_last last next rest (h next))
  taken_same (Ok next) last rest g h same = ap (unless_last last next rest) (same next)
  taken_same (Err e) last rest g h same = refl

  one_same : (phase : S) (bytes : List ℕ) (made : L) (r : Result (A × List ℕ) Fault)
      (g h : A → L → List ℕ → Result (L × List ℕ) Fault) → (load.stream.format phase).read bytes ≡ r
      → ((v : A) (next : L) (rest : List ℕ) → length rest < length bytes → g v next rest ≡ h v next rest)
      → one r made g ≡ one r made h
  one_same phase bytes made (Ok x) g h e same =
      taken_same (load.takes made x.0) (load.is_last x.0) x.1 (λ next. g x.0 next x.1) (λ next. h x.0 next x.1)
      (λ next. same x.0 next x.1 (shorter_rest load.stream s phase bytes x.1 x.0 e))
  one_same phase bytes made (Err d) g h e same = refl

  enough : (n m : ℕ) (phase : S) (made : L) (bytes : List ℕ) → length bytes < n → length bytes < m
      → load_within load n phase made bytes ≡ load_within load m phase made bytes
  unfolding load_within
  enough zero m phase made bytes ln lm = absurd (omega (arith, ln))
  enough (suc n) zero phase made bytes ln lm = absurd (omega (arith, lm))
  enough (suc n) (suc m) phase made bytes ln lm =
      one_same phase bytes made ((load.stream.format phase).read bytes)
      (λ v. load_within load n (load.stream.after phase v)) (λ v. load_within load m (load.stream.after phase v)) refl
      (λ v next rest lt.
      enough n m (load.stream.after phase v) next rest (omega (arith, lt, ln)) (omega (arith, lt, lm)))

  -- One step, without the bound.
  pub load_step : (phase : S) (made : L) (bytes : List ℕ)
      → load_from load phase made bytes ≡ one ((load.stream.format phase).read bytes) made (behind phase)
  unfolding load_within
  load_step phase made bytes =
      one_same phase bytes made ((load.stream.format phase).read bytes)
      (λ v. load_within load (length bytes) (load.stream.after phase v)) (behind phase) refl
      (λ v next rest lt. enough (length bytes) (suc (length rest)) (load.stream.after phase v) next rest lt
      (omega arith))

  -- The step for each result of the reading.
  pub load_refused : (phase : S) (made : L) (bytes : List ℕ) (e : Fault)
      → (load.stream.format phase).read bytes ≡ Err e → load_from load phase made bytes ≡ Err e
  load_refused phase made bytes e h = load_step phase made bytes ∙ ap (λ r. one r made (behind phase)) h

  pub load_read : (phase : S) (made : L) (bytes rest : List ℕ) (v : A)
      → (load.stream.format phase).read bytes ≡ Ok (v, rest)
      → load_from load phase made bytes ≡ made_with made (behind phase) (v, rest)
  load_read phase made bytes rest v h = load_step phase made bytes ∙ ap (λ r. one r made (behind phase)) h

  -- It stays the same whatever follows.
  pub load_read_on : (phase : S) (made : L) (bytes rest more : List ℕ) (v : A)
      → (load.stream.format phase).read bytes ≡ Ok (v, rest)
      → load_from load phase made (bytes ++ more) ≡ made_with made (behind phase) (v, rest ++ more)
  load_read_on phase made bytes rest more v h =
      load_read phase made (bytes ++ more) (rest ++ more) v
      (subst (λ (r : Result (A × List ℕ) Fault). IsStable r more ((load.stream.format phase).read (bytes ++ more)))
      h
      (stands_in (load.stream.format phase) (s.streamed phase) bytes more))

  -- ---- more bytes

  taken_stands : (q : Result L Fault) (last : Bool) (rest more : List ℕ) (g h : L → Result (L × List ℕ) Fault)
      → ((next : L) → IsStable (g next) more (h next))
      → IsStable (q >>= λ next. unless_last last next rest (g next)) more
      (q >>= λ next. unless_last last next (rest ++ more) (h next))
  taken_stands (Ok next) true rest more g h others = refl
  taken_stands (Ok next) false rest more g h others = others next
  taken_stands (Err e) last rest more g h others = inr refl

  one_stands : (phase : S) (made : L) (bytes more : List ℕ) (r after : Result (A × List ℕ) Fault)
      → (load.stream.format phase).read bytes ≡ r → IsStable r more after
      → ((p : S) (next : L) (b : List ℕ) → length b < length bytes
      → IsStable (load_from load p next b) more (load_from load p next (b ++ more)))
      → IsStable (one r made (behind phase)) more (one after made (behind phase))
  one_stands phase made bytes more (Ok x) after e h others =
      rw h (taken_stands (load.takes made x.0) (load.is_last x.0) x.1 more (λ next. behind phase x.0 next x.1)
      (λ next. behind phase x.0 next (x.1 ++ more))
      (λ next. others (load.stream.after phase x.0) next x.1 (shorter_rest load.stream s phase bytes x.1 x.0 e)))
  one_stands phase made bytes more (Err d) after e (inl short) others = inl short
  one_stands phase made bytes more (Err d) after e (inr same) others = inr (ap (λ r. one r made (behind phase)) same)

  stands_within : (n : ℕ) (phase : S) (made : L) (bytes more : List ℕ) → length bytes < n
      → IsStable (load_from load phase made bytes) more (load_from load phase made (bytes ++ more))
  stands_within zero phase made bytes more lt = absurd (omega (arith, lt))
  stands_within (suc n) phase made bytes more lt =
      rw (load_step phase made bytes, load_step phase made (bytes ++ more))
      (one_stands phase made bytes more ((load.stream.format phase).read bytes)
      ((load.stream.format phase).read (bytes ++ more)) refl
      (stands_in (load.stream.format phase) (s.streamed phase) bytes more)
      (λ p next b shorter. stands_within n p next b more (omega (arith, shorter, lt))))

  pub load_stands : (phase : S) (made : L) (bytes more : List ℕ)
      → IsStable (load_from load phase made bytes) more (load_from load phase made (bytes ++ more))
  load_stands phase made bytes more = stands_within (suc (length bytes)) phase made bytes more (omega arith)

  -- ---- fewer bytes are left

  taken_eats : (q : Result L Fault) (last : Bool) (rest : List ℕ) (n : ℕ) (g : L → Result (L × List ℕ) Fault)
      → length rest < n → ((next : L) → LeavesFewer (g next) (length rest))
      → LeavesFewer (q >>= λ next. unless_last last next rest (g next)) n
  taken_eats (Ok next) true rest n g lt others = lt
  taken_eats (Ok next) false rest n g lt others = longer (g next) (others next)
    where
      longer : (r : Result (L × List ℕ) Fault) → LeavesFewer r (length rest) → LeavesFewer r n
      longer (Ok x) h = omega (arith, h, lt)
      longer (Err e) h = tt
  taken_eats (Err e) last rest n g lt others = tt

  one_eats : (phase : S) (made : L) (bytes : List ℕ) (r : Result (A × List ℕ) Fault)
      → (load.stream.format phase).read bytes ≡ r
      → ((p : S) (next : L) (b : List ℕ) → length b < length bytes → LeavesFewer (load_from load p next b) (length b))
      → LeavesFewer (one r made (behind phase)) (length bytes)
  one_eats phase made bytes (Ok x) e others =
      let lt = shorter_rest load.stream s phase bytes x.1 x.0 e in
      taken_eats (load.takes made x.0) (load.is_last x.0) x.1 (length bytes) (λ next. behind phase x.0 next x.1) lt
      (λ next. others (load.stream.after phase x.0) next x.1 lt)
  one_eats phase made bytes (Err d) e others = tt

  eats_within : (n : ℕ) (phase : S) (made : L) (bytes : List ℕ) → length bytes < n
      → LeavesFewer (load_from load phase made bytes) (length bytes)
  eats_within zero phase made bytes lt = absurd (omega (arith, lt))
  eats_within (suc n) phase made bytes lt =
      rw (load_step phase made bytes)
      (one_eats phase made bytes ((load.stream.format phase).read bytes) refl
      (λ p next b shorter. eats_within n p next b (omega (arith, shorter, lt))))

  pub load_eats : (phase : S) (made : L) (bytes : List ℕ) → LeavesFewer (load_from load phase made bytes) (length bytes)
  load_eats phase made bytes = eats_within (suc (length bytes)) phase made bytes (omega arith)
