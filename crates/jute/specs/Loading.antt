-- A value that is read in parts: the values of a stream are taken in order, each by what was made of those before it,
-- until the last one.
use Rattle.std.specs.Prelude.{◌≡◌, ℕ, zero, suc, Bool, true, false, List, [], ◌∷◌, ◌++◌, length, Result, Ok, Err, ◌⊎◌, if◌then◌else◌}
use Rattle.values.specs.declared.fault.Fault.{Fault}
use Rattle.values.specs.declared.fault.Fault.TheVariants.{Short}
use Rattle.jute.specs.Format.{Format, ◌>>=◌}
use Rattle.jute.specs.Laws.{IsSound}
use Rattle.jute.specs.Relation.{SpellsItems}
use Rattle.jute.specs.Stream.{PhasedStream}

pub record LoadRules (S A L : Type 0) : Type 1 where
  pub stream : PhasedStream S A
  -- What is made of a value and what was made so far, or the fault for which the value is refused.
  pub takes : L → A → Result L Fault
  pub is_last : A → Bool

-- ---- as a function

-- After the last value nothing more is read.
abbrev pub unless_last : {L : Type 0} → Bool → L → List ℕ → Result (L × List ℕ) Fault → Result (L × List ℕ) Fault
unless_last last made rest others = if last then Ok (made, rest) else others

-- With this bound on the number of values.
unfoldable pub load_within : {S A L : Type 0} → LoadRules S A L → ℕ → S → L → List ℕ → Result (L × List ℕ) Fault
load_within load zero phase made bytes = Err Short
load_within load (suc n) phase made bytes =
    (load.stream.format phase).read bytes >>= λ x. load.takes made x.0 >>= λ next.
    unless_last (load.is_last x.0) next x.1 (load_within load n (load.stream.after phase x.0) next x.1)

-- What the values make of what was made before them, and the bytes after the last one. Each value takes at least one
-- byte, so there are no more values than bytes.
abbrev pub load_from : {S A L : Type 0} → LoadRules S A L → S → L → List ℕ → Result (L × List ℕ) Fault
load_from load phase made bytes = load_within load (suc (length bytes)) phase made bytes

-- ---- as a relation

-- What the values make, taken in order.
abbrev pub made_of : {S A L : Type 0} → LoadRules S A L → L → List A → Result L Fault
made_of load made [] = Ok made
made_of load made (v ∷ vs) = load.takes made v >>= λ next. made_of load next vs

abbrev pub EndsAt : {A : Type 0} → Bool → List A → Type 0 → Type 0
EndsAt true behind others = behind ≡ []
EndsAt false behind others = others

-- The last value comes at the end, and nowhere else.
abbrev pub EndsOnce : {S A L : Type 0} → LoadRules S A L → List A → Type 0
EndsOnce load [] = ⊥
EndsOnce load (v ∷ vs) = EndsAt (load.is_last v) vs (EndsOnce load vs)

abbrev pub NoneIsLast : {S A L : Type 0} → LoadRules S A L → List A → Type 0
NoneIsLast load [] = Unit {0}
NoneIsLast load (v ∷ vs) = (load.is_last v ≡ false) × NoneIsLast load vs

-- The values that were loaded.
pub record IsLoaded {S A L : Type 0} (load : LoadRules S A L) (phase : S) (old : L) (bytes : List ℕ) (new : L)
    (rest : List ℕ) : Type 0 where
  pub found : List A
  pub end : S
  pub stand : SpellsItems load.stream found phase bytes end rest
  pub ends : EndsOnce load found
  pub made : made_of load old found ≡ Ok new

-- A value with this property is spelled at the front.
abbrev pub SpellsNext : {A : Type 0} → Format A → (A → Type 0) → List ℕ → Type 0
SpellsNext {A = A} f P bytes =
    (v : A) × (text rest : List ℕ) × (bytes ≡ text ++ rest) × f.Spells v text × P v

-- Some values at the front were taken, none of them the last. Then the next field isn't spelled, or the next value is
-- spelled and refused.
pub record IsRefused {S A L : Type 0} (load : LoadRules S A L) (phase : S) (old : L) (bytes : List ℕ)
    (e : Fault) : Type 0 where
  pub found : List A
  pub end : S
  pub rest : List ℕ
  pub stand : SpellsItems load.stream found phase bytes end rest
  pub none_last : NoneIsLast load found
  pub so_far : L
  pub made : made_of load old found ≡ Ok so_far
  pub next : (load.stream.format end).against e rest
      ⊎ SpellsNext (load.stream.format end) (λ v. load.takes so_far v ≡ Err e) rest

-- ---- the requirements

-- Each format of the stream is sound.
pub record AreSound {S A : Type 0} (stream : PhasedStream S A) : Type 0 where
  pub sound : (phase : S) → IsSound (stream.format phase)

-- No value is refused for want of bytes.
pub record NeverWaits {S A L : Type 0} (load : LoadRules S A L) : Type 0 where
  pub goes_on : (made : L) (v : A) → load.takes made v ≡ Err Short → ⊥
