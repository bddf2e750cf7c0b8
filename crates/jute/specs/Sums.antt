-- Sums of cases, each after a tag that says which case it is; and values that fill a buffer.
use Rattle.std.specs.Prelude.{◌≡◌, ◌≢◌, ℕ, List, [], ◌++◌, length, Option, Some, None, Result, Ok, Err, ◌<◌, ◌^◌, ◌≤◌, ◌==◌, ◌⊎◌, if◌then◌else◌}
use Rattle.values.specs.declared.fault.Fault.{Fault}
use Rattle.values.specs.declared.fault.Fault.TheVariants.{Short, TrailingBytes}
use Rattle.jute.specs.Format.{Format, ◌>>=◌, SpellsFront, judged_at, buffer, buffer_at, buffer_limit}

-- ---- values without bytes, and no values

-- A value without fields: no bytes.
abbrev pub empty_format : Format (Unit {0})
empty_format = record {
  Spells = λ v bytes. bytes ≡ [];
  written = λ v. [];
  Fits = λ v. Unit {0};
  Writable = λ v. Unit {0};
  read = λ bytes. Ok (tt, bytes);
  against = λ e bytes. ⊥;
}

-- All bytes are refused, for one fault.
abbrev pub refusal_format : {A : Type 0} → Fault → Format A
refusal_format d = record {
  Spells = λ v bytes. ⊥;
  written = λ v. [];
  Fits = λ v. ⊥;
  Writable = λ v. ⊥;
  read = λ bytes. Err d;
  against = λ e bytes. e ≡ d;
}

-- ---- sums

unfoldable pub tagged_at : {K B : Type 0} → (List ℕ → Result (K × List ℕ) Fault)
    → (K → List ℕ → Result (B × List ℕ) Fault) → List ℕ → Result (B × List ℕ) Fault
tagged_at r s bytes = r bytes >>= λ k. s k.0 k.1

-- A tag, and a value in the format of that tag.
abbrev pub tagged_format : {K B : Type 0} → Format K → (B → K) → (K → Format B) → Format B
tagged_format tag tag_of f = record {
  Spells = λ v bytes. (x y : List ℕ) × (bytes ≡ x ++ y) × tag.Spells (tag_of v) x × (f (tag_of v)).Spells v y;
  written = λ v. tag.written (tag_of v) ++ (f (tag_of v)).written v;
  Fits = λ v. tag.Fits (tag_of v) × (f (tag_of v)).Fits v;
  Writable = λ v. tag.Writable (tag_of v) × (f (tag_of v)).Writable v;
  read = tagged_at tag.read (λ k. (f k).read);
  against = λ e bytes. tag.against e bytes ⊎ SpellsFront tag (λ k rest. (f k).against e rest) bytes;
}

-- ---- parts

-- A value that is spelled by all of the bytes.
unfoldable pub whole_value : {A : Type 0} → (List ℕ → Result (A × List ℕ) Fault) → List ℕ → Result A Fault
whole_value r bytes = r bytes >>= λ v. if length v.1 == 0 then Ok v.0 else Err TrailingBytes

-- The value is refused, or bytes follow it.
abbrev pub AgainstWhole : {A : Type 0} → Format A → Fault → List ℕ → Type 0
AgainstWhole f e bytes = f.against e bytes ⊎ ((e ≡ TrailingBytes) × SpellsFront f (λ v rest. rest ≢ []) bytes)

-- The value in a buffer; null holds none.
abbrev pub held_value : {A : Type 0} → (List ℕ → Result (A × List ℕ) Fault) → Option (List ℕ) → Result A Fault
held_value r None = Err Short
held_value r (Some bytes) = whole_value r bytes

abbrev pub AgainstHeld : {A : Type 0} → Format A → Fault → Option (List ℕ) → Type 0
AgainstHeld f e None = e ≡ Short
AgainstHeld f e (Some bytes) = AgainstWhole f e bytes

-- A buffer that isn't null, and holds a value and nothing after it.
abbrev pub held_in_buffer : {A : Type 0} → Format A → Format A
held_in_buffer f = record {
  Spells = λ v bytes. (x : List ℕ) × f.Spells v x × buffer.Spells (Some x) bytes;
  written = λ v. buffer.written (Some (f.written v));
  Fits = λ v. f.Fits v × (length (f.written v) ≤ buffer_limit);
  Writable = λ v. f.Writable v × (length (f.written v) < 2 ^ 31);
  read = judged_at (held_value f.read) buffer_at;
  against = λ e bytes. buffer.against e bytes ⊎ SpellsFront buffer (λ b rest. AgainstHeld f e b) bytes;
}
