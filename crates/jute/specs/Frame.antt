-- A frame: the number of bytes that follow, as an int, and those bytes. There is no null frame.
use Rattle.std.specs.Prelude.{◌≡◌, ℕ, List, length, take, drop, Result, Some, Ok, Err, nat_lt, nat_le, ◌<◌, ◌^◌, ◌≤◌, ◌⊎◌, if◌then◌else◌, ℤ, pos, negsuc}
use Rattle.values.specs.declared.fault.Fault.{Fault}
use Rattle.values.specs.declared.fault.Fault.TheVariants.{Short, BadLength}
use Rattle.jute.specs.Format.{Format, ◌>>=◌, SpellsFront, judged_format, int, with_count}

abbrev pub frame_length : ℕ → ℤ → Result ℕ Fault
frame_length limit (pos n) = if nat_le n limit then Ok n else Err BadLength
frame_length limit (negsuc n) = Err BadLength

-- The number of bytes that follow; there is no null.
abbrev pub frame_count : ℕ → Format ℕ
frame_count limit = judged_format (frame_length limit) (λ n. Some (pos n)) int

abbrev pub front_of : ℕ → List ℕ → Result (List ℕ × List ℕ) Fault
front_of n bytes = if nat_lt (length bytes) n then Err Short else Ok (take n bytes, drop n bytes)

unfoldable pub frame_at : ℕ → List ℕ → Result (List ℕ × List ℕ) Fault
frame_at limit bytes = (frame_count limit).read bytes >>= λ k. front_of k.0 k.1

-- The bytes after their length.
abbrev pub frame_bytes : List ℕ → List ℕ
frame_bytes bytes = with_count (length bytes) bytes

abbrev pub frame_format : ℕ → Format (List ℕ)
frame_format limit = record {
  Spells = λ v bytes. (length v ≤ limit) × (bytes ≡ frame_bytes v);
  written = frame_bytes;
  Fits = λ v. length v ≤ limit;
  Writable = λ v. length v < 2 ^ 31;
  read = frame_at limit;
  against = λ e bytes. (frame_count limit).against e bytes
      ⊎ ((e ≡ Short) × SpellsFront (frame_count limit) (λ n rest. length rest < n) bytes);
}
