-- The ends of transactions, which a leader spells in several ways; what is written is the shortest.
use Rattle.std.specs.Prelude.{◌≡◌, ◌≢◌, ℕ, ℤ, negsuc, Bool, true, false, ◌&&◌, ◌||◌, ◌==◌, List, [], ◌∷◌, ◌++◌, length, get_or, Option, Some, None, Result, Ok, Err, IsTrue, IsFalse, ◌<◌, ◌^◌, ◌≤◌, ◌⊎◌, if◌then◌else◌}
use Rattle.std.specs.List.{flat_map}
use Rattle.values.specs.declared.fault.Fault.{Fault}
use Rattle.values.specs.declared.fault.Fault.TheVariants.{Short, TrailingBytes}
use Rattle.jute.specs.Format.{Format, ◌>>=◌, SpellsFront, judged_at, buffer, buffer_at, buffer_limit, text_format, vector_of, or_empty, pair_of}
use Rattle.jute.specs.Sums.{empty_format, held_value, held_in_buffer}
use Rattle.paths_and_acls.specs.Paths.{is_child_path}
use Rattle.paths_and_acls.specs.Fields.{child_path}

-- ---- the digest of the leader's tree

abbrev pub digest_length : ℕ
digest_length = 12

abbrev pub is_trailer : List ℕ → Bool
is_trailer bytes = length bytes == 0 || length bytes == digest_length

-- A digest of any version, or nothing.
abbrev pub trailer_format : Format (Unit {0})
trailer_format = record {
  Spells = λ v bytes. IsTrue (is_trailer bytes);
  written = λ v. [];
  Fits = λ v. Unit {0};
  Writable = λ v. Unit {0};
  read = λ bytes. if is_trailer bytes then Ok (tt, []) else Err TrailingBytes;
  against = λ e bytes. (e ≡ TrailingBytes) × IsFalse (is_trailer bytes);
}

-- A digest or nothing, where digests are read.
abbrev pub trailer_if : Bool → Format (Unit {0})
trailer_if false = empty_format
trailer_if true = trailer_format

-- A value, and a digest or nothing after it.
abbrev pub with_trailer : {A : Type 0} → Format A → Format A
with_trailer f = record {
  Spells = λ v bytes. (pair_of f trailer_format).Spells (v, tt) bytes;
  written = f.written;
  Fits = f.Fits;
  Writable = f.Writable;
  read = λ bytes. (pair_of f trailer_format).read bytes >>= λ a. Ok (a.0.0, a.1);
  against = (pair_of f trailer_format).against;
}

abbrev pub with_trailer_if : {A : Type 0} → Bool → Format A → Format A
with_trailer_if false f = f
with_trailer_if true f = with_trailer f

-- ---- a number that may be missing

abbrev pub last_at : (List ℕ → Result (ℤ × List ℕ) Fault) → List ℕ → Result (ℤ × List ℕ) Fault
last_at read [] = Ok (negsuc 0, [])
last_at read (b ∷ bytes) = read (b ∷ bytes)

-- A number at the end of the bytes; a missing one means -1.
abbrev pub or_end : Format ℤ → Format ℤ
or_end f = record {
  Spells = λ z bytes. f.Spells z bytes ⊎ ((z ≡ negsuc 0) × (bytes ≡ []));
  written = f.written;
  Fits = f.Fits;
  Writable = f.Writable;
  read = last_at f.read;
  against = λ e bytes. f.against e bytes × (bytes ≢ []);
}

-- ---- the end of a session

abbrev pub starts_as_digest : List ℕ → Bool
starts_as_digest bytes =
    get_or bytes 0 0 == 0 && get_or bytes 1 0 == 0 && get_or bytes 2 0 == 0 && get_or bytes 3 0 == 2

-- A digest of version 2, or nothing. No list of two paths is so short.
abbrev pub lists_nothing : List ℕ → Bool
lists_nothing bytes = length bytes == 0 || length bytes == digest_length && starts_as_digest bytes

-- Texts, and a digest or nothing after them.
abbrev pub Texts : Type 0
Texts = Option (List (Option (List ℕ)))

abbrev pub listed_texts : Format Texts
listed_texts = with_trailer (vector_of text_format)

-- The path, if the text is that of a node that has a parent.
abbrev pub listed_path : Option (List ℕ) → List (List ℕ)
listed_path None = []
listed_path (Some text) = if is_child_path text then text ∷ [] else []

-- The paths among the texts; other texts aren't counted.
abbrev pub listed_paths : Texts → List (List ℕ)
listed_paths texts = flat_map listed_path (or_empty texts)

abbrev pub with_paths : Texts × List ℕ → Result (List (List ℕ) × List ℕ) Fault
with_paths a = Ok (listed_paths a.0, a.1)

abbrev pub closing_bytes : List (List ℕ) → List ℕ
closing_bytes [] = []
closing_bytes (path ∷ paths) = (vector_of child_path).written (Some (path ∷ paths))

-- The paths of the session's ephemeral nodes, and a digest or nothing after them; or no list.
abbrev pub closing_format : Format (List (List ℕ))
closing_format = record {
  Spells = λ v bytes. (IsTrue (lists_nothing bytes) × (v ≡ []))
      ⊎ ((texts : Texts) × IsFalse (lists_nothing bytes) × (v ≡ listed_paths texts) × listed_texts.Spells texts bytes);
  written = closing_bytes;
  Fits = λ v. (vector_of child_path).Fits (Some v);
  Writable = λ v. (vector_of child_path).Writable (Some v);
  read = λ bytes. if lists_nothing bytes then Ok ([], []) else listed_texts.read bytes >>= with_paths;
  against = λ e bytes. IsFalse (lists_nothing bytes) × listed_texts.against e bytes;
}

-- No list.
abbrev pub unlisted_format : Format (List (List ℕ))
unlisted_format = record {
  Spells = λ v bytes. (v ≡ []) × (bytes ≡ []);
  written = closing_bytes;
  Fits = λ v. v ≡ [];
  Writable = λ v. (vector_of child_path).Writable (Some v);
  read = λ bytes. Ok ([], bytes);
  against = λ e bytes. ⊥;
}

abbrev pub closing_if : Bool → Format (List (List ℕ))
closing_if false = unlisted_format
closing_if true = closing_format

-- ---- buffers of which the front counts

-- The value at the front of a buffer; null holds none.
abbrev pub front_value : {A : Type 0} → (List ℕ → Result (A × List ℕ) Fault) → Option (List ℕ) → Result A Fault
front_value r None = Err Short
front_value r (Some bytes) = r bytes >>= λ v. Ok v.0

abbrev pub AgainstFront : {A : Type 0} → Format A → Fault → Option (List ℕ) → Type 0
AgainstFront f e None = e ≡ Short
AgainstFront f e (Some bytes) = f.against e bytes

-- A buffer that isn't null, and begins with a value. What follows it is passed over.
abbrev pub front_of_buffer : {A : Type 0} → Format A → Format A
front_of_buffer f = record {
  Spells = λ v bytes. (x y : List ℕ) × f.Spells v x × buffer.Spells (Some (x ++ y)) bytes;
  written = λ v. buffer.written (Some (f.written v));
  Fits = λ v. f.Fits v × (length (f.written v) ≤ buffer_limit);
  Writable = λ v. f.Writable v × (length (f.written v) < 2 ^ 31);
  read = judged_at (front_value f.read) buffer_at;
  against = λ e bytes. buffer.against e bytes ⊎ SpellsFront buffer (λ b rest. AgainstFront f e b) bytes;
}

-- The value of a buffer; unless the buffer is lenient, nothing follows the value in it.
abbrev pub value_in_buffer : {A : Type 0} → Bool → Format A → Option (List ℕ) → Result A Fault
value_in_buffer false f = held_value f.read
value_in_buffer true f = front_value f.read

abbrev pub in_buffer : {A : Type 0} → Bool → Format A → Format A
in_buffer false f = held_in_buffer f
in_buffer true f = front_of_buffer f
