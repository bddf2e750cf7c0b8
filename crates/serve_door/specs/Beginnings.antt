-- What a connection begins with.
use Rattle.std.specs.Prelude.{◌≡◌, ℕ, nat_lt, if◌then◌else◌, Bool, List, [], ◌++◌, length, take, Option, None, Some}
use Rattle.std.specs.Io.KnownBytes.{prepend_known, Consumes}
use Rattle.server_words.specs.Words.{server_word_of}
use Rattle.server_words.specs.declared.word.ServerWord.{ServerWord}

pub record Beginning : Type 0 where
  -- The bytes that were read and not given on yet, in order.
  pub bytes : List ℕ
  -- No more come.
  pub is_last : Bool

abbrev pub begins_with_nothing : Bool → Beginning
begins_with_nothing is_last = record { bytes = []; is_last = is_last }

-- The word of the server's own that the bytes begin with.
abbrev pub word_begun : List ℕ → Option ServerWord
word_begun bytes = if nat_lt (length bytes) 4 then None else server_word_of (take 4 bytes)

-- What a connection brings that has begun so, and of which a reader has these bytes left.
abbrev pub brought_after : Beginning → Option (List ℕ) → Option (List ℕ)
brought_after begun left = prepend_known begun.bytes (if begun.is_last then Some [] else left)

-- Bytes that a reader had left then, and has given since, came after those that were there.
abbrev pub HasRead : Beginning → Beginning → Option (List ℕ) → Option (List ℕ) → Type 0
HasRead old new left_then left =
    (more : List ℕ) × (new ≡ record old { bytes = old.bytes ++ more }) × Consumes left_then left more
