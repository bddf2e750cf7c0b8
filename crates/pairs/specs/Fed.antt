-- What a hasher is fed of a text: words of 8 bytes alone, since it takes single bytes one by one.
use Rattle.std.specs.Prelude.{ℕ, ◌-◌, ◌*◌, ◌%◌, ◌^◌, ◌∷◌, length, take, drop, bit_or}
use Rattle.std.specs.List.{fold}
use Rattle.std.specs.Hash as fed
use Rattle.pairs.specs.Pairs.{Bytes}

-- How many bytes of a text are in its whole words.
abbrev pub whole_len : Bytes → ℕ
whole_len text = length text - length text % 8

-- A number with a byte after it.
abbrev pub with_byte : ℕ → ℕ → ℕ
with_byte word byte = bit_or ((word * 2 ^ 8) % 2 ^ 64) byte

-- The number of the bytes, and then the bytes, as a word. It tells apart any two lists of fewer than 8 bytes.
abbrev pub counted_word : Bytes → ℕ
counted_word rest = fold with_byte (length rest) rest

-- The whole words, and the rest as one more. So different texts are fed as different words.
abbrev pub fed_text : Bytes → fed.HashWrites
fed_text text = take (whole_len text) text ∷ fed.u64 (counted_word (drop (whole_len text) text))
