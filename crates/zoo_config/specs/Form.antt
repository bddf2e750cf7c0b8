-- The form of a configuration file, which is that of Java's properties. An escape is read as its letters.
use Rattle.std.specs.Prelude.{ℕ, ◌+◌, ◌==◌, ◌||◌, List, [], ◌∷◌, ◌++◌, drop, Bool, true, false, Option, Some, None, if◌then◌else◌, encode_utf8}
use Rattle.std.specs.Char.{is_ascii_whitespace}
use Rattle.std.specs.List.{before_first, position_or_len, slice_split, flat_map}
use Rattle.std.specs.Option.{option_map}
use Rattle.std.specs.Str.{trim_start, trim}
use Rattle.std.specs.Str.Lines.{lines}
use Rattle.zoo_config.specs.Lines.{NumberedLine}
use Rattle.zoo_config.specs.declared.form.Entry.{Entry}
use Rattle.zoo_config.specs.declared.form.Part.{Part}
use Rattle.zoo_config.specs.declared.form.Part.TheVariants.{Remark, GoesOn, Ends}

-- ---- an entry: a key, a sign or blanks, a value

abbrev pub ends_key : ℕ → Bool
ends_key byte = byte == 61 || byte == 58 || is_ascii_whitespace byte

abbrev pub entry_key : List ℕ → List ℕ
entry_key text = before_first ends_key text

-- Behind the key: an equals sign or a colon may stand between blanks.
abbrev pub begins_with_sign : List ℕ → Bool
begins_with_sign [] = false
begins_with_sign (byte ∷ text) = byte == 61 || byte == 58

abbrev pub without_sign : List ℕ → List ℕ
without_sign text = if begins_with_sign text then drop 1 text else text

abbrev pub entry_value : List ℕ → List ℕ
entry_value text = trim (without_sign (trim_start text))

abbrev pub entry_of : NumberedLine → Entry
entry_of line = record {
  line = line.number;
  key = entry_key line.text;
  value = entry_value (drop (position_or_len ends_key line.text) line.text);
}

-- ---- lines that are joined

-- A line without blanks in front is passed over if it is empty, or begins with `#` or `!`.
abbrev pub is_remark : List ℕ → Bool
is_remark [] = true
is_remark (byte ∷ text) = byte == 35 || byte == 33

-- A backslash at its end joins the next line to it.
abbrev pub line_front : List ℕ → Option (List ℕ)
line_front [] = None
line_front (byte ∷ []) = if byte == 92 then Some [] else None
line_front (byte ∷ next ∷ text) = option_map (λ front. byte ∷ front) (line_front (next ∷ text))

abbrev pub joined_line : Option NumberedLine → ℕ → List ℕ → NumberedLine
joined_line None number text = record { number = number; text = text }
joined_line (Some before) number text = record { number = before.number; text = before.text ++ text }

abbrev pub part_with : Option NumberedLine → ℕ → List ℕ → Option (List ℕ) → Part
part_with before number text None = Ends (joined_line before number text)
part_with before number text (Some front) = GoesOn (joined_line before number front)

-- A line that is joined to another is no comment.
abbrev pub part_of : Option NumberedLine → ℕ → List ℕ → Part
part_of None number text = if is_remark text then Remark else part_with None number text (line_front text)
part_of (Some before) number text = part_with (Some before) number text (line_front text)

abbrev pub line_after : Part → Option NumberedLine
line_after Remark = None
line_after (GoesOn line) = Some line
line_after (Ends line) = None

abbrev pub ended_entries : Part → List Entry
ended_entries Remark = []
ended_entries (GoesOn line) = []
ended_entries (Ends line) = entry_of line ∷ []

abbrev pub last_entry : Option NumberedLine → List Entry
last_entry None = []
last_entry (Some line) = entry_of line ∷ []

-- The entries of the lines that follow so many others, the last of which may go on.
abbrev pub entries_after : ℕ → Option NumberedLine → List (List ℕ) → List Entry
entries_after count before [] = last_entry before
entries_after count before (line ∷ lines) =
    let part = part_of before (count + 1) (trim_start line) in
    ended_entries part ++ entries_after (count + 1) (line_after part) lines

-- ---- lines: each ends with LF, CR, or both

abbrev pub short_lines : List ℕ → List (List ℕ)
short_lines line = slice_split (λ byte. byte == 13) line

abbrev pub all_lines : List ℕ → List (List ℕ)
all_lines text = flat_map short_lines (lines text)

abbrev pub entries_of : List ℕ → List Entry
entries_of text = entries_after 0 None (all_lines text)

-- ---- bytes that are letters of Latin-1

abbrev pub latin_text : List ℕ → List ℕ
latin_text bytes = flat_map encode_utf8 bytes
