-- Cutting a text at the first occurrence of a byte.
use Rattle.std.specs.Prelude.{ℕ, ◌+◌, ◌==◌, List, drop, position}
use Rattle.std.specs.List.{before_first}
use Rattle.std.specs.Option.{option_map}
use Rattle.texts.specs.declared.cut.Cut.{Cut}

-- The text before the first occurrence of a byte (the whole text if there is none), and the text after it.
abbrev pub cut_at : ℕ → List ℕ → Cut
cut_at byte text =
    record {
      front = before_first (λ b. b == byte) text;
      behind = option_map (λ i. drop (i + 1) text) (position (λ b. b == byte) text);
    }
