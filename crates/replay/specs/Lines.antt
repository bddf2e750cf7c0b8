-- The lines that a replay and an audit print.
use Rattle.std.specs.Prelude.{ℕ, ℤ, List, [], ◌∷◌, ◌++◌, false, codes, decimal}
use Rattle.std.specs.Int.{w64, cast_unsigned}
use Rattle.std.specs.Fmt.{radix_digits, signed_decimal}
use Rattle.values.specs.Faults.{fault_number, fault_word}
use Rattle.world.specs.declared.output.Output.{Output}
use Rattle.world.specs.declared.output.Output.TheVariants.{ToLeader, ToClient, CloseLeader, CloseClient}
use Rattle.values.specs.Hex.{hex_digits}

abbrev pub line_end : List ℕ
line_end = 10 ∷ []

-- The line of an output, without its line feed.
abbrev pub output_text : Output → List ℕ
output_text (ToLeader bytes) = codes "L " ++ hex_digits bytes
output_text (ToClient client bytes) = codes "C " ++ decimal client ++ codes " " ++ hex_digits bytes
output_text (CloseLeader fault) = codes "L close F" ++ decimal (fault_number fault) ++ codes " " ++ fault_word fault
output_text (CloseClient client) = codes "C " ++ decimal client ++ codes " close"

abbrev pub output_line : Output → List ℕ
output_line output = output_text output ++ line_end

-- The 64 bits of two's complement as a number in lower-case hexadecimal digits, without leading zeros.
abbrev pub hex_digits_of : ℤ → List ℕ
hex_digits_of number = radix_digits 16 false (cast_unsigned w64 number)

-- The last line: the last zxid and the number of paths.
abbrev pub end_line : ℤ → ℕ → List ℕ
end_line zxid paths = codes "end zxid=0x" ++ hex_digits_of zxid ++ codes " paths=" ++ decimal paths ++ line_end

-- The one line of an audit: the counted cversion and pzxid.
abbrev pub count_line : ℤ → ℤ → List ℕ
count_line cversion pzxid =
    codes "cversion=" ++ signed_decimal cversion ++ codes " pzxid=0x" ++ hex_digits_of pzxid ++ line_end
