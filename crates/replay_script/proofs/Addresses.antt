-- The text of an address is UTF-8, since it is ASCII.
use Rattle.std.proofs.Common.{◌≡◌, ℕ, zero, suc, ◌<◌, Bool, true, false, ◌&&◌, List, [], ◌∷◌, refl, sym, arith}
use Rattle.std.specs.Prelude.{IsUtf8}
use Rattle.std.specs.Char.{is_ascii_graphic}
use Rattle.std.specs.List.{list_all}
use Rattle.std.specs.Str.{IsAscii}
use Rattle.std.proofs.lemmas.Bool.Decides.{nat_tests}
use Rattle.std.proofs.lemmas.Str.{IsUtf8-from_ascii}
use mathlib.Core.Bool.{true≢false}
use Rattle.replay_script.specs.Line.{is_address_text}

last_of : (a b : Bool) → (a && b) ≡ true → b ≡ true
last_of true b e = e
last_of false b e = absurd (true≢false (sym e))

first_of : (a b : Bool) → (a && b) ≡ true → a ≡ true
first_of true b e = refl
first_of false b e = absurd (true≢false (sym e))

graphic_below : (b : ℕ) → is_ascii_graphic b ≡ true → b < 128
graphic_below b e = grind (arith, nat_tests)

all_below : (text : List ℕ) → list_all is_ascii_graphic text ≡ true → IsAscii text
all_below [] e i = omega arith
all_below (b ∷ bs) e zero = graphic_below b (first_of (is_ascii_graphic b) (list_all is_ascii_graphic bs) e)
all_below (b ∷ bs) e (suc i) = all_below bs (last_of (is_ascii_graphic b) (list_all is_ascii_graphic bs) e) i

pub address_is_utf8 : (text : List ℕ) → is_address_text text ≡ true → IsUtf8 text
address_is_utf8 text e = IsUtf8-from_ascii text (all_below text (last_of _ (list_all is_ascii_graphic text) e))
