-- What is found in the maps by text and by number.
use Rattle.std.proofs.Common.{◌≡◌, ℕ, List, false, ap, sym, ◌∙◌, Option, IfSome, IfNone, Some, None}
use Rattle.std.specs.Cmp.{nat_cmp_total}
use Rattle.std.proofs.lemmas.Map.Lookups.{exact_unsigned, exact_bytes}
use Rattle.std.specs.FinMap as finmap
use Rattle.std.specs.FinSet as set
use Rattle.pairs.specs.Pairs.{Bytes, Numbers, TextKeys, TextPairs, numbers_at}
use Rattle.pairs.specs.Inner.Stored.{NumberPairs, text_pairs_in}
use Rattle.pairs.proofs.Totals.{text_total}
use Rattle.pairs.proofs.Hashed.{map_of}
use Rattle.pairs.proofs.Grouped.{listed, contains-found}
use Rattle.pairs.proofs.NumbersOf.{are_numbers, no_number}

module _ (es : List (Bytes × Numbers)) (text : Bytes) (pairs : TextPairs) (is : text_pairs_in es ≡ pairs) where
  contains-at : (found : Option Numbers) → finmap.get (map_of es) text ≡ found → (n : ℕ)
      → set.contains pairs (text, n) ≡ listed text_total nat_cmp_total exact_bytes exact_unsigned found n
  contains-at found get n =
      ap (λ s. set.contains s (text, n)) (sym is)
      ∙ contains-found text_total nat_cmp_total exact_bytes exact_unsigned (map_of es) text found get n

  pub found-some : (numbers : Numbers) → finmap.get (map_of es) text ≡ Some numbers → numbers ≡ numbers_at text pairs
  found-some numbers get = are_numbers text pairs numbers (λ n. sym (contains-at (Some numbers) get n))

  pub found-none : finmap.get (map_of es) text ≡ None → numbers_at text pairs ≡ set.empty
  found-none get = no_number text pairs (contains-at None get)

  pub if_some : (found : Option Numbers) → finmap.get (map_of es) text ≡ found
      → IfSome found (λ numbers. numbers ≡ numbers_at text pairs)
  if_some None get = tt
  if_some (Some numbers) get = found-some numbers get

  pub if_none : (found : Option Numbers) → finmap.get (map_of es) text ≡ found
      → IfNone found (numbers_at text pairs ≡ set.empty)
  if_none None get = found-none get
  if_none (Some numbers) get = tt

pub texts_found : (r : Option TextKeys) (pairs : NumberPairs) (k : ℕ)
    → ((t : Bytes) → set.contains pairs (k, t) ≡ listed nat_cmp_total text_total exact_unsigned exact_bytes r t)
    → IfSome r (λ texts. (t : Bytes) → set.contains texts t ≡ set.contains pairs (k, t))
texts_found None pairs k is = tt
texts_found (Some texts) pairs k is = λ t. sym (is t)

pub no_text_found : (r : Option TextKeys) (pairs : NumberPairs) (k : ℕ)
    → ((t : Bytes) → set.contains pairs (k, t) ≡ listed nat_cmp_total text_total exact_unsigned exact_bytes r t)
    → IfNone r ((t : Bytes) → set.contains pairs (k, t) ≡ false)
no_text_found None pairs k is = is
no_text_found (Some texts) pairs k is = tt
