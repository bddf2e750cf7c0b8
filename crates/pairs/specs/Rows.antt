-- Rows that were worked out by hand.
use Rattle.std.specs.Prelude.{◌≡◌, [], ◌∷◌, codes}
use Rattle.std.specs.Hash as fed
use Rattle.pairs.specs.Fed.{counted_word, fed_text}

pub record WorkedRows : Type 0 where
  -- 2, 47 and 97 as the digits of a number to the base of 256.
  pub rest : counted_word (47 ∷ 97 ∷ []) ≡ 143201
  pub no_rest : counted_word [] ≡ 0
  pub word_and_rest : fed_text (codes "/abcdefgh") ≡ codes "/abcdefg" ∷ fed.u64 360
  pub word_alone : fed_text (codes "/abcdefg") ≡ codes "/abcdefg" ∷ fed.u64 0
