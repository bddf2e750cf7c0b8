-- The four-letter words that a text names.
use Rattle.std.specs.Prelude.{◌==◌, ℕ, List, [], ◌∷◌, Bool, true, false, Option, Some, None, if◌then◌else◌, codes}
use Rattle.std.specs.List.{list_any, list_all, slice_split}
use Rattle.std.specs.Str.{bytes_eq}
use Rattle.serve_options.specs.declared.words.Words.{Words}

-- What stands between the commas of a text.
abbrev pub parts_of : List ℕ → List (List ℕ)
parts_of text = slice_split (λ letter. letter == 44) text

abbrev pub is_among : List ℕ → List (List ℕ) → Bool
is_among word parts = list_any (λ part. bytes_eq part word) parts

abbrev pub four_letter_words : List (List ℕ)
four_letter_words =
    codes "ruok" ∷ codes "isro" ∷ codes "srvr" ∷ codes "stat" ∷ codes "mntr" ∷ codes "conf" ∷ codes "envi"
    ∷ codes "dirs" ∷ codes "wchs" ∷ codes "wchp" ∷ codes "wchc" ∷ codes "dump" ∷ codes "cons" ∷ codes "crst"
    ∷ codes "srst" ∷ []

abbrev pub is_four_letter_word : List ℕ → Bool
is_four_letter_word text = is_among text four_letter_words

abbrev pub words_among : List (List ℕ) → Words
words_among parts = record {
  ruok = is_among (codes "ruok") parts;
  isro = is_among (codes "isro") parts;
  srvr = is_among (codes "srvr") parts;
  stat = is_among (codes "stat") parts;
  mntr = is_among (codes "mntr") parts;
  conf = is_among (codes "conf") parts;
  envi = is_among (codes "envi") parts;
  dirs = is_among (codes "dirs") parts;
  wchs = is_among (codes "wchs") parts;
  wchp = is_among (codes "wchp") parts;
  wchc = is_among (codes "wchc") parts;
  dump = is_among (codes "dump") parts;
  cons = is_among (codes "cons") parts;
  crst = is_among (codes "crst") parts;
  srst = is_among (codes "srst") parts;
}

abbrev pub all_or_none : Bool → Words
all_or_none is_there = record {
  ruok = is_there;
  isro = is_there;
  srvr = is_there;
  stat = is_there;
  mntr = is_there;
  conf = is_there;
  envi = is_there;
  dirs = is_there;
  wchs = is_there;
  wchp = is_there;
  wchc = is_there;
  dump = is_there;
  cons = is_there;
  crst = is_there;
  srst = is_there;
}

-- All of them, none of them, or those between commas, each of which has to be one.
abbrev pub named_words : List ℕ → Option Words
named_words text =
    if bytes_eq text (codes "all") then Some (all_or_none true)
    else (if bytes_eq text (codes "none") then Some (all_or_none false)
    else (if list_all is_four_letter_word (parts_of text) then Some (words_among (parts_of text))
    else None))

-- Each word, and whether it is answered.
abbrev pub each_word : Words → List (List ℕ × Bool)
each_word words =
    (codes "ruok", words.ruok) ∷ (codes "isro", words.isro) ∷ (codes "srvr", words.srvr)
    ∷ (codes "stat", words.stat) ∷ (codes "mntr", words.mntr) ∷ (codes "conf", words.conf)
    ∷ (codes "envi", words.envi) ∷ (codes "dirs", words.dirs) ∷ (codes "wchs", words.wchs)
    ∷ (codes "wchp", words.wchp) ∷ (codes "wchc", words.wchc) ∷ (codes "dump", words.dump)
    ∷ (codes "cons", words.cons) ∷ (codes "crst", words.crst) ∷ (codes "srst", words.srst) ∷ []
