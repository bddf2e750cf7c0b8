-- The four-letter words (ZooKeeper Administrator's Guide, "The Four Letter Words").
use Rattle.std.specs.Prelude.{ℕ, List, [], ◌∷◌, Bool, true, false, Option, codes}
use Rattle.std.specs.List.{find}
use Rattle.std.specs.Str.{bytes_eq}
use Rattle.four_letter.specs.declared.word.Word.{Word}
use Rattle.four_letter.specs.declared.word.Word.TheVariants.{Ruok, Isro, Srvr, Mntr, Wchs, Wchp, Wchc, Dump}

abbrev pub letters_of : Word → List ℕ
letters_of Ruok = codes "ruok"
letters_of Isro = codes "isro"
letters_of Srvr = codes "srvr"
letters_of Mntr = codes "mntr"
letters_of Wchs = codes "wchs"
letters_of Wchp = codes "wchp"
letters_of Wchc = codes "wchc"
letters_of Dump = codes "dump"

abbrev pub all_words : List Word
all_words = Ruok ∷ Isro ∷ Srvr ∷ Mntr ∷ Wchs ∷ Wchp ∷ Wchc ∷ Dump ∷ []

abbrev pub word_of : List ℕ → Option Word
word_of bytes = find (λ word. bytes_eq bytes (letters_of word)) all_words

-- Whether the answer needs the watches themselves.
abbrev pub needs_watches : Word → Bool
needs_watches Ruok = false
needs_watches Isro = false
needs_watches Srvr = false
needs_watches Mntr = false
needs_watches Wchs = false
needs_watches Wchp = true
needs_watches Wchc = true
needs_watches Dump = false

-- Whether the answer needs the numbers of paths and of connections beside that of watches.
abbrev pub needs_counts : Word → Bool
needs_counts Ruok = false
needs_counts Isro = false
needs_counts Srvr = false
needs_counts Mntr = false
needs_counts Wchs = true
needs_counts Wchp = false
needs_counts Wchc = false
needs_counts Dump = false
