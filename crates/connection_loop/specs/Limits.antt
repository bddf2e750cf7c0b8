-- Which four-letter words a client may send.
use Rattle.std.specs.Prelude.{Bool, true, false, Option, Some, None}
use Rattle.four_letter.specs.declared.word.Word.{Word}
use Rattle.four_letter.specs.declared.word.Word.TheVariants.{Ruok, Isro, Srvr, Mntr, Wchs, Wchp, Wchc, Dump}
use Rattle.connection_loop.specs.declared.limits.AllowedWords.{AllowedWords}

abbrev pub has_word : AllowedWords → Word → Bool
has_word words Ruok = words.ruok
has_word words Isro = words.isro
has_word words Srvr = words.srvr
has_word words Mntr = words.mntr
has_word words Wchs = words.wchs
has_word words Wchp = words.wchp
has_word words Wchc = words.wchc
has_word words Dump = words.dump

-- Bytes that spell no word aren't allowed.
abbrev pub allows_word : AllowedWords → Option Word → Bool
allows_word words None = false
allows_word words (Some word) = has_word words word

-- Whether the answer names sessions.
abbrev pub names_sessions : Word → Bool
names_sessions Ruok = false
names_sessions Isro = false
names_sessions Srvr = false
names_sessions Mntr = false
names_sessions Wchs = false
names_sessions Wchp = true
names_sessions Wchc = true
names_sessions Dump = true
