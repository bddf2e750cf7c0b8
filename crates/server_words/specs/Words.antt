-- The words that a server answers by itself (ZooKeeper Administrator's Guide, "The Four Letter Words").
use Rattle.std.specs.Prelude.{ℕ, List, [], ◌∷◌, Bool, true, false, Option, codes}
use Rattle.std.specs.List.{find}
use Rattle.std.specs.Str.{bytes_eq}
use Rattle.server_words.specs.declared.word.ServerWord.{ServerWord}
use Rattle.server_words.specs.declared.answered.AnsweredWords.{AnsweredWords}
use Rattle.server_words.specs.declared.word.ServerWord.TheVariants.{Srvr, Stat, Mntr, Conf, Envi, Dirs, Cons, Crst, Srst}

abbrev pub server_letters : ServerWord → List ℕ
server_letters Srvr = codes "srvr"
server_letters Stat = codes "stat"
server_letters Mntr = codes "mntr"
server_letters Conf = codes "conf"
server_letters Envi = codes "envi"
server_letters Dirs = codes "dirs"
server_letters Cons = codes "cons"
server_letters Crst = codes "crst"
server_letters Srst = codes "srst"

abbrev pub all_server_words : List ServerWord
all_server_words = Srvr ∷ Stat ∷ Mntr ∷ Conf ∷ Envi ∷ Dirs ∷ Cons ∷ Crst ∷ Srst ∷ []

abbrev pub server_word_of : List ℕ → Option ServerWord
server_word_of bytes = find (λ word. bytes_eq bytes (server_letters word)) all_server_words

abbrev pub lists_clients : ServerWord → Bool
lists_clients Srvr = false
lists_clients Stat = true
lists_clients Mntr = false
lists_clients Conf = false
lists_clients Envi = false
lists_clients Dirs = false
lists_clients Cons = true
lists_clients Crst = false
lists_clients Srst = false

abbrev pub has_server_word : AnsweredWords → ServerWord → Bool
has_server_word words Srvr = words.srvr
has_server_word words Stat = words.stat
has_server_word words Mntr = words.mntr
has_server_word words Conf = words.conf
has_server_word words Envi = words.envi
has_server_word words Dirs = words.dirs
has_server_word words Cons = words.cons
has_server_word words Crst = words.crst
has_server_word words Srst = words.srst
