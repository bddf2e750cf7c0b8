-- The answer to a word, made of figures that lack what it doesn't tell.
use Rattle.std.proofs.Common.{◌≡◌, true, List, refl, ap}
use Rattle.watch_manager.specs.declared.counts.WatchCounts.{WatchCounts}
use Rattle.four_letter.specs.Words.{needs_watches, needs_counts}
use Rattle.four_letter.specs.Texts.{reply_text}
use Rattle.four_letter.specs.declared.figures.Figures.{Figures}
use Rattle.four_letter.specs.declared.figures.WatchRow.{WatchRow}
use Rattle.four_letter.specs.declared.word.Word.{Word}
use Rattle.four_letter.specs.declared.word.Word.TheVariants.{Ruok, Isro, Srvr, Mntr, Wchs, Wchp, Wchc, Dump}

pub same_text : (word : Word) (f : Figures) (counts : WatchCounts) (rows : List WatchRow)
    → counts.watches ≡ f.watched.watches → (needs_counts word ≡ true → counts ≡ f.watched)
    → (needs_watches word ≡ true → rows ≡ f.watches)
    → reply_text word (record f { watched = counts; watches = rows }) ≡ reply_text word f
same_text Ruok f counts rows number all listed = refl
same_text Isro f counts rows number all listed = refl
same_text Srvr f counts rows number all listed = refl
same_text Mntr f counts rows number all listed =
    ap (λ n. reply_text Mntr (record f { watched = record f.watched { watches = n } })) number
same_text Wchs f counts rows number all listed =
    ap (λ (c : WatchCounts). reply_text Wchs (record f { watched = c })) (all refl)
same_text Wchp f counts rows number all listed =
    ap (λ (r : List WatchRow). reply_text Wchp (record f { watches = r })) (listed refl)
same_text Wchc f counts rows number all listed =
    ap (λ (r : List WatchRow). reply_text Wchc (record f { watches = r })) (listed refl)
same_text Dump f counts rows number all listed = refl
