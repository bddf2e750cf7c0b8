use Rattle.std.proofs.Common.{refl}
use Rattle.four_letter.specs.declared.word.Word.TheVariants.{Ruok, Isro, Srvr, Mntr, Wchs, Wchp, Wchc, Dump}
use Rattle.connection_loop.proofs.limits.SessionLimitsDefault.default.Goals as goal

pub returns-clause-words : goal.returns-clause-words
returns-clause-words c = elim [
  | Ruok ↦ c.all.ensures Ruok
  | Isro ↦ c.all.ensures Isro
  | Srvr ↦ c.all.ensures Srvr
  | Mntr ↦ c.all.ensures Mntr
  | Wchs ↦ c.all.ensures Wchs
  | Wchp ↦ refl
  | Wchc ↦ refl
  | Dump ↦ refl
]
