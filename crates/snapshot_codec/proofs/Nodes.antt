-- The bytes of a node.
use Rattle.std.proofs.Common.{◌≡◌, ℕ, List, ◌++◌, ap, ◌∙◌, append_assoc}
use Rattle.std.specs.Prelude.{FitsSigned}
use Rattle.std.specs.Int.{w32, w64}
use Rattle.jute.specs.Records.{stat_persisted}
use Rattle.jute.specs.declared.stat.StatPersisted.{StatPersisted}

pub stat_writable : (s : StatPersisted) → stat_persisted.Writable s
unfolding stat_persisted
stat_writable s = (tt, (tt, (tt, (tt, (tt, (tt, (tt, (tt, tt))))))))

pub stat_fits : (s : StatPersisted) → FitsSigned w64 s.czxid → FitsSigned w64 s.mzxid → FitsSigned w64 s.ctime
    → FitsSigned w64 s.mtime → FitsSigned w32 s.version → FitsSigned w32 s.cversion → FitsSigned w32 s.aversion
    → FitsSigned w64 s.ephemeral_owner → FitsSigned w64 s.pzxid → stat_persisted.Fits s
unfolding stat_persisted
stat_fits s a b c d e f g h i = (a, (b, (c, (d, (e, (f, (g, (h, i))))))))

-- Four fields, one after the other.
pub four : (old a b c d one two three all : List ℕ) → one ≡ old ++ a → two ≡ one ++ b → three ≡ two ++ c
    → all ≡ three ++ d → all ≡ old ++ (a ++ (b ++ (c ++ d)))
four old a b c d one two three all e f g h =
    h ∙ ap (λ (t : List ℕ). t ++ d) (g ∙ ap (λ (t : List ℕ). t ++ c) (f ∙ ap (λ (t : List ℕ). t ++ b) e))
    ∙ append_assoc ((old ++ a) ++ b) c d ∙ append_assoc (old ++ a) b (c ++ d) ∙ append_assoc old a (b ++ (c ++ d))
