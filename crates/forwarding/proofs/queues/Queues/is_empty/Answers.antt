use Rattle.std.proofs.Common.{◌≡◌, ℕ, Bool, true, false, refl, sym, ap, ◌∙◌}
use Rattle.std.specs.Prelude.{◌==◌, IsTrue, ◌↔◌}
use Rattle.std.specs.Cmp.{nat_cmp_total}
use Rattle.std.proofs.lemmas.Bool.{eqb-true, eq-eqb}
use Rattle.std.proofs.lemmas.Map.Lookups.{exact_unsigned}
use Rattle.std.specs.FinMap as finmap
use mathlib.Core.Bool.{true≢false}
use Rattle.forwarding.proofs.Emptiness.{none_seen}
use Rattle.forwarding.proofs.queues.Queues.is_empty.Goals as goal

is_zero : (n : ℕ) (b : Bool) → IsTrue b ↔ (n ≡ 0) → b ≡ (n == 0)
is_zero n true tells = sym (eq-eqb n 0 (tells.0 refl))
is_zero n false tells = by (n == 0) refl
  where
    by : (b : Bool) → (n == 0) ≡ b → false ≡ b
    by true e = absurd (true≢false (sym (tells.1 (eqb-true n 0 e))))
    by false e = refl

pub returns : goal.returns
returns c =
    is_zero _ c.is_empty.result c.is_empty.ensures
    ∙ none_seen nat_cmp_total exact_unsigned c.self.inside.map.entries
    ∙ ap (λ m. finmap.len m == 0) c.self.view_is
