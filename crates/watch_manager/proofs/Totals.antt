-- The orders of pairs are total, and tie only equal pairs.
use Rattle.std.proofs.Common.{ℕ}
use Rattle.std.specs.Cmp.{IsTotalOrder, then_total, on_total, nat_cmp_total}
use Rattle.std.specs.Ordering.{nat_cmp}
use Rattle.std.proofs.lemmas.Map.Lookups.{exact_bytes, exact_unsigned, exact_pairs, CmpEqualImpliesEq}
use Rattle.ephemerals.specs.Orders.{Bytes, path_cmp}
use Rattle.ephemerals.proofs.Totals.{path_total}
use Rattle.watch_manager.specs.Pairs.{watch_cmp}

pub watch_total : IsTotalOrder watch_cmp
watch_total =
    then_total (on_total (λ (p : Bytes × ℕ). p.0) path_total) (on_total (λ (p : Bytes × ℕ). p.1) nat_cmp_total)

pub watch_exact : CmpEqualImpliesEq watch_cmp
watch_exact = exact_pairs path_cmp nat_cmp exact_bytes exact_unsigned
