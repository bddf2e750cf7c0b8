-- The orders of paths and of pairs are total, and tie only equal values.
use Rattle.std.proofs.Common.{ℤ}
use Rattle.std.specs.Cmp.{IsTotalOrder, then_total, on_total, int_cmp_total}
use Rattle.std.specs.Ordering.{int_cmp}
use Rattle.std.specs.Cmp.Lexicographic.{nat_list_cmp_total}
use Rattle.std.proofs.lemmas.Map.Lookups.{exact_bytes, exact_signed, exact_pairs, CmpEqualImpliesEq}
use Rattle.ephemerals.specs.Orders.{Bytes, path_cmp, pair_cmp}

pub path_total : IsTotalOrder path_cmp
path_total = nat_list_cmp_total

pub pair_total : IsTotalOrder pair_cmp
pair_total = then_total (on_total (λ (p : ℤ × Bytes). p.0) int_cmp_total) (on_total (λ (p : ℤ × Bytes). p.1) path_total)

pub pair_exact : CmpEqualImpliesEq pair_cmp
pair_exact = exact_pairs int_cmp path_cmp exact_signed exact_bytes
