-- The orders of texts and of pairs are total, and tie only equal values.
use Rattle.std.proofs.Common.{ℕ}
use Rattle.std.specs.Cmp.{IsTotalOrder, then_total, on_total, nat_cmp_total}
use Rattle.std.specs.Cmp.Lexicographic.{nat_list_cmp_total}
use Rattle.std.specs.Ordering.{nat_cmp}
use Rattle.std.proofs.lemmas.Map.Lookups.{exact_bytes, exact_unsigned, exact_pairs, CmpEqualImpliesEq}
use Rattle.pairs.specs.Pairs.{Bytes, text_cmp, pair_cmp}

pub text_total : IsTotalOrder text_cmp
text_total = nat_list_cmp_total

pub pair_total : IsTotalOrder (pair_cmp text_cmp nat_cmp)
pair_total =
    then_total (on_total (λ (p : Bytes × ℕ). p.0) text_total) (on_total (λ (p : Bytes × ℕ). p.1) nat_cmp_total)

pub pair_exact : CmpEqualImpliesEq (pair_cmp text_cmp nat_cmp)
pair_exact = exact_pairs text_cmp nat_cmp exact_bytes exact_unsigned

pub turned_total : IsTotalOrder (pair_cmp nat_cmp text_cmp)
turned_total =
    then_total (on_total (λ (p : ℕ × Bytes). p.0) nat_cmp_total) (on_total (λ (p : ℕ × Bytes). p.1) text_total)

pub turned_exact : CmpEqualImpliesEq (pair_cmp nat_cmp text_cmp)
turned_exact = exact_pairs nat_cmp text_cmp exact_unsigned exact_bytes
