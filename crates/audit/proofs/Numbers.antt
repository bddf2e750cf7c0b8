-- The Stat's cversion in whole numbers, and the effect of one more create or delete on it.
use Rattle.std.proofs.Common.{◌≡◌, ℕ, ◌+◌, ◌-◌, ◌≤◌, ◌%◌, ◌^◌, ℤ, pos, ◌+ℤ◌, ◌-ℤ◌, ◌*ℤ◌, neg_ℤ, w32, FitsSigned, refl, sym, ap, subst, ◌∙◌, arith, rules, unsigned_abs, lit<}
use Rattle.std.proofs.Math.IntN.{+ℤ_one, +ℤ_idr, +ℤ_assoc, +ℤ_comm, neg_ℤ-+ℤ, -ℤ-+ℤ_cancel, pos-+ℤ-pos, suc_ℤ-*ℤ}
use Rattle.std.specs.Int.{int_wrap, int_wrapping_mul, cast_signed, int_rem_euclid}
use Rattle.std.proofs.lemmas.Int.{wrapping_sub_is, wrapping_mul_is, int_wrap-add_left, int_wrap-sub_right, int_wrap-mul_left, SFits-int_wrap, int_rem_euclid_is}
use Rattle.node_map.specs.Stats.{shown_cversion, java_int}

-- Twice the stored number less the number of children.
abbrev pub net : ℤ → ℕ → ℤ
net stored children = int_wrap w32 (stored *ℤ pos 2 -ℤ pos children)

java_is : (n : ℕ) → java_int n ≡ int_wrap w32 (pos n)
unfolding int_wrap
java_is n =
    let rest : int_rem_euclid (pos n) (pos (2 ^ 32)) ≡ pos (n % 2 ^ 32) =
    int_rem_euclid_is (pos n) (pos (2 ^ 32)) (2 ^ 32) 0 n (lit< tt) refl (+ℤ_idr (pos n)) in
    ap (λ z. cast_signed w32 (unsigned_abs z)) (sym rest)

pub shown_is : (stored : ℤ) (children : ℕ) → FitsSigned w32 stored
    → shown_cversion stored (java_int children) ≡ net stored children
shown_is stored children fits =
    let two : FitsSigned w32 (pos 2) = search rules in
    let twice : int_wrapping_mul w32 stored (pos 2) ≡ int_wrap w32 (stored *ℤ pos 2) =
    wrapping_mul_is w32 stored (pos 2) fits two in
    let count : java_int children ≡ int_wrap w32 (pos children) = java_is children in
    let fits_twice : FitsSigned w32 (int_wrapping_mul w32 stored (pos 2)) =
    subst (FitsSigned w32) (sym twice) (SFits-int_wrap w32 (stored *ℤ pos 2)) in
    let fits_count : FitsSigned w32 (java_int children) =
    subst (FitsSigned w32) (sym count) (SFits-int_wrap w32 (pos children)) in
    wrapping_sub_is w32 (int_wrapping_mul w32 stored (pos 2)) (java_int children) fits_twice fits_count
    ∙ (λ i. int_wrap w32 (twice i -ℤ count i))
    ∙ int_wrap-sub_right w32 (int_wrap w32 (stored *ℤ pos 2)) (pos children)
    ∙ int_wrap-add_left w32 (stored *ℤ pos 2) (neg_ℤ (pos children))

created_up : (x a : ℤ) → x +ℤ pos 2 +ℤ (a +ℤ neg_ℤ (pos 1)) ≡ x +ℤ a +ℤ pos 1
created_up x a =
    +ℤ_assoc x (pos 2) (a +ℤ neg_ℤ (pos 1))
    ∙ ap (λ (y : ℤ). x +ℤ y)
    (sym (+ℤ_assoc (pos 2) a (neg_ℤ (pos 1)))
    ∙ ap (λ (y : ℤ). y +ℤ neg_ℤ (pos 1)) (+ℤ_comm (pos 2) a)
    ∙ +ℤ_assoc a (pos 2) (neg_ℤ (pos 1)))
    ∙ sym (+ℤ_assoc x a (pos 1))

one_created : (z : ℤ) (n : ℕ) → (z +ℤ pos 1) *ℤ pos 2 -ℤ pos (n + 1) ≡ z *ℤ pos 2 -ℤ pos n +ℤ pos 1
one_created z n =
    let doubled : (z +ℤ pos 1) *ℤ pos 2 ≡ z *ℤ pos 2 +ℤ pos 2 =
    ap (λ (y : ℤ). y *ℤ pos 2) (+ℤ_one z) ∙ suc_ℤ-*ℤ z (pos 2) in
    (λ i. doubled i +ℤ neg_ℤ (sym (pos-+ℤ-pos n 1) i))
    ∙ ap (λ (y : ℤ). z *ℤ pos 2 +ℤ pos 2 +ℤ y) (neg_ℤ-+ℤ (pos n) (pos 1))
    ∙ created_up (z *ℤ pos 2) (neg_ℤ (pos n))

one_deleted : (z : ℤ) (n : ℕ) → 1 ≤ n → z *ℤ pos 2 -ℤ pos (n - 1) ≡ z *ℤ pos 2 -ℤ pos n +ℤ pos 1
one_deleted z n some =
    let more : n ≡ n - 1 + 1 = omega arith in
    let split : pos n ≡ pos (n - 1) +ℤ pos 1 = ap (λ (k : ℕ). pos k) more ∙ sym (pos-+ℤ-pos (n - 1) 1) in
    sym ((λ i. z *ℤ pos 2 +ℤ neg_ℤ (split i) +ℤ pos 1)
    ∙ ap (λ (y : ℤ). z *ℤ pos 2 +ℤ y +ℤ pos 1) (neg_ℤ-+ℤ (pos (n - 1)) (pos 1))
    ∙ +ℤ_assoc (z *ℤ pos 2) (neg_ℤ (pos (n - 1)) +ℤ neg_ℤ (pos 1)) (pos 1)
    ∙ ap (λ (y : ℤ). z *ℤ pos 2 +ℤ y) (-ℤ-+ℤ_cancel (neg_ℤ (pos (n - 1))) (pos 1)))

pub created_net : (stored : ℤ) (n : ℕ)
    → net (int_wrap w32 (stored +ℤ pos 1)) (n + 1) ≡ int_wrap w32 (net stored n +ℤ pos 1)
created_net stored n =
    sym (int_wrap-add_left w32 (int_wrap w32 (stored +ℤ pos 1) *ℤ pos 2) (neg_ℤ (pos (n + 1))))
    ∙ ap (λ z. int_wrap w32 (z -ℤ pos (n + 1))) (int_wrap-mul_left w32 (stored +ℤ pos 1) (pos 2))
    ∙ int_wrap-add_left w32 ((stored +ℤ pos 1) *ℤ pos 2) (neg_ℤ (pos (n + 1)))
    ∙ ap (int_wrap w32) (one_created stored n)
    ∙ sym (int_wrap-add_left w32 (stored *ℤ pos 2 -ℤ pos n) (pos 1))

pub deleted_net : (stored : ℤ) (n : ℕ) → 1 ≤ n → net stored (n - 1) ≡ int_wrap w32 (net stored n +ℤ pos 1)
deleted_net stored n some =
    ap (int_wrap w32) (one_deleted stored n some)
    ∙ sym (int_wrap-add_left w32 (stored *ℤ pos 2 -ℤ pos n) (pos 1))
