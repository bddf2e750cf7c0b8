-- The zxids of a log: one more at its end, and a prefix of it.
use Rattle.std.proofs.Common.{◌≡◌, ℤ, List, [], ◌∷◌, ◌++◌, Bool, true, false, cond, refl, sym, ap, subst, ◌∙◌, int_lt, ◌<ℤ◌, ◌≤ℤ◌, Option, Some, None, slice_get, length, ◌-◌, suc, arith}
use Rattle.std.specs.Prelude.{T, pos, int_le}
use Rattle.std.specs.Int.{int_max}
use Rattle.std.proofs.lemmas.Int.{ints, clamps}
use lib.Signed.{lt_z_yes}
use Rattle.txn_codec.specs.declared.txn.Txn.{Txn}
use Rattle.learner_sync.specs.Learn.{txns_up_to, zxid_after}
use Rattle.learner_sync.specs.Laws.{ZxidsRise}

-- ---- numbers

pub lt_of : (a b : ℤ) → int_lt a b ≡ true → a <ℤ b
lt_of a b e = lt_z_yes (subst T (sym e) tt)

pub le_of : (a b : ℤ) → int_lt a b ≡ false → b ≤ℤ a
le_of a b e = grind (arith, ints)

pub below_max : (x y : ℤ) → y ≤ℤ int_max x y
below_max x y = omega (arith, ints, clamps)

pub max_same : (x : ℤ) → int_max x x ≡ x
max_same x = omega (arith, ints, clamps)

pub max_left : (x y : ℤ) → y ≤ℤ x → int_max x y ≡ x
max_left x y le = omega (arith, ints, clamps)

pub max_above : (x y : ℤ) → pos 0 ≤ℤ x → pos 0 ≤ℤ int_max x y
max_above x y le = omega (arith, ints, clamps)

pub zero_le : pos 0 ≤ℤ pos 0
zero_le = omega (arith, ints)

pub max_right : (x y : ℤ) → x <ℤ y → int_max x y ≡ y
max_right x y lt = omega (arith, ints, clamps)

-- The maximum with a greater zxid after it.
pub max_over : (base last next : ℤ) → last <ℤ next → int_max (int_max base last) next ≡ int_max base next
max_over base last next lt = omega (arith, ints, clamps)

pub le_lt : (a b c : ℤ) → a ≤ℤ b → b <ℤ c → a <ℤ c
le_lt a b c le lt = omega (arith, ints)

pub lt_le : (a b : ℤ) → a <ℤ b → a ≤ℤ b
lt_le a b lt = omega (arith, ints)

pub le_refl : (a : ℤ) → a ≤ℤ a
le_refl a = omega (arith, ints)

-- ---- one more

pub zxid-push : (zxid : ℤ) (log : List Txn) (t : Txn) → zxid_after zxid (log ++ t ∷ []) ≡ t.header.zxid
zxid-push zxid [] t = refl
zxid-push zxid (u ∷ log) t = zxid-push u.header.zxid log t

pub rises-push : (zxid : ℤ) (log : List Txn) (t : Txn) → ZxidsRise zxid log → zxid_after zxid log <ℤ t.header.zxid
    → ZxidsRise zxid (log ++ t ∷ [])
rises-push zxid [] t r lt = (lt, tt)
rises-push zxid (u ∷ log) t r lt = (r.0, rises-push u.header.zxid log t r.1 lt)

-- ---- what is up to a zxid

rises-from : (a b : ℤ) (log : List Txn) → a <ℤ b → ZxidsRise b log → ZxidsRise a log
rises-from a b [] lt r = tt
rises-from a b (t ∷ log) lt r = (omega (arith, ints, lt, r.0), r.1)

pub rises-up_to : (zxid a : ℤ) (log : List Txn) → ZxidsRise a log → ZxidsRise a (txns_up_to zxid log)
rises-up_to zxid a [] r = tt
rises-up_to zxid a (t ∷ log) r = by (int_le t.header.zxid zxid) (rises-up_to zxid t.header.zxid log r.1)
  where
    by : (b : Bool) → ZxidsRise t.header.zxid (txns_up_to zxid log)
        → ZxidsRise a (cond b (t ∷ txns_up_to zxid log) (txns_up_to zxid log))
    by true others = (r.0, others)
    by false others = rises-from a t.header.zxid (txns_up_to zxid log) r.0 others

-- No transaction is kept where all are above the zxid.
none-up_to : (zxid a : ℤ) (log : List Txn) → zxid <ℤ a → ZxidsRise a log → txns_up_to zxid log ≡ []
none-up_to zxid a [] lt r = refl
none-up_to zxid a (t ∷ log) lt r =
    let above : zxid <ℤ t.header.zxid = omega (arith, ints, lt, r.0) in
    let out : int_le t.header.zxid zxid ≡ false = grind (arith, ints) in
    ap (λ b. cond b (t ∷ txns_up_to zxid log) (txns_up_to zxid log)) out ∙ none-up_to zxid t.header.zxid log above r.1

pub front-up_to : (zxid a : ℤ) (log : List Txn) → ZxidsRise a log
    → (above : List Txn) × (log ≡ txns_up_to zxid log ++ above)
front-up_to zxid a [] r = ([], refl)
front-up_to zxid a (t ∷ log) r = by (int_le t.header.zxid zxid) refl (front-up_to zxid t.header.zxid log r.1)
  where
    by : (b : Bool) → int_le t.header.zxid zxid ≡ b
        → ((above : List Txn) × (log ≡ txns_up_to zxid log ++ above))
        → (above : List Txn) × (t ∷ log ≡ cond b (t ∷ txns_up_to zxid log) (txns_up_to zxid log) ++ above)
    by true e others = (others.0, ap (λ l. t ∷ l) others.1)
    by false e others =
        let lt : zxid <ℤ t.header.zxid = grind (arith, ints) in
        (t ∷ log, sym (ap (λ l. l ++ t ∷ log) (none-up_to zxid t.header.zxid log lt r.1)))

-- ---- the last one

abbrev zxid_in : Option Txn → ℤ → ℤ
zxid_in None zxid = zxid
zxid_in (Some t) zxid = t.header.zxid

pub zxid-last : (zxid : ℤ) (log : List Txn) (t : Txn) → Some t ≡ slice_get log (length log - 1)
    → zxid_after zxid log ≡ t.header.zxid
zxid-last zxid [] t e = cc
zxid-last zxid (u ∷ []) t e = ap (λ o. zxid_in o zxid) (sym e)
zxid-last zxid (u ∷ v ∷ log) t e =
    let at : length (u ∷ v ∷ log) - 1 ≡ suc (length (v ∷ log) - 1) = omega arith in
    zxid-last u.header.zxid (v ∷ log) t (e ∙ ap (slice_get (u ∷ v ∷ log)) at)
