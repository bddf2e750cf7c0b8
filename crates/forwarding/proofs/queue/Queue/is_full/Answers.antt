use Rattle.std.proofs.Common.{◌≡◌, ℕ, Bool, true, false, not, length, refl, ap, ◌∙◌, arith}
use Rattle.std.specs.Prelude.{nat_lt, nat_le}
use Rattle.std.proofs.lemmas.Bool.{ltb-true, ltb-false, leb-true, leb-false}
use Rattle.forwarding.specs.Queue.{pending_limit}
use Rattle.forwarding.proofs.queue.Queue.is_full.Goals as goal

at_least : (a b : ℕ) → nat_le a b ≡ not (nat_lt b a)
at_least a b = by (nat_le a b) refl (nat_lt b a) refl
  where
    by : (x : Bool) → nat_le a b ≡ x → (y : Bool) → nat_lt b a ≡ y → x ≡ not y
    by true e true f = absurd (let p = leb-true a b e in let q = ltb-true b a f in omega arith)
    by true e false f = refl
    by false e true f = refl
    by false e false f = absurd (let p = leb-false a b e in let q = ltb-false b a f in omega arith)

pub returns : goal.returns
returns c = ap (nat_le pending_limit) c.len.ensures ∙ at_least pending_limit (length c.args.self.now)
