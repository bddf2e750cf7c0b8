-- A fact that holds of both results of a call that may be refused.
use Rattle.std.proofs.Common.{Ok, Err}
use Rattle.std.specs.Prelude.{Result, OnOk, OnErr}

pub either : {T E : Type 0} {P Q G : Type 0} (r : Result T E) → OnOk r P → OnErr r Q → (P → G) → (Q → G) → G
either (Ok x) p q f g = f p
either (Err e) p q f g = g q
