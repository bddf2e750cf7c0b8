-- Claims about a call that was refused.
use Rattle.std.proofs.Common.{OnErr, Result, Ok, Err}

pub on_err : {A E : Type 0} {P : Type 0} (r : Result A E) → P → OnErr r P
on_err (Ok x) p = tt
on_err (Err e) p = p
