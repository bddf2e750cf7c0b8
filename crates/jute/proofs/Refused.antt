-- An id is refused as its texts are.
use Rattle.std.proofs.Common.{◌≡◌, ℕ, Bool, List, Ok, Err, refl}
use Rattle.values.specs.declared.fault.Fault.{Fault}
use Rattle.jute.specs.Format.{name_in}
use Rattle.jute.specs.Owned.{id_in}

pub scheme_refused : (surrogates : Bool) (e : Fault) (bytes : List ℕ) → (name_in surrogates).read bytes ≡ Err e
    → (id_in surrogates).read bytes ≡ Err e
unfolding id_in
scheme_refused surrogates e bytes h = rw h refl

pub name_refused : (surrogates : Bool) (e : Fault) (bytes scheme rest : List ℕ)
    → (name_in surrogates).read bytes ≡ Ok (scheme, rest) → (name_in surrogates).read rest ≡ Err e
    → (id_in surrogates).read bytes ≡ Err e
unfolding id_in
name_refused surrogates e bytes scheme rest h k = rw h (rw k refl)
