-- The addresses of the texts of a list.
use Rattle.std.proofs.Common.{◌≡◌, ℕ, List, [], ◌∷◌, ◌++◌, suc, length, refl, ap}
use Rattle.serve_options.specs.Values.{SpellsPlace, ArePlaces}
use Rattle.serve_options.specs.declared.value.Address.{Address}

pub one_more : (texts : List (List ℕ)) (addresses : List Address) (text : List ℕ) (address : Address)
    → ArePlaces texts addresses → SpellsPlace text address.host.now address.port
    → ArePlaces (texts ++ text ∷ []) (addresses ++ address ∷ [])
one_more [] [] text address before is = (is, tt)
one_more [] (first ∷ addresses) text address before is = absurd before
one_more (first ∷ texts) [] text address before is = absurd before
one_more (first ∷ texts) (front ∷ addresses) text address before is =
    (before.0, one_more texts addresses text address before.1 is)

pub same_length : (texts : List (List ℕ)) (addresses : List Address) → ArePlaces texts addresses
    → length texts ≡ length addresses
same_length [] [] are = refl
same_length [] (first ∷ addresses) are = absurd are
same_length (first ∷ texts) [] are = absurd are
same_length (first ∷ texts) (front ∷ addresses) are = ap suc (same_length texts addresses are.1)
