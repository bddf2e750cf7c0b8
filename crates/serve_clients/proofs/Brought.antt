-- What a connection brings, as its reader gives it.
use Rattle.std.proofs.Common.{◌≡◌, ◌≢◌, ◌↔◌, IsTrue, ℕ, ◌<◌, ◌≤◌, min, Bool, true, false, List, [], ◌∷◌, ◌++◌, length, take, drop, length-take, if◌then◌else◌, Option, Some, None, refl, sym, ap, ◌∙◌, arith}
use Rattle.std.proofs.lemmas.List.{append_assoc, take_at, take-append-drop, length-take-le, length-drop, length-append}
use Rattle.std.specs.Io.KnownBytes.{Consumes, IsAtEnd, prepend_known}
use Rattle.serve_door.specs.Beginnings.{Beginning, brought_after}

pub no_bytes : (waits : Bool) (bytes : List ℕ) → (IsTrue waits ↔ (bytes ≢ [])) → waits ≡ false → bytes ≡ []
no_bytes waits [] is none = refl
no_bytes waits (x ∷ bytes) is none =
    let waiting : waits ≡ true = is.1 (λ e. cc) in
    absurd cc

-- The front of the bytes that come first, however much comes after them.
gives_front : (bytes : List ℕ) (count : ℕ) (rest : Option (List ℕ))
    → Consumes (prepend_known bytes rest) (prepend_known (drop count bytes) rest) (take count bytes)
gives_front bytes count None = tt
gives_front bytes count (Some xs) =
    ap (λ l. l ++ xs) (sym (take-append-drop count bytes)) ∙ append_assoc (take count bytes) (drop count bytes) xs

pub gives_first : (b b' : Beginning) (left : Option (List ℕ)) (count : ℕ) (old new : List ℕ)
    → b' ≡ record b { bytes = drop count b.bytes } → new ≡ take count b.bytes ++ drop count old
    → count ≤ length b.bytes → Consumes (brought_after b left) (brought_after b' left) (take count new)
gives_first b b' left count old new is given within =
    let long = length-take-le count b.bytes within in
    let front = ap (take count) given ∙ take_at (take count b.bytes) (drop count old) count long in
    rw (is, front) (gives_front b.bytes count (if b.is_last then Some [] else left))

empty_is_nil : (bytes : List ℕ) → length bytes ≡ 0 → bytes ≡ []
empty_is_nil [] none = refl
empty_is_nil (x ∷ bytes) none = absurd (omega (arith, none))

-- Where bytes come first, and there is room, some are given.
pub gives_some : (b : Beginning) (count : ℕ) (old new : List ℕ) → b.bytes ≢ []
    → count ≡ min (length b.bytes) (length old) → new ≡ take count b.bytes ++ drop count old → count ≡ 0
    → 0 < length new → (known : Option (List ℕ)) → IsAtEnd known
gives_some b count old new some is given none room known =
    let sum = ap length given ∙ length-append (take count b.bytes) (drop count old) in
    let front = length-take count b.bytes in
    let back = length-drop count old in
    let zero : length b.bytes ≡ 0 = omega (arith, is, none, room, sum, front, back) in
    absurd (some (empty_is_nil b.bytes zero))

pub nothing_left : (b : Beginning) (left : Option (List ℕ)) → b.bytes ≡ [] → b.is_last ≡ true
    → brought_after b left ≡ Some []
nothing_left b left none last = rw (none, last) refl

pub nothing_first : (b : Beginning) (left : Option (List ℕ)) → b.bytes ≡ [] → b.is_last ≡ false
    → brought_after b left ≡ left
nothing_first b None none more = rw (none, more) refl
nothing_first b (Some xs) none more = rw (none, more) refl
