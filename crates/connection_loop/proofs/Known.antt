-- The bytes that a reader has left and a writer holds, after one step and another.
use Rattle.std.proofs.Common.{ℕ, List, [], ◌++◌, Option, Some, None, refl, sym, ap, ◌∙◌}
use Rattle.std.proofs.lemmas.List.{append-nil, append_assoc}
use Rattle.std.specs.Io.KnownBytes.{Keeps, Appends, Consumes}

pub consumes_none : (known : Option (List ℕ)) → Consumes known known []
consumes_none None = tt
consumes_none (Some xs) = refl

pub appends_none : (known : Option (List ℕ)) → Appends known known []
appends_none None = tt
appends_none (Some xs) = sym (append-nil xs)

pub keeps_consumes : (old new : Option (List ℕ)) → Keeps old new → Consumes old new []
keeps_consumes None new kept = tt
keeps_consumes (Some xs) None kept = kept
keeps_consumes (Some xs) (Some ys) kept = sym kept

pub keeps_appends : (old new : Option (List ℕ)) → Keeps old new → Appends old new []
keeps_appends None new kept = tt
keeps_appends (Some xs) None kept = kept
keeps_appends (Some xs) (Some ys) kept = kept ∙ sym (append-nil xs)

pub consumes_more : (old mid new : Option (List ℕ)) (bs cs : List ℕ)
    → Consumes old mid bs → Consumes mid new cs → Consumes old new (bs ++ cs)
consumes_more None mid new bs cs one other = tt
consumes_more (Some xs) None new bs cs one other = absurd one
consumes_more (Some xs) (Some ys) None bs cs one other = other
consumes_more (Some xs) (Some ys) (Some zs) bs cs one other =
    one ∙ ap (λ l. bs ++ l) other ∙ sym (append_assoc bs cs zs)

pub appends_more : (old mid new : Option (List ℕ)) (bs cs : List ℕ)
    → Appends old mid bs → Appends mid new cs → Appends old new (bs ++ cs)
appends_more None mid new bs cs one other = tt
appends_more (Some xs) None new bs cs one other = absurd one
appends_more (Some xs) (Some ys) None bs cs one other = other
appends_more (Some xs) (Some ys) (Some zs) bs cs one other =
    other ∙ ap (λ l. l ++ cs) one ∙ append_assoc xs bs cs

pub keeps_itself : (known : Option (List ℕ)) → Keeps known known
keeps_itself None = tt
keeps_itself (Some xs) = refl

pub keeps_then : (old mid new : Option (List ℕ)) → Keeps old mid → Keeps mid new → Keeps old new
keeps_then None mid new one other = tt
keeps_then (Some xs) None new one other = absurd one
keeps_then (Some xs) (Some ys) None one other = other
keeps_then (Some xs) (Some ys) (Some zs) one other = other ∙ one
