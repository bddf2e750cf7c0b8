-- What goes through a connection's port from its first byte to its end, and what is written meanwhile.
use Rattle.std.specs.Prelude.{◌≡◌, ◌⊎◌, ℕ, ◌++◌, [], ◌∷◌, List, map, Option, IfSome, IsSome, false, codes}
use Rattle.std.specs.List.{flat_map}
use Rattle.four_letter.specs.Words.{word_of}
use Rattle.world.specs.declared.output.Output.{Output}
use Rattle.world.specs.declared.output.Output.TheVariants.{ToLeader, ToClient, CloseLeader, CloseClient}
use Rattle.intake.specs.declared.message.Message.{Message}
use Rattle.intake.specs.declared.message.Message.TheVariants.{Up, Bytes, End}
use Rattle.intake.specs.declared.port.PortEnd.{PortEnd}
use Rattle.intake.specs.Ports.{sent_through, received_through}
use Rattle.connection_loop.specs.declared.limits.AllowedWords.{AllowedWords}
use Rattle.connection_loop.specs.Limits.{allows_word}

abbrev pub IsFront : {A : Type 0} → List A → List A → Type 0
IsFront {A} front all = (rest : List A) × (all ≡ front ++ rest)

-- Pieces, one after the other.
abbrev pub joined_pieces : List (List ℕ) → List ℕ
joined_pieces pieces = flat_map (λ piece. piece) pieces

abbrev pub bytes_of_output : Output → List ℕ
bytes_of_output (ToLeader bytes) = bytes
bytes_of_output (ToClient n bytes) = bytes
bytes_of_output (CloseLeader fault) = []
bytes_of_output (CloseClient n) = []

abbrev pub bytes_of_outputs : List Output → List ℕ
bytes_of_outputs outputs = flat_map bytes_of_output outputs

-- The messages of a connection of which these pieces were read: it is up, the pieces, and its end.
abbrev pub messages_of : Option (List ℕ) → List (List ℕ) → List Message
messages_of address pieces = (Up address ∷ map Bytes pieces) ++ End ∷ []

-- Messages were sent: all of them, or, where no thread is left that would take them, a front.
abbrev pub AreSent : Type 0 → List Message → PortEnd → PortEnd → Type 0
AreSent Abandoned messages before after =
    (sent_through after ≡ sent_through before ++ messages)
    ⊎ (Abandoned × IsFront (sent_through after) (sent_through before ++ messages))

-- What a connection sent, if its reader had these bytes, where they are known: each that it sent on once and in order,
-- between its beginning and its end.
pub record SendsOn (address : Option (List ℕ)) (unread : Option (List ℕ)) (Abandoned : Type 0)
    (before after : PortEnd) : Type 0 where
  pub pieces : List (List ℕ)
  pub sent : AreSent Abandoned (messages_of address pieces) before after
  pub read : IfSome unread (IsFront (joined_pieces pieces))

-- Its outputs were received, and these bytes written: a front of the bytes of a front of the outputs, which are
-- followed by what the connection says itself.
pub record WritesBack (Says Written : List ℕ → Type 0) (before after : PortEnd) : Type 0 where
  pub outputs : List Output
  pub dropped : List Output
  pub received : received_through after ≡ received_through before ++ (outputs ++ dropped)
  pub says : List ℕ
  pub said : Says says
  pub written : List ℕ
  pub were_written : Written written
  pub front : IsFront written (bytes_of_outputs outputs ++ says)

-- ---- what a connection says itself

-- What the leader's says.
abbrev pub IsNothing : List ℕ → Type 0
IsNothing text = text ≡ []

-- What comes after a word that is refused.
abbrev pub refusal_text : List ℕ
refusal_text = codes " is not executed because it is not in the whitelist.\n"

abbrev pub refusal_of : List ℕ → List ℕ
refusal_of word = word ++ refusal_text

-- What a client's says: nothing, or that a word isn't allowed.
abbrev pub IsRefusal : AllowedWords → List ℕ → Type 0
IsRefusal words text =
    (text ≡ [])
    ⊎ ((word : List ℕ) × IsSome (word_of word) × (allows_word words (word_of word) ≡ false) × (text ≡ refusal_of word))
