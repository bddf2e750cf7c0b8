-- A port's part of the messages, and its share of the outputs.
use Rattle.std.proofs.Common.{◌≡◌, ◌≢◌, ℕ, false, inl, inr, List, [], ◌∷◌, ◌++◌, ◌==◌, map, refl, ap, sym, ◌∙◌, append_assoc, cond, eq-eqb, arith}
use Rattle.std.specs.Prelude.{filter, not}
use Rattle.std.proofs.lemmas.List.{append-nil, map-append}
use Rattle.std.proofs.lemmas.List.Elements.{filter-append}
use Rattle.std.proofs.lemmas.Bool.Decides.{eqb_tells, nat_tests}
use Rattle.world.specs.declared.output.Output.{Output}
use Rattle.intake.specs.declared.message.Message.{Message}
use Rattle.intake.specs.Messages.{PortMessage, event_of_message, events_of, part_of_port, messages_of_port, LeaderComesFirst, port_of, share_of_port}

pub part_joined : (n : ℕ) (a b : List PortMessage) → part_of_port n (a ++ b) ≡ part_of_port n a ++ part_of_port n b
part_joined n a b =
    ap (map (λ (c : PortMessage). c.1)) (filter-append (λ (c : PortMessage). c.0 == n) a b)
    ∙ map-append (λ (c : PortMessage). c.1) (filter (λ (c : PortMessage). c.0 == n) a)
    (filter (λ (c : PortMessage). c.0 == n) b)

pub share_joined : (n : ℕ) (a b : List Output) → share_of_port n (a ++ b) ≡ share_of_port n a ++ share_of_port n b
share_joined n a b = filter-append (λ (o : Output). port_of o == n) a b

pub events_joined : (a b : List PortMessage) → events_of (a ++ b) ≡ events_of a ++ events_of b
events_joined a b = map-append (λ (c : PortMessage). event_of_message c.0 c.1) a b

own : (n : ℕ) (m : Message) → part_of_port n ((n, m) ∷ []) ≡ m ∷ []
own n m = grind (arith, nat_tests)

other : (k n : ℕ) (m : Message) → k ≢ n → part_of_port k ((n, m) ∷ []) ≡ []
other k n m apart = grind (arith, nat_tests)

-- A port's messages are its part, and in no other.
pub part_own : (n : ℕ) (ms : List Message) → part_of_port n (messages_of_port n ms) ≡ ms
part_own n [] = refl
part_own n (m ∷ ms) =
    part_joined n ((n, m) ∷ []) (messages_of_port n ms)
    ∙ ap (λ l. l ++ part_of_port n (messages_of_port n ms)) (own n m) ∙ ap (λ l. m ∷ l) (part_own n ms)

pub part_others : (k n : ℕ) (ms : List Message) → k ≢ n → part_of_port k (messages_of_port n ms) ≡ []
part_others k n [] apart = refl
part_others k n (m ∷ ms) apart =
    part_joined k ((n, m) ∷ []) (messages_of_port n ms)
    ∙ ap (λ l. l ++ part_of_port k (messages_of_port n ms)) (other k n m apart) ∙ part_others k n ms apart

-- ---- the leader's messages come first

abbrev leaders : List PortMessage → List PortMessage
leaders came = filter (λ (c : PortMessage). c.0 == 0) came

abbrev clients : List PortMessage → List PortMessage
clients came = filter (λ (c : PortMessage). not (c.0 == 0)) came

leaders_own : (ms : List Message) → leaders (messages_of_port 0 ms) ≡ messages_of_port 0 ms
leaders_own [] = refl
leaders_own (m ∷ ms) = ap (λ (l : List PortMessage). (0, m) ∷ l) (leaders_own ms)

clients_none : (ms : List Message) → clients (messages_of_port 0 ms) ≡ []
clients_none [] = refl
clients_none (m ∷ ms) = clients_none ms

is_client : (n : ℕ) → n ≢ 0 → (n == 0) ≡ false
is_client n apart = elim (eqb_tells n 0) [ inl h ↦ absurd (apart h.1) | inr h ↦ h.0 ]

leaders_none : (n : ℕ) (ms : List Message) → n ≢ 0 → leaders (messages_of_port n ms) ≡ []
leaders_none n [] apart = refl
leaders_none n (m ∷ ms) apart =
    ap (λ b. cond b ((n, m) ∷ leaders (messages_of_port n ms)) (leaders (messages_of_port n ms))) (is_client n apart)
    ∙ leaders_none n ms apart

clients_own : (n : ℕ) (ms : List Message) → n ≢ 0 → clients (messages_of_port n ms) ≡ messages_of_port n ms
clients_own n [] apart = refl
clients_own n (m ∷ ms) apart =
    ap (λ b. cond (not b) ((n, m) ∷ clients (messages_of_port n ms)) (clients (messages_of_port n ms)))
    (is_client n apart)
    ∙ ap (λ (l : List PortMessage). (n, m) ∷ l) (clients_own n ms apart)

pub leader_alone : (ms : List Message) → LeaderComesFirst (messages_of_port 0 ms)
leader_alone ms =
    ap (λ (l : List PortMessage). leaders (messages_of_port 0 ms) ++ l) (clients_none ms)
    ∙ append-nil (leaders (messages_of_port 0 ms)) ∙ leaders_own ms

pub leader_before : (came : List PortMessage) (n : ℕ) (ms : List Message) → n ≢ 0 → LeaderComesFirst came
    → LeaderComesFirst (came ++ messages_of_port n ms)
leader_before came n ms apart first =
    let more = messages_of_port n ms in
    let by_leader : leaders (came ++ more) ≡ leaders came =
    filter-append (λ (c : PortMessage). c.0 == 0) came more ∙ ap (λ l. leaders came ++ l) (leaders_none n ms apart)
    ∙ append-nil (leaders came) in
    let by_clients : clients (came ++ more) ≡ clients came ++ more =
    filter-append (λ (c : PortMessage). not (c.0 == 0)) came more
    ∙ ap (λ l. clients came ++ l) (clients_own n ms apart) in
    ap (λ l. l ++ clients (came ++ more)) by_leader ∙ ap (λ l. leaders came ++ l) by_clients
    ∙ sym (append_assoc (leaders came) (clients came) more) ∙ ap (λ l. l ++ more) first

-- An output is its port's, and no other's.
pub share_own : (o : Output) → share_of_port (port_of o) (o ∷ []) ≡ o ∷ []
share_own o = ap (λ b. cond b (o ∷ []) []) (eq-eqb (port_of o) (port_of o) refl)

pub share_other : (n : ℕ) (o : Output) → n ≢ port_of o → share_of_port n (o ∷ []) ≡ []
share_other n o apart = grind (arith, nat_tests)
