-- The messages of a turn come port by port.
use Rattle.std.proofs.Common.{◌≡◌, ◌≤◌, ℕ, zero, suc, List, [], ◌∷◌, ◌++◌, refl, ap, sym, ◌∙◌, subst, append_assoc, arith}
use Rattle.std.specs.List.{All, AllPairs}
use Rattle.std.specs.List.Sorted.{IsStrictlyIncreasing}
use Rattle.std.proofs.lemmas.List.{append-nil}
use Rattle.std.proofs.lemmas.List.Elements.{All-append, All-map}
use Rattle.std.proofs.lemmas.List.Kept.{AllPairs-cons, AllPairs-from_increasing}
use Rattle.intake.specs.declared.message.Message.{Message}
use Rattle.intake.specs.Messages.{PortMessage, messages_of_port, ComeByNumber}
use Rattle.intake.specs.Links.{seen_at, waiting_at}
use Rattle.intake.specs.Desk.{Desk}
use Rattle.intake.specs.Steps.{FeedsPort, AreOfPorts, AddsOfPorts}

-- ---- messages of ports are appended

are_on : (xs ys : List ℕ) (a b : List PortMessage) → AreOfPorts xs a → AreOfPorts ys b → AreOfPorts (xs ++ ys) (a ++ b)
are_on [] ys a b x y = let P : List PortMessage → Type 0 = λ l. AreOfPorts ys (l ++ b) in subst P (sym x) y
are_on (n ∷ ns) ys a b x y = (
  x.0,
  x.1 ++ b,
  ap (λ l. l ++ b) x.2 ∙ append_assoc (messages_of_port n x.0) x.1 b,
  are_on ns ys x.1 b x.3 y,
)

pub adds_on : (xs ys : List ℕ) (a b c : List PortMessage) → AddsOfPorts xs a b → AddsOfPorts ys b c
    → AddsOfPorts (xs ++ ys) a c
adds_on xs ys a b c x y = (
  x.0 ++ y.0,
  y.1 ∙ ap (λ l. l ++ y.0) x.1 ∙ append_assoc a x.0 y.0,
  are_on xs ys x.0 y.0 x.2 y.2,
)

pub adds_nothing : (came : List PortMessage) → AddsOfPorts [] came came
adds_nothing came = ([], sym (append-nil came), refl)

pub adds_none : (k : ℕ) (came : List PortMessage) → AddsOfPorts (k ∷ []) came came
adds_none k came = ([], sym (append-nil came), ([], [], refl, refl))

pub adds_fed : (k : ℕ) (old new : Desk) → FeedsPort k old new → AddsOfPorts (k ∷ []) old.fresh new.fresh
adds_fed k old new f = (
  seen_at old.links k,
  f.fresh,
  (waiting_at old.links k, [], sym (append-nil (seen_at old.links k)), refl),
)

-- Where none came before, all are of these ports.
pub adds_first : (numbers : List ℕ) (old new : List PortMessage) → old ≡ [] → AddsOfPorts numbers old new
    → AreOfPorts numbers new
adds_first numbers old new none adds =
    let P : List PortMessage → Type 0 = λ l. AreOfPorts numbers l in
    subst P (sym (adds.1 ∙ ap (λ l. l ++ adds.0) none)) adds.2

-- ---- they come by number

abbrev IsFrom : ℕ → PortMessage → Type 0
IsFrom low c = low ≤ c.0

from_port : (low n : ℕ) (ms : List Message) → low ≤ n → All (IsFrom low) (messages_of_port n ms)
from_port low n ms above = All-map (IsFrom low) (λ (m : Message). (n, m)) ms (λ k d within. above)

from_ports : (low : ℕ) (numbers : List ℕ) (came : List PortMessage) → All (λ n. low ≤ n) numbers
    → AreOfPorts numbers came → All (IsFrom low) came
from_ports low [] came above is =
    let P : List PortMessage → Type 0 = λ l. All (IsFrom low) l in
    subst P (sym is) (λ k d within. absurd (omega arith))
from_ports low (n ∷ ns) came above of =
    let P : List PortMessage → Type 0 = λ l. All (IsFrom low) l in
    subst P (sym of.2)
    (All-append (IsFrom low) (messages_of_port n of.0) of.1
    (from_port low n of.0 (above 0 0 (omega arith)))
    (from_ports low ns of.1 (λ k d within. above (suc k) d (omega arith)) of.3))

rises_from : (c : PortMessage) (came : List PortMessage) → All (IsFrom c.0) came
    → ComeByNumber came → ComeByNumber (c ∷ came)
rises_from c came above rises zero zero d le within = omega arith
rises_from c came above rises zero (suc j) d le within = above j d (omega arith)
rises_from c came above rises (suc i) zero d le within = absurd (omega arith)
rises_from c came above rises (suc i) (suc j) d le within = rises i j d (omega arith) (omega arith)

port_rises : (n : ℕ) (ms : List Message) (rest : List PortMessage) → All (IsFrom n) rest
    → ComeByNumber rest → ComeByNumber (messages_of_port n ms ++ rest)
port_rises n [] rest above rises = rises
port_rises n (m ∷ ms) rest above rises =
    rises_from (n, m) (messages_of_port n ms ++ rest)
    (All-append (IsFrom n) (messages_of_port n ms) rest (from_port n n ms (omega arith)) above)
    (port_rises n ms rest above rises)

ports_rise : (numbers : List ℕ) (came : List PortMessage) → AllPairs (λ a b. a ≤ b) numbers → AreOfPorts numbers came
    → ComeByNumber came
ports_rise [] came up is =
    let P : List PortMessage → Type 0 = λ l. ComeByNumber l in
    subst P (sym is) (λ i j d le within. absurd (omega arith))
ports_rise (n ∷ ns) came up of =
    let P : List PortMessage → Type 0 = λ l. ComeByNumber l in
    subst P (sym of.2)
    (port_rises n of.0 of.1
    (from_ports n ns of.1 (λ k d within. up 0 (suc k) d (omega arith) (omega arith)) of.3)
    (ports_rise ns of.1 (λ i j d lt within. up (suc i) (suc j) d (omega arith) (omega arith)) of.3))

-- First the leader's messages, and then those of the clients' ports in order.
pub come_by_number : (numbers : List ℕ) (leaders came : List PortMessage) → IsStrictlyIncreasing numbers
    → AreOfPorts (0 ∷ []) leaders → AddsOfPorts numbers leaders came → ComeByNumber came
come_by_number numbers leaders came up first adds =
    let pairs = AllPairs-from_increasing numbers up in
    let P : List PortMessage → Type 0 = λ l. ComeByNumber l in
    subst P (sym adds.1)
    (ports_rise (0 ∷ numbers) (leaders ++ adds.0)
    (AllPairs-cons (λ a b. a ≤ b) 0 numbers (λ k d within. omega arith)
    (λ i j d lt within. let below = pairs i j d lt within in omega arith))
    (are_on (0 ∷ []) numbers leaders adds.0 first adds.2))
