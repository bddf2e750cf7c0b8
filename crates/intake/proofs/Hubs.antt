-- A hub's list agrees with its desk.
use Rattle.std.proofs.Common.{◌≡◌, ◌≤◌, ◌+◌, ◌==◌, ℕ, zero, suc, Bool, true, false, cond, List, [], ◌∷◌, ◌++◌, length, take, Option, Some, None, Ok, Err, refl, ap, sym, ◌∙◌, subst, inl, inr, arith}
use Rattle.std.proofs.lemmas.List.{take-append-le, take_all, length-append}
use Rattle.std.proofs.lemmas.Bool.Decides.{eqb_tells, nat_tests}
use Rattle.observer_core.specs.Machine.{Machine}
use Rattle.observer_core.specs.declared.engine.Stop.TheVariants as stops
use Rattle.intake.specs.declared.port.PortEnd.{PortEnd}
use Rattle.intake.specs.Messages.{PortMessage, share_of_port}
use Rattle.intake.specs.Links.{owed_at}
use Rattle.intake.specs.Desk.{Desk, AddsPort, KeepsPorts, TakesTurn, TakesNothing, AnswersTurn}
use Rattle.intake.specs.Agreement.{DeskAgrees, outputs_of, with_port}
use Rattle.intake.specs.Hub.{Hub, new_hub, without_port, number_at, taken_before, IsHubSince, HubsRun}
use Rattle.intake.proofs.Agreeing.{desks_agree}
use Rattle.intake.proofs.Turning.{ports_on}

-- The lists before the ports, given in another way.
told_so : (began : Machine) (d : Desk) (taken : List PortMessage) (before others : ℕ → List PortMessage)
    → ((n : ℕ) → others n ≡ before n) → DeskAgrees began d taken before → DeskAgrees began d taken others
told_so began d taken before others same a = record {
  machine = a.machine;
  took = a.took;
  owes = λ n live. ap (λ l. share_of_port n (outputs_of began l) ++ owed_at d.links n) (same n) ∙ a.owes n live;
  unused = a.unused;
}

runs_at_first : (m : Machine) → IsHubSince m (new_hub m)
runs_at_first m = record {
  agrees = desks_agree.opens m (taken_before (new_hub m));
  within = λ n. omega arith;
  ports = refl;
}

-- ---- a turn

turned_machine : (o : Option Machine) (old new : Desk) (count : ℕ) → AnswersTurn (Ok count) o old new
    → (m : Machine) × ((o ≡ Some m) × ((count ≡ length new.fresh) × TakesTurn m old new))
turned_machine None old new count t = absurd t
turned_machine (Some m) old new count t = (m, (refl, (t.0, t.1)))

-- The desk was open, and is closed after the turn.
pub closed_turn : (o : Option Machine) (old turned new : Desk) (count : ℕ) → AnswersTurn (Ok count) o old turned
    → KeepsPorts turned new → new.machine ≡ None → AnswersTurn (Err stops.NoMemory) o old new
closed_turn None old turned new count t keeps none = absurd t
closed_turn (Some m) old turned new count t keeps none =
    inl (none, ports_on old turned new (record { stay = t.1.stay; next = t.1.next }) keeps)

runs_on : (began : Machine) (old : Hub) (new left : Desk) (taken : List PortMessage) (count : ℕ)
    → AnswersTurn (Ok count) old.desk.machine old.desk new → left ≡ record new { fresh = [] }
    → taken ≡ old.taken ++ new.fresh → IsHubSince began old
    → IsHubSince began (record { desk = left; taken = taken; since = old.since })
runs_on began old new left taken count t is grown r =
    let turned = turned_machine old.desk.machine old.desk new count t in
    let a = desks_agree.turns began turned.0 old.desk new old.taken (taken_before old) r.agrees turned.1.0 turned.1.1.1
    in
    let before : ℕ → List PortMessage = λ n. take (number_at old.since n) (old.taken ++ new.fresh) in
    let same : (n : ℕ) → before n ≡ taken_before old n =
    λ n. take-append-le (number_at old.since n) old.taken new.fresh (r.within n) in
    let b = told_so began new (old.taken ++ new.fresh) (taken_before old) before same a in
    let P : Desk → Type 0 = λ d. IsHubSince began (record { desk = d; taken = taken; since = old.since }) in
    let Q : List PortMessage → Type 0 =
    λ l. IsHubSince began (record { desk = record new { fresh = [] }; taken = l; since = old.since }) in
    subst P (sym is) (subst Q (sym grown) (record {
      agrees = record { machine = b.machine; took = b.took; owes = b.owes; unused = b.unused };
      within = λ n. (let w = r.within n in omega (arith, length-append {A = PortMessage} old.taken new.fresh));
      ports = r.ports ∙ sym turned.1.1.1.next;
    }))

runs_still : (began : Machine) (old : Hub) (new : Desk) → TakesNothing old.desk new → IsHubSince began old
    → IsHubSince began (record old { desk = new })
runs_still began old new w r = record {
  agrees = desks_agree.waits began old.desk new old.taken (taken_before old) r.agrees w;
  within = r.within;
  ports = r.ports ∙ sym w.next;
}

runs_without : (began : Machine) (old : Hub) (n : ℕ) → IsHubSince began old → IsHubSince began (without_port old n)
runs_without began old n r = record {
  agrees = desks_agree.closes began old.desk n old.taken (taken_before old) r.agrees;
  within = r.within;
  ports = r.ports;
}

-- ---- a port

-- The numbers with one more at their end.
added_at : (xs : List ℕ) (v n : ℕ) → number_at (xs ++ v ∷ []) n ≡ cond (n == length xs) v (number_at xs n)
added_at [] v zero = refl
added_at [] v (suc k) = grind (arith, nat_tests)
added_at (x ∷ xs) v zero = grind (arith, nat_tests)
added_at (x ∷ xs) v (suc k) = added_at xs v k ∙ elim (eqb_tells k (length xs)) [
  | inl h ↦ grind (arith, nat_tests)
  | inr h ↦ grind (arith, nat_tests)
]

taken_then : (b : Bool) (taken : List PortMessage) (k : ℕ)
    → take (cond b (length taken) k) taken ≡ cond b taken (take k taken)
taken_then true taken k = take_all (length taken) taken (omega arith)
taken_then false taken k = refl

within_then : (b : Bool) (most k : ℕ) → k ≤ most → cond b most k ≤ most
within_then true most k h = omega arith
within_then false most k h = h

added_length : (xs : List ℕ) (v : ℕ) → length (xs ++ v ∷ []) ≡ length xs + 1
added_length xs v = length-append xs (v ∷ [])

runs_with : (began : Machine) (old : Hub) (port : PortEnd) (new : Desk) (since : List ℕ)
    → AddsPort old.desk port new → since ≡ old.since ++ length old.taken ∷ [] → IsHubSince began old
    → IsHubSince began (record { desk = new; taken = old.taken; since = since })
runs_with began old port new since added is r =
    let a = desks_agree.adds began old.desk new port old.taken (taken_before old) r.agrees added in
    let at : (n : ℕ) → number_at since n ≡ cond (n == port.number) (length old.taken) (number_at old.since n) = λ n.
    ap (λ s. number_at s n) is ∙ added_at old.since (length old.taken) n
    ∙ ap (λ k. cond (n == k) (length old.taken) (number_at old.since n)) (r.ports ∙ sym added.number) in
    record {
      agrees = told_so began new old.taken (with_port port.number old.taken (taken_before old))
          (λ n. take (number_at since n) old.taken)
          (λ n. ap (λ k. take k old.taken) (at n) ∙ taken_then (n == port.number) old.taken (number_at old.since n)) a;
      within = λ n.
          let P : ℕ → Type 0 = λ k. k ≤ length old.taken in
          subst P (sym (at n)) (within_then (n == port.number) (length old.taken) (number_at old.since n) (r.within n));
      ports = ap length is ∙ added_length old.since (length old.taken) ∙ ap (λ k. k + 1) r.ports ∙ sym added.next;
    }

-- ---- all of it

-- A hub with this list and these lengths.
same_hub : (began : Machine) (h : Hub) (taken : List PortMessage) (since : List ℕ) → h.taken ≡ taken → h.since ≡ since
    → IsHubSince began (record { desk = h.desk; taken = taken; since = since }) → IsHubSince began h
same_hub began h taken since t s r =
    let P : List PortMessage → Type 0 = λ l. IsHubSince began (record { desk = h.desk; taken = l; since = h.since }) in
    let Q : List ℕ → Type 0 = λ l. IsHubSince began (record { desk = h.desk; taken = taken; since = l }) in
    subst P (sym t) (subst Q (sym s) r)

pub hubs_run : HubsRun
hubs_run = record {
  opens = runs_at_first;
  adds = λ began old port new gains r.
      same_hub began new old.taken new.since gains.taken refl
      (runs_with began old port new.desk new.since gains.desk gains.since r);
  turns = λ began old count turned new gains r.
      same_hub began new new.taken old.since refl gains.since
      (runs_on began old turned new.desk new.taken count gains.turn gains.desk gains.taken r);
  waits = λ began old new nothing taken since r.
      same_hub began new old.taken old.since taken since (runs_still began old new.desk nothing r);
  closes = runs_without;
}
