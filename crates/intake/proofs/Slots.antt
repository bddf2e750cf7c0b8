-- Which slots the ports have.
use Rattle.std.proofs.Common.{◌≡◌, ◌≢◌, ◌≤◌, ◌+◌, ℕ, Bool, true, false, List, [], Option, Some, None, Ok, refl, ap, sym, ◌∙◌, subst, inl, inr, arith}
use Rattle.std.specs.Prelude.{IsSome}
use Rattle.std.specs.Ordering.{nat_cmp}
use Rattle.std.specs.FinMap as finmap
use Rattle.std.proofs.lemmas.Option.{none-some}
use Rattle.std.proofs.lemmas.Bool.Decides.{eqb_tells}
use Rattle.values.proofs.Keyed.{some-some}
use Rattle.world.proofs.NatMaps.{get-inserted, get-beside, get-removed, get-kept}
use Rattle.port_hints.specs.Slots.{Slots, port_at, GivesSlot, GivesNoSlot}
use Rattle.observer_core.specs.Machine.{Machine}
use Rattle.observer_core.specs.Plays.{PlaysEvents}
use Rattle.observer_core.specs.declared.event.Event.{Event}
use Rattle.world.specs.declared.output.Output.{Output}
use Rattle.intake.specs.declared.link.Link.{Link}
use Rattle.intake.specs.Links.{Links, slot_from, slot_at, StaysOpen, AllStay}
use Rattle.intake.specs.Desk.{IsOpenUnless, AreSlotsOf, IsSoundDesk}

-- ---- no port is added or removed

same_slot : (x y : Option Link) → StaysOpen x y → slot_from y ≡ slot_from x
same_slot None None s = refl
same_slot (Some a) (Some b) s = ap Some s.slot
same_slot None (Some b) s = absurd s
same_slot (Some a) None s = absurd s

stays_none : (x y : Option Link) → StaysOpen x y → x ≡ None → y ≡ None
stays_none None None s e = refl
stays_none None (Some b) s e = absurd s
stays_none (Some a) y s e = absurd (none-some a (sym e))

slots_stay : (old new : Links) (slots : Slots) → AllStay old new → AreSlotsOf old slots → AreSlotsOf new slots
slots_stay old new slots stay held n slot =
    let same : slot_at new n ≡ slot_at old n = same_slot (finmap.get old n) (finmap.get new n) (stay.at n) in
    (λ e. same ∙ (held n slot).0 e, λ e. (held n slot).1 (sym same ∙ e))

pub sound_stays : (closed closes : Bool) (before after : Option Machine) (old new : Links) (next : ℕ) (slots : Slots)
    → IsOpenUnless closes after → AllStay old new → IsSoundDesk closed before old next slots
    → IsSoundDesk closes after new next slots
sound_stays closed closes before after old new next slots is_open stay held = record {
  is_open = is_open;
  unused = λ n within. stays_none (finmap.get old n) (finmap.get new n) (stay.at n) (held.unused n within);
  given = slots_stay old new slots stay held.given;
}

pub sound_kept : (closed : Bool) (engine : Option Machine) (old new : Links) (next : ℕ) (slots : Slots)
    → AllStay old new → IsSoundDesk closed engine old next slots → IsSoundDesk closed engine new next slots
sound_kept closed engine old new next slots stay held =
    sound_stays closed closed engine engine old new next slots held.is_open stay held

pub sound_closed : (closed : Bool) (before after : Option Machine) (old new : Links) (next : ℕ) (slots : Slots)
    → AllStay old new → IsSoundDesk closed before old next slots → IsSoundDesk true after new next slots
sound_closed closed before after old new next slots stay held =
    sound_stays closed true before after old new next slots tt stay held

slots_none : AreSlotsOf finmap.empty []
slots_none n slot = (
  λ e. absurd (none-some n e),
  λ e. absurd (none-some slot (sym (ap slot_from (finmap.get-empty nat_cmp n)) ∙ e)),
)

pub sound_new : (engine : Option Machine) (links : Links) (slots : Slots) → IsSome engine → links ≡ finmap.empty
    → slots ≡ [] → IsSoundDesk false engine links 0 slots
sound_new engine links slots is_open none free =
    let P : Links → Type 0 = λ l. IsSoundDesk false engine l 0 slots in
    let Q : Slots → Type 0 = λ s. IsSoundDesk false engine finmap.empty 0 s in
    subst P (sym none) (subst Q (sym free) (record {
      is_open = is_open;
      unused = λ n within. finmap.get-empty nat_cmp n;
      given = slots_none;
    }))

-- The engine after messages that it played is open.
pub plays_open : (before after : Option Machine) (events : List Event) (old new : List Output)
    → PlaysEvents (Ok tt) before events old new after → IsSome after
plays_open (Some m) after events old new plays = subst IsSome (sym plays.1) refl
plays_open None after events old new plays = absurd plays

-- ---- a port is added

slots_added : (links : Links) (before after : Slots) (n slot : ℕ) (link : Link) → finmap.get links n ≡ None
    → link.slot ≡ slot → port_at before slot ≡ None → GivesSlot slot (Some n) before after → AreSlotsOf links before
    → AreSlotsOf (finmap.insert links n link) after
slots_added links before after n slot link none is free gives held m k = (to, from)
  where
    here : slot_at (finmap.insert links n link) n ≡ Some slot
    here = ap slot_from (get-inserted links n link) ∙ ap Some is

    there : m ≢ n → slot_at (finmap.insert links n link) m ≡ slot_at links m
    there apart = ap slot_from (get-beside links n m link apart)

    to : port_at after k ≡ Some m → slot_at (finmap.insert links n link) m ≡ Some k
    to e = elim (eqb_tells k slot) [
      | inl h ↦
          let same : n ≡ m = some-some (sym gives.at ∙ ap (port_at after) (sym h.1) ∙ e) in
          ap (slot_at (finmap.insert links n link)) (sym same) ∙ here ∙ ap Some (sym h.1)
      | inr h ↦
          let old : slot_at links m ≡ Some k = (held m k).0 (sym (gives.others k h.1) ∙ e) in
          there (λ same. none-some k (sym (ap slot_from none) ∙ ap (slot_at links) (sym same) ∙ old)) ∙ old
    ]

    from : slot_at (finmap.insert links n link) m ≡ Some k → port_at after k ≡ Some m
    from e = elim (eqb_tells m n) [
      | inl h ↦
          let same : slot ≡ k =
          some-some (sym here ∙ ap (slot_at (finmap.insert links n link)) (sym h.1) ∙ e) in
          ap (port_at after) (sym same) ∙ gives.at ∙ ap Some (sym h.1)
      | inr h ↦
          let old : port_at before k ≡ Some m = (held m k).1 (sym (there h.1) ∙ e) in
          gives.others k (λ same. none-some m (sym free ∙ ap (port_at before) (sym same) ∙ old)) ∙ old
    ]

unused_added : (links : Links) (next : ℕ) (link : Link) → ((n : ℕ) → next ≤ n → finmap.get links n ≡ None) → (n : ℕ)
    → next + 1 ≤ n → finmap.get (finmap.insert links next link) n ≡ None
unused_added links next link unused n within =
    get-beside links next n link (λ same. absurd (omega (arith, same))) ∙ unused n (omega arith)

pub sound_added : (closed : Bool) (engine : Option Machine) (links new : Links) (next count : ℕ) (before after : Slots)
    (slot : ℕ) (link : Link) → new ≡ finmap.insert links next link → count ≡ next + 1 → link.slot ≡ slot
    → port_at before slot ≡ None → GivesSlot slot (Some next) before after → IsSoundDesk closed engine links next before
    → IsSoundDesk closed engine new count after
sound_added closed engine links new next count before after slot link added counted is free gives held =
    let P : Links → Type 0 = λ l. IsSoundDesk closed engine l count after in
    let Q : ℕ → Type 0 = λ c. IsSoundDesk closed engine (finmap.insert links next link) c after in
    subst P (sym added) (subst Q (sym counted) (record {
      is_open = held.is_open;
      unused = unused_added links next link held.unused;
      given = slots_added links before after next slot link (held.unused next (omega arith)) is free gives held.given;
    }))

-- A slot is given to no port.
pub sound_refused : (closed : Bool) (engine : Option Machine) (links : Links) (next : ℕ) (before after : Slots)
    → GivesNoSlot before after → IsSoundDesk closed engine links next before → IsSoundDesk closed engine links next after
sound_refused closed engine links next before after gives held = record {
  is_open = held.is_open;
  unused = held.unused;
  given = λ n slot. (
    λ e. (held.given n slot).0 (sym (gives slot) ∙ e),
    λ e. gives slot ∙ (held.given n slot).1 e,
  );
}

-- A slot that was given is freed again.
pub given_back : (before between after : Slots) (slot : ℕ) (port : Option ℕ) → port_at before slot ≡ None
    → GivesSlot slot port before between → GivesSlot slot None between after → GivesNoSlot before after
given_back before between after slot port free gives frees k = elim (eqb_tells k slot) [
  | inl h ↦ ap (port_at after) h.1 ∙ frees.at ∙ sym free ∙ ap (port_at before) (sym h.1)
  | inr h ↦ frees.others k h.1 ∙ gives.others k h.1
]

-- ---- a port is removed

slots_freed : (links : Links) (before after : Slots) (n slot : ℕ) → slot_at links n ≡ Some slot
    → GivesSlot slot None before after → AreSlotsOf links before → AreSlotsOf (finmap.remove links n) after
slots_freed links before after n slot has frees held m k = (to, from)
  where
    there : m ≢ n → slot_at (finmap.remove links n) m ≡ slot_at links m
    there apart = ap slot_from (get-kept links n m apart)

    to : port_at after k ≡ Some m → slot_at (finmap.remove links n) m ≡ Some k
    to e = elim (eqb_tells k slot) [
      | inl h ↦ absurd (none-some m (sym frees.at ∙ ap (port_at after) (sym h.1) ∙ e))
      | inr h ↦
          let old : slot_at links m ≡ Some k = (held m k).0 (sym (frees.others k h.1) ∙ e) in
          there (λ same. h.1 (some-some (sym old ∙ ap (slot_at links) same ∙ has))) ∙ old
    ]

    from : slot_at (finmap.remove links n) m ≡ Some k → port_at after k ≡ Some m
    from e = elim (eqb_tells m n) [
      | inl h ↦ absurd (none-some k (sym (ap slot_from (get-removed links n))
          ∙ ap (slot_at (finmap.remove links n)) (sym h.1) ∙ e))
      | inr h ↦
          let old : port_at before k ≡ Some m = (held m k).1 (sym (there h.1) ∙ e) in
          frees.others k (λ same. h.1 (some-some (sym old ∙ ap (port_at before) same ∙ (held n slot).1 has))) ∙ old
    ]

get_without : (links : Links) (n m : ℕ) → finmap.get links m ≡ None → finmap.get (finmap.remove links n) m ≡ None
get_without links n m none = elim (eqb_tells m n) [
  | inl h ↦ ap (finmap.get (finmap.remove links n)) h.1 ∙ get-removed links n
  | inr h ↦ get-kept links n m h.1 ∙ none
]

pub sound_freed : (closed : Bool) (engine : Option Machine) (links new : Links) (next : ℕ) (before after : Slots) (n : ℕ)
    (link : Link) → Some link ≡ finmap.get links n → new ≡ finmap.remove links n
    → GivesSlot link.slot None before after → IsSoundDesk closed engine links next before
    → IsSoundDesk closed engine new next after
sound_freed closed engine links new next before after n link there removed frees held =
    let P : Links → Type 0 = λ l. IsSoundDesk closed engine l next after in
    subst P (sym removed) (record {
      is_open = held.is_open;
      unused = λ m within. get_without links n m (held.unused m within);
      given = slots_freed links before after n link.slot (ap slot_from (sym there)) frees held.given;
    })

-- The port wasn't open.
pub sound_without : (closed : Bool) (engine : Option Machine) (links new : Links) (next : ℕ) (slots : Slots) (n : ℕ)
    → None ≡ finmap.get links n → new ≡ finmap.remove links n → IsSoundDesk closed engine links next slots
    → IsSoundDesk closed engine new next slots
sound_without closed engine links new next slots n none removed held =
    let P : Links → Type 0 = λ l. IsSoundDesk closed engine l next slots in
    subst P (sym removed) (record {
      is_open = held.is_open;
      unused = λ m within. get_without links n m (held.unused m within);
      given = λ m slot. (
        λ e. same m ∙ (held.given m slot).0 e,
        λ e. (held.given m slot).1 (sym (same m) ∙ e),
      );
    })
  where
    same : (m : ℕ) → slot_at (finmap.remove links n) m ≡ slot_at links m
    same m = elim (eqb_tells m n) [
      | inl h ↦ ap (slot_at (finmap.remove links n)) h.1 ∙ ap slot_from (get-removed links n ∙ none)
          ∙ ap (slot_at links) (sym h.1)
      | inr h ↦ ap slot_from (get-kept links n m h.1)
    ]
