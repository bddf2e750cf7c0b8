-- Adding a port.
use Rattle.std.proofs.Common.{◌≡◌, ◌+◌, ℕ, Bool, List, [], ◌++◌, Option, Some, None, refl, ap, sym, ◌∙◌, subst}
use Rattle.std.specs.Prelude.{if◌then◌else◌}
use Rattle.std.specs.FinMap as finmap
use Rattle.rtrb.specs.Ring.{sent, received, known_items, producer_capacity, consumer_capacity, IsPair}
use Rattle.observer_core.specs.Machine.{Machine}
use Rattle.world.proofs.NatMaps.{get-inserted, get-beside}
use Rattle.intake.specs.declared.port.PortEnd.{PortEnd}
use Rattle.intake.specs.declared.link.Link.{Link}
use Rattle.intake.specs.Messages.{PortMessage}
use Rattle.intake.specs.Links.{Links, taken_from, waiting_from, room_from, owed_to, IsEndBy}
use Rattle.intake.specs.Desk.{Desk, AddsPort}

-- The model of a desk.
abbrev pub seen_desk : Bool → Option Machine → Links → ℕ → List PortMessage → List ℕ → Desk
seen_desk closed engine links next fresh later =
    record { machine = if closed then None else engine; links = links; next = next; fresh = fresh; later = later }

-- The two ends of new rings.
pub record AreNew (end : PortEnd) (link : Link) : Type 0 where
  pub inbox : IsPair end.inbox link.inbox
  pub outbox : IsPair link.outbox end.outbox
  pub room : consumer_capacity link.inbox ≡ producer_capacity end.inbox
  pub no_sent : sent end.inbox ≡ []
  pub no_taken : received link.inbox ≡ []
  pub no_seen : known_items link.inbox ≡ []
  pub no_put : sent link.outbox ≡ []
  pub no_received : received end.outbox ≡ []
  pub no_kept : link.kept.items ≡ []

at_end : (links after : Links) (n : ℕ) (link : Link) → after ≡ finmap.insert links n link
    → finmap.get after n ≡ Some link
at_end links after n link is = ap (λ (l : Links). finmap.get l n) is ∙ get-inserted links n link

adding : (closed : Bool) (engine : Option Machine) (links after : Links) (next count : ℕ) (fresh : List PortMessage)
    (later : List ℕ) (end : PortEnd) (link : Link) → AreNew end link → end.number ≡ next → after ≡ finmap.insert links next link
    → count ≡ next + 1
    → AddsPort (seen_desk closed engine links next fresh later) end (seen_desk closed engine after count fresh later)
adding closed engine links after next count fresh later end link new number is counted =
    let there : finmap.get after end.number ≡ Some link =
    ap (λ n. finmap.get after n) number ∙ at_end links after next link is in
    record {
      number = number;
      next = counted;
      end = (let P : Option Link → Type 0 = λ o. IsEndBy end o in subst P (sym there) (new.inbox, new.outbox));
      sent = new.no_sent;
      received = new.no_received;
      room = ap room_from there ∙ new.room;
      taken = ap taken_from there ∙ new.no_taken;
      waits = ap waiting_from there ∙ new.no_seen;
      owed = ap owed_to there ∙ ap (λ s. s ++ link.kept.items) new.no_put ∙ new.no_kept;
      others = λ n apart. ap (λ (l : Links). finmap.get l n) is
          ∙ get-beside links next n link (λ e. apart (e ∙ sym number));
      machine = refl;
      fresh = refl;
      later = refl;
    }

pub added : (closed : Bool) (engine : Option Machine) (links after : Links) (next count : ℕ) (fresh : List PortMessage)
    (later : List ℕ) (end port : PortEnd) (link : Link) (old : Desk) → seen_desk closed engine links next fresh later ≡ old → port ≡ end
    → AreNew end link → end.number ≡ next → after ≡ finmap.insert links next link → count ≡ next + 1
    → AddsPort old port (seen_desk closed engine after count fresh later)
added closed engine links after next count fresh later end port link old view same new number is counted =
    let P : Desk → Type 0 = λ d. AddsPort d port (seen_desk closed engine after count fresh later) in
    let Q : PortEnd → Type 0 = λ e. AddsPort (seen_desk closed engine links next fresh later) e
    (seen_desk closed engine after count fresh later) in
    subst P view (subst Q (sym same) (adding closed engine links after next count fresh later end link new number is counted))
