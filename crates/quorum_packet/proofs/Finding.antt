-- The value at the front of the bytes, whether it is an item or not.
use Rattle.std.proofs.Common.{◌≡◌, ℕ, ◌-◌, ◌≤◌, Bool, false, cond, List, [], ◌∷◌, ◌++◌, length, drop, Option, Some, None, Result, Ok, Err, is_err, refl, sym, ap, subst, ◌∙◌, arith}
use Rattle.std.specs.Prelude.{IfSome}
use Rattle.settings.specs.declared.dialect.Dialect.{Dialect}
use Rattle.values.specs.declared.fault.Fault.{Fault}
use Rattle.values.specs.declared.fault.Fault.TheVariants.{Short}
use Rattle.values.specs.declared.fault.ReadError.{ReadError}
use Rattle.values.specs.declared.fault.ReadError.TheVariants as errors
use Rattle.jute.specs.Laws.{IsBytes}
use Rattle.jute.specs.Format.{judged_at}
use Rattle.jute.specs.Reads.{IsFailureOf}
use Rattle.jute.specs.Stream.{Unread, Place, Items, place_at, no_items, items_in}
use Rattle.jute.proofs.Public.{items_whole, items_refused, items_short, shorter_rest, refused_other}
use Rattle.snapshot_codec.specs.Parts.{Value, Count, Path, Close, Part, part_format, part_after, part_in, is_end}
use Rattle.snapshot_codec.specs.Reads.{ReadsPart}
use Rattle.snapshot_codec.specs.declared.part.ImagePart.{ImagePart}
use Rattle.snapshot_codec.specs.declared.part.PartPhase.{PartPhase}
use Rattle.quorum_packet.specs.declared.lending.Step.{Step}
use Rattle.quorum_packet.specs.declared.lending.Step.TheVariants as step
use Rattle.quorum_packet.specs.declared.item.Item.{Item}
use Rattle.quorum_packet.specs.declared.item.Item.TheVariants as item
use Rattle.quorum_packet.specs.declared.item.LentItem.{LentItem}
use Rattle.quorum_packet.specs.declared.item.LentItem.TheVariants as lent
use Rattle.quorum_packet.specs.Lending.{CanBeWrittenOwned}
use Rattle.quorum_packet.specs.declared.packet.QuorumPacket.{QuorumPacket}
use Rattle.quorum_packet.specs.declared.phase.Phase.{Phase}
use Rattle.quorum_packet.specs.declared.phase.Phase.TheVariants.{Packets, Image}
use Rattle.quorum_packet.specs.Held.{unread_of}
use Rattle.quorum_packet.specs.Items.{FoundValue, OfPacket, OfImage, phase_after_packet, found_format, phase_after, stream_of_leader, shown_in, shown_items, items_shown_at}
use Rattle.quorum_packet.specs.Packet.{packet_format}
use Rattle.quorum_packet.specs.Steps.{items_of_option, FindsItem, ReadsFront, FindsOne, FindsNone, IsStepResult, RefusesUnread}
use Rattle.quorum_packet.proofs.Looking.{drop_front_of}
use Rattle.quorum_packet.proofs.Streams.{found_sound, leader_streamed}

-- ---- at a place

module _ (dialect : Dialect) where
  packet_read : (old new : List ℕ) (p : QuorumPacket) → packet_format.read old ≡ Ok (p, new)
      → (found_format (Packets dialect)).read old ≡ Ok (OfPacket p, new)
  unfolding judged_at
  packet_read old new p read = rw read refl

  pub packet_fails : (old : List ℕ) (e : Fault) → packet_format.read old ≡ Err e
      → (found_format (Packets dialect)).read old ≡ Err e
  unfolding judged_at
  packet_fails old e read = rw read refl

  value_read : (phase : PartPhase) (old new : List ℕ) (v : Value) → (part_format dialect phase).read old ≡ Ok (v, new)
      → (found_format (Image dialect phase)).read old ≡ Ok (OfImage v, new)
  unfolding judged_at
  value_read phase old new v read = rw read refl

  pub value_fails : (phase : PartPhase) (old : List ℕ) (e : Fault) → (part_format dialect phase).read old ≡ Err e
      → (found_format (Image dialect phase)).read old ≡ Err e
  unfolding judged_at
  value_fails phase old e read = rw read refl

  pub packet_found : (phase next : Phase) (old new : List ℕ) (p : QuorumPacket) → phase ≡ Packets dialect
      → packet_format.read old ≡ Ok (p, new) → next ≡ phase_after_packet dialect p
      → FindsItem (Ok (Some (lent.Packet p))) phase next old new
  packet_found phase next old new p at read to =
      subst (λ (q : Phase). FindsItem (Ok (Some (lent.Packet p))) q next old new) (sym at)
      (OfPacket p, packet_read old new p read, to, refl)

  packet_refused_here : (old new : List ℕ) (e : ReadError) → IsFailureOf e (packet_format.read old) → new ≡ old
      → FindsItem (Err e) (Packets dialect) (Packets dialect) old new
  packet_refused_here old new errors.NoMemory h same = (tt, same, refl)
  packet_refused_here old new (errors.Fault e) h same = (packet_fails old e h, same, refl)

  pub packet_refused : (phase : Phase) (old new : List ℕ) (e : ReadError) → phase ≡ Packets dialect
      → IsFailureOf e (packet_format.read old) → new ≡ old → FindsItem (Err e) phase (Packets dialect) old new
  packet_refused phase old new e at h same =
      subst (λ (q : Phase). FindsItem (Err e) q (Packets dialect) old new) (sym at)
      (packet_refused_here old new e h same)

  value_found : (parts behind : PartPhase) (old new : List ℕ) (v : Value)
      → (part_format dialect parts).read old ≡ Ok (v, new)
      → behind ≡ part_after parts v → (last : Bool) → is_end v ≡ last
      → (found : Option LentItem) → shown_in (OfImage v) ≡ items_of_option found
      → FindsItem (Ok found) (Image dialect parts) (cond last (Packets dialect) (Image dialect behind)) old new
  value_found parts behind old new v read to last ends found same = (
    OfImage v,
    value_read parts old new v read,
    (λ i. cond (sym ends i) (Packets dialect) (Image dialect (to i))),
    same,
  )

not_shown : (v : Value) → part_in v ≡ None → (is_end v ≡ false) × (shown_in (OfImage v) ≡ [])
not_shown (Count n) e = (refl, refl)
not_shown (Path path) e = (refl, refl)
not_shown Close e = (refl, refl)
not_shown (Part part) e = absurd cc

is_shown : (v : Value) (part : ImagePart) → part_in v ≡ Some part → v ≡ Part part
is_shown (Part p) part e = let same : p ≡ part = cc in ap (λ x. Part x) same
is_shown (Count n) part e = absurd cc
is_shown (Path path) part e = absurd cc
is_shown Close part e = absurd cc

-- A value that only advances the image.
pub hidden_found : (dialect : Dialect) (phase : Phase) (parts behind : PartPhase) (old new : List ℕ)
    → phase ≡ Image dialect parts
    → ReadsPart dialect (Ok None) parts behind old new → FindsItem (Ok None) phase (Image dialect behind) old new
hidden_found dialect phase parts behind old new at r =
    let n = not_shown r.0 r.3 in
    subst (λ (p : Phase). FindsItem (Ok None) p (Image dialect behind) old new) (sym at)
    (value_found dialect parts behind old new r.0 r.1 r.2 false n.0 None n.1)

-- A part.
pub part_found : (dialect : Dialect) (phase : Phase) (parts behind : PartPhase) (old new : List ℕ) (part : ImagePart)
    (last : Bool)
    → phase ≡ Image dialect parts → ReadsPart dialect (Ok (Some part)) parts behind old new → is_end (Part part) ≡ last
    → FindsItem (Ok (Some (lent.Part part))) phase (cond last (Packets dialect) (Image dialect behind)) old new
part_found dialect phase parts behind old new part last at r ends =
    let v = is_shown r.0 part r.3 in
    subst (λ (p : Phase). FindsItem (Ok (Some (lent.Part part))) p (cond last (Packets dialect) (Image dialect behind))
    old new) (sym at)
    (value_found dialect parts behind old new r.0 r.1 r.2 last (ap is_end v ∙ ends) (Some (lent.Part part))
    (ap (λ x. shown_in (OfImage x)) v))

pub part_refused : (dialect : Dialect) (phase : Phase) (parts behind : PartPhase) (old new : List ℕ) (e : ReadError)
    → phase ≡ Image dialect parts
    → ReadsPart dialect (Err e) parts behind old new → FindsItem (Err e) phase (Image dialect behind) old new
part_refused dialect phase parts behind old new errors.NoMemory at r = (tt, r.1, ap (λ p. Image dialect p) r.2 ∙ sym at)
part_refused dialect phase parts behind old new (errors.Fault e) at r = (
  subst (λ (p : Phase). (found_format p).read old ≡ Err e) (sym at) (value_fails dialect parts old e r.0),
  r.1,
  ap (λ p. Image dialect p) r.2 ∙ sym at,
)

-- ---- at the front

pub front_less : (phase next : Phase) (bytes rest : List ℕ) (found : Option LentItem)
    → FindsItem (Ok found) phase next bytes rest → length rest ≤ length bytes
front_less phase next bytes rest found f =
    omega (arith, shorter_rest stream_of_leader leader_streamed phase bytes rest f.0 f.1)

pub front_found : (phase next : Phase) (bytes rest : List ℕ) (found : Option LentItem) → IsBytes bytes
    → FindsItem (Ok found) phase next bytes rest → ReadsFront (Ok (found, length bytes - length rest)) phase next bytes
front_found phase next bytes rest found fits f =
    let t = (found_sound phase).lawful.takes bytes f.0 rest fits f.1 in (
      f.0,
      f.1 ∙ ap (λ (b : List ℕ). Ok (f.0, b)) (sym (drop_front_of bytes t.text rest t.parts)),
      omega arith,
      f.2,
      f.3,
    )

-- A packet that was read can be written.
writable_in : (phase : Phase) (p : QuorumPacket) → (found_format phase).Writable (OfPacket p) → packet_format.Writable p
writable_in (Packets dialect) p w = w
writable_in (Image dialect phase) p w = absurd w

is_packet : (v : FoundValue) (p : QuorumPacket) → shown_in v ≡ item.Packet p ∷ [] → v ≡ OfPacket p
is_packet (OfPacket q) p e = let same : q ≡ p = cc in ap (λ x. OfPacket x) same
is_packet (OfImage (Part part)) p e = absurd cc
is_packet (OfImage (Count n)) p e = absurd cc
is_packet (OfImage (Path path)) p e = absurd cc
is_packet (OfImage Close) p e = absurd cc

pub found_writable : (phase next : Phase) (bytes rest : List ℕ) (found : Option LentItem) → IsBytes bytes
    → FindsItem (Ok found) phase next bytes rest → IfSome found CanBeWrittenOwned
found_writable phase next bytes rest None fits f = tt
found_writable phase next bytes rest (Some (lent.Part part)) fits f = tt
found_writable phase next bytes rest (Some (lent.Packet p)) fits f =
    let s = found_sound phase in
    let t = s.lawful.takes bytes f.0 rest fits f.1 in
    let w = s.writable f.0 (s.limited f.0 t.text t.spells) in
    writable_in phase p (subst (found_format phase).Writable (is_packet f.0 p f.3) w)

-- ---- a step of the feed

abbrev pub place_of : List ℕ → Phase → Option Fault → Place Phase
place_of waiting phase fault = record { phase = phase; unread = unread_of waiting fault }

no_fault : (fault : Option Fault) → ((e : Fault) → fault ≡ Some e → ⊥) → fault ≡ None
no_fault None fine = refl
no_fault (Some e) fine = absurd (fine e refl)

module _ (waiting : List ℕ) (phase next : Phase) (fault : Option Fault) (old : Place Phase)
    (is : place_of waiting phase fault ≡ old) (fine : (e : Fault) → fault ≡ Some e → ⊥) where
  ready : old ≡ place_at phase waiting
  ready = sym is ∙ ap (place_of waiting phase) (no_fault fault fine)

  -- There was no fault.
  pub is_fine : is_err old.unread ≡ false
  is_fine = ap (λ (p : Place Phase). is_err p.unread) ready

  pub found_goes : (rest : List ℕ) (used : ℕ) (found : Option LentItem)
      → ReadsFront (Ok (found, used)) phase next waiting
      → rest ≡ drop used waiting → FindsOne (items_of_option found) old (place_of rest next fault)
  found_goes rest used found r left =
      let new : place_of rest next fault ≡ place_at (phase_after phase r.0) (drop used waiting) =
      λ i. place_of (left i) (r.3 i) (no_fault fault fine i) in
      let whole : FindsOne (items_of_option found) (place_at phase waiting)
      (place_at (phase_after phase r.0) (drop used waiting)) =
      record {
        found = r.0;
        first = items_whole stream_of_leader leader_streamed phase waiting (drop used waiting) r.0 r.1;
        shows = r.4;
        less = shorter_rest stream_of_leader leader_streamed phase waiting (drop used waiting) r.0 r.1;
        before_it = refl;
        behind_it = refl;
      } in
      subst (λ (p : Place Phase). FindsOne (items_of_option found) p (place_of rest next fault)) (sym ready)
      (subst (FindsOne (items_of_option found) (place_at phase waiting)) (sym new) whole)

  pub front_refused : (e : Fault) → IsFailureOf (errors.Fault e) ((found_format phase).read waiting) × (next ≡ phase)
      → RefusesUnread e next (unread_of waiting fault)
  front_refused e r =
      subst (λ (u : Unread). RefusesUnread e next u) (ap (unread_of waiting) (sym (no_fault fault fine)))
      (subst (λ (p : Phase). (found_format p).read waiting ≡ Err e) (sym r.1) r.0)

-- Too few bytes wait for more.
pub short_stops : (phase : Phase) (u : Unread) → RefusesUnread Short phase u
    → FindsNone (Ok tt) (record { phase = phase; unread = u }) (record { phase = phase; unread = u })
short_stops phase (Ok bytes) h = (items_short stream_of_leader leader_streamed phase bytes h, h)
short_stops phase (Err e) h = absurd h

-- Any other refusal ends the stream.
pub refused_stops : (phase : Phase) (u : Unread) (e : Fault) → RefusesUnread e phase u → (e ≡ Short → ⊥)
    → FindsNone (Err e) (record { phase = phase; unread = u }) (record { phase = phase; unread = Err e })
refused_stops phase (Ok bytes) e h other = (
  items_refused stream_of_leader leader_streamed phase bytes e h
      ∙ ap (λ (u : Unread). no_items (record { phase = phase; unread = u })) (refused_other e bytes other),
  refl,
)
refused_stops phase (Err d) e h other = absurd h

abbrev pub step_of : Option LentItem → Result Step ReadError
step_of None = Ok step.Hidden
step_of (Some i) = Ok (step.Shown i)

pub step_found : (found : Option LentItem) (result : Result Step ReadError) (old new : Place Phase)
    → result ≡ step_of found → FindsOne (items_of_option found) old new → IsStepResult result old new
step_found None result old new is g = subst (λ (r : Result Step ReadError). IsStepResult r old new) (sym is) g
step_found (Some i) result old new is g = subst (λ (r : Result Step ReadError). IsStepResult r old new) (sym is) g

-- ---- the items

pub shown_next : (old new : Place Phase) (front : List Item) → FindsOne front old new
    → items_shown_at old ≡ record { found = front ++ (items_shown_at new).found; left = (items_shown_at new).left }
shown_next old new front g =
    ap (λ (i : Items Phase FoundValue). shown_items i) g.first
    ∙ ap (λ (f : List Item). record { found = f ++ (items_shown_at new).found; left = (items_shown_at new).left })
    g.shows

pub shown_nothing : (old new : Place Phase) → items_in stream_of_leader old ≡ no_items new
    → items_shown_at old ≡ no_items new
shown_nothing old new none = ap (λ (i : Items Phase FoundValue). shown_items i) none
