-- A value that was read in a phase, and its effect on a loading.
use Rattle.std.proofs.Common.{◌≡◌, ℕ, ◌<◌, true, false, List, length, Option, Some, None, Result, Ok, Err, refl, sym, ap, subst, ◌∙◌, inl, inr}
use Rattle.std.specs.Prelude.{ℤ}
use Rattle.settings.specs.declared.dialect.Dialect.{Dialect}
use Rattle.values.specs.declared.fault.Fault.{Fault}
use Rattle.values.specs.declared.fault.ReadError.{ReadError}
use Rattle.values.specs.declared.fault.ReadError.TheVariants as errors
use Rattle.jute.specs.Format.{◌>>=◌, judged_at}
use Rattle.jute.specs.Loading.{load_from, unless_last}
use Rattle.jute.specs.Reads.{IsFailureOf}
use Rattle.jute.specs.Stream.{IsStream}
use Rattle.jute.specs.declared.stat.StatPersisted.{StatPersisted}
use Rattle.jute.proofs.Public.{bind_ok, bind_err, ok_is, not_refused, shorter_rest, load_read, load_refused, sound_streamed}
use Rattle.data_tree.specs.State.{State}
use Rattle.snapshot_codec.specs.Image.{image_read_in}
use Rattle.snapshot_codec.specs.Made.{LoadedParts, Loading, no_parts_in, with_part, with_loaded, image_load}
use Rattle.snapshot_codec.specs.Parts.{Value, Count, Path, Close, Part, node_body, node_value, part_stream, part_format, part_after, part_in, is_end}
use Rattle.snapshot_codec.specs.Reads.{ReadsPart, TakesPart, LoadsNext}
use Rattle.snapshot_codec.specs.declared.part.ImagePart.{ImagePart}
use Rattle.snapshot_codec.specs.declared.part.PartPhase.{PartPhase}
use Rattle.snapshot_codec.specs.declared.part.PartPhase.TheVariants.{SessionCount, Body}
use Rattle.snapshot_codec.proofs.Formats.{parts_sound}

module _ (dialect : Dialect) where
  abbrev pub streamed : IsStream (part_stream dialect)
  streamed = sound_streamed (part_stream dialect) (parts_sound dialect)

  -- ---- one value

  pub shown_as : (at phase next : PartPhase) (v : Value) (old new : List ℕ) (shown : Option ImagePart) → phase ≡ at
      → (part_format dialect at).read old ≡ Ok (v, new) → next ≡ part_after at v → part_in v ≡ shown
      → ReadsPart dialect (Ok shown) phase next old new
  shown_as at phase next v old new shown is read to shows = (
    v,
    subst (λ (p : PartPhase). (part_format dialect p).read old ≡ Ok (v, new)) (sym is) read,
    to ∙ ap (λ (p : PartPhase). part_after p v) (sym is),
    shows,
  )

  -- Two reads that are refused for the same fault.
  pub fails_too : {A B : Type 0} (e : ReadError) (a : Result A Fault) (b : Result B Fault) → IsFailureOf e a
      → ((d : Fault) → a ≡ Err d → b ≡ Err d) → IsFailureOf e b
  fails_too errors.NoMemory a b h f = tt
  fails_too (errors.Fault d) a b h f = f d h

  -- A refused value leaves place and phase.
  pub refused_as : (at phase : PartPhase) (e : ReadError) (old new : List ℕ) → phase ≡ at
      → IsFailureOf e ((part_format dialect at).read old) × (new ≡ old) → ReadsPart dialect (Err e) phase at old new
  refused_as at phase e old new is h =
      (subst (λ (p : PartPhase). IsFailureOf e ((part_format dialect p).read old)) (sym is) h.0, h.1, sym is)

  pub body_read : (path : List ℕ) (b : Option (List ℕ) × (ℤ × StatPersisted)) (old new : List ℕ)
      → node_body.read old ≡ Ok (b, new) → (part_format dialect (Body path)).read old ≡ Ok (node_value path b, new)
  unfolding judged_at
  body_read path b old new h = rw h refl

  body_fails : (path : List ℕ) (old : List ℕ) (d : Fault) → node_body.read old ≡ Err d
      → (part_format dialect (Body path)).read old ≡ Err d
  unfolding judged_at
  body_fails path old d h = rw h refl

  pub body_refused : (path : List ℕ) (phase next : PartPhase) (e : ReadError) (old new : List ℕ) → phase ≡ Body path
      → IsFailureOf e (node_body.read old) × (new ≡ old) → next ≡ phase → ReadsPart dialect (Err e) phase next old new
  body_refused path phase next e old new is h same = (
    fails_too e (node_body.read old) ((part_format dialect phase).read old) h.0
        (λ d k. ap (λ (p : PartPhase). (part_format dialect p).read old) is ∙ body_fails path old d k),
    h.1,
    same,
  )

  -- ---- a loading

  part_is : (v : Value) (part : ImagePart) → part_in v ≡ Some part → v ≡ Part part
  part_is (Part p) part e = let same : p ≡ part = cc in ap (λ x. Part x) same
  part_is (Count n) part e = absurd cc
  part_is (Path path) part e = absurd cc
  part_is Close part e = absurd cc

  module _ (phase next : PartPhase) (made : LoadedParts) (old new : List ℕ) where
    pub less : (shown : Option ImagePart) → ReadsPart dialect (Ok shown) phase next old new → length new < length old
    less shown r = shorter_rest (part_stream dialect) streamed phase old new r.0 r.1

    abbrev left : LoadedParts → Result (LoadedParts × List ℕ) Fault
    left after = load_from (image_load dialect) next after new

    hidden_by : (v : Value) → (part_format dialect phase).read old ≡ Ok (v, new) → part_in v ≡ None
        → load_from (image_load dialect) phase made old ≡ load_from (image_load dialect) (part_after phase v) made new
    hidden_by (Count n) read shows = load_read (image_load dialect) streamed phase made old new (Count n) read
    hidden_by (Path path) read shows = load_read (image_load dialect) streamed phase made old new (Path path) read
    hidden_by Close read shows = load_read (image_load dialect) streamed phase made old new Close read
    hidden_by (Part part) read shows = absurd cc

    -- A value that isn't a part.
    pub hidden : ReadsPart dialect (Ok None) phase next old new
        → load_from (image_load dialect) phase made old ≡ left made
    hidden r = hidden_by r.0 r.1 r.3 ∙ ap (λ (p : PartPhase). load_from (image_load dialect) p made new) (sym r.2)

    -- A part.
    taken : (part : ImagePart) → ReadsPart dialect (Ok (Some part)) phase next old new
        → load_from (image_load dialect) phase made old
        ≡ (with_part made part >>= λ after. unless_last (is_end (Part part)) after new (left after))
    taken part r =
        load_read (image_load dialect) streamed phase made old new (Part part)
        (r.1 ∙ ap (λ (x : Value). Ok (x, new)) (part_is r.0 part r.3))
        ∙ ap (λ (p : PartPhase). with_part made part >>= λ after.
        unless_last (is_end (Part part)) after new (load_from (image_load dialect) p after new))
        (sym (r.2 ∙ ap (part_after phase) (part_is r.0 part r.3)))

    shown : (part : ImagePart) (after : Loading) → ReadsPart dialect (Ok (Some part)) phase next old new
        → (with_part made part
        >>= λ m. (let q : Result Loading Fault = Ok (record { made = m; ended = is_end (Part part) }) in q)) ≡ Ok after
        → load_from (image_load dialect) phase made old ≡ unless_last after.ended after.made new (left after.made)
    shown part after r took =
        let m = bind_ok (with_part made part)
        (λ m. (let q : Result Loading Fault = Ok (record { made = m; ended = is_end (Part part) }) in q)) after took in
        let same = ok_is (record { made = m.0; ended = is_end (Part part) }) after m.2 in
        taken part r ∙ ap (λ (q : Result LoadedParts Fault). q >>= λ s. unless_last (is_end (Part part)) s new (left s))
        m.1
        ∙ ap (λ (l : Loading). unless_last l.ended l.made new (left l.made)) same

    part_refused : (part : ImagePart) (e : Fault) → ReadsPart dialect (Ok (Some part)) phase next old new
        → (with_part made part
        >>= λ m. (let q : Result Loading Fault = Ok (record { made = m; ended = is_end (Part part) }) in q)) ≡ Err e
        → load_from (image_load dialect) phase made old ≡ Err e
    part_refused part e r refuses =
        taken part r
        ∙ elim (bind_err (with_part made part)
        (λ m. (let q : Result Loading Fault = Ok (record { made = m; ended = is_end (Part part) }) in q)) e refuses) [
          | inl first ↦ ap (λ (q : Result LoadedParts Fault). q >>= λ s. unless_last (is_end (Part part)) s new
              (left s))
              first
          | inr never ↦ absurd (not_refused (record { made = never.0; ended = is_end (Part part) }) e never.2)
        ]

    -- All effects of a part.
    pub loads_part : (q : Result (Unit {0}) ReadError) (part : ImagePart) (before after : Loading)
        → ReadsPart dialect (Ok (Some part)) phase next old new → TakesPart q part before after → before.made ≡ made
        → LoadsNext dialect q phase made old next after new
    loads_part (Ok u) part before after r l is = (
      shown part after r
          (ap (λ m. with_part m part >>= λ m.
          (let q : Result Loading Fault = Ok (record { made = m; ended = is_end (Part part) }) in q)) (sym is) ∙ l),
      less (Some part) r,
    )
    loads_part (Err e) part before after r l is =
        fails_too e (with_loaded before part) (load_from (image_load dialect) phase made old) l.0
        (λ d k. part_refused part d r
        (ap (λ m. with_part m part >>= λ m.
        (let q : Result Loading Fault = Ok (record { made = m; ended = is_end (Part part) }) in q)) (sym is) ∙ k))

  pub value_refused : (phase next : PartPhase) (made : LoadedParts) (old new : List ℕ) (e : ReadError) (after : Loading)
      → ReadsPart dialect (Err e) phase next old new → LoadsNext dialect (Err e) phase made old next after new
  value_refused phase next made old new e after r =
      fails_too e ((part_format dialect phase).read old) (load_from (image_load dialect) phase made old) r.0
      (λ d k. load_refused (image_load dialect) streamed phase made old d k)

  -- ---- a whole image

  -- Loading the rest gives the same result, or everything was loaded.
  abbrev pub LoadsOn : Loading → PartPhase → List ℕ → List ℕ → Type 0
  LoadsOn loading phase ahead bytes =
      unless_last loading.ended loading.made ahead (load_from (image_load dialect) phase loading.made ahead)
      ≡ load_from (image_load dialect) SessionCount (no_parts_in dialect) bytes

  module _ (loading : Loading) (phase : PartPhase) (ahead bytes : List ℕ)
      (on : LoadsOn loading phase ahead bytes) where
    pub ended_is_read : loading.ended ≡ true → image_read_in dialect bytes ≡ Ok (loading.made.state, ahead)
    unfolding image_read_in
    ended_is_read ended =
        ap (λ (q : Result (LoadedParts × List ℕ) Fault). q
        >>= λ x. (let r : Result (State × List ℕ) Fault = Ok (x.0.state, x.1) in r))
        (sym on ∙ ap (λ b. unless_last b loading.made ahead (load_from (image_load dialect) phase loading.made ahead))
        ended)

    going : loading.ended ≡ false → load_from (image_load dialect) SessionCount (no_parts_in dialect) bytes
        ≡ load_from (image_load dialect) phase loading.made ahead
    going more = sym on ∙ ap
        (λ b. unless_last b loading.made ahead (load_from (image_load dialect) phase loading.made ahead)) more

    pub failed_is_read : loading.ended ≡ false → (e : ReadError)
        → IsFailureOf e (load_from (image_load dialect) phase loading.made ahead)
        → IsFailureOf e (image_read_in dialect bytes)
    unfolding image_read_in
    failed_is_read more e h =
        fails_too e (load_from (image_load dialect) phase loading.made ahead) (image_read_in dialect bytes) h
        (λ d k. ap (λ (q : Result (LoadedParts × List ℕ) Fault). q >>= λ x.
        (let r : Result (State × List ℕ) Fault = Ok (x.0.state, x.1) in r))
        (going more ∙ k))

    pub loads_on : loading.ended ≡ false → (next : PartPhase) (after : Loading) (new : List ℕ) (u : Unit {0})
        → LoadsNext dialect (Ok u) phase loading.made ahead next after new → LoadsOn after next new bytes
    loads_on more next after new u h = sym h.0 ∙ sym (going more)
