-- The turns of the loop over a client's frames.
use Rattle.std.proofs.Common.{◌≡◌, ℕ, ◌-◌, ◌<◌, ◌≤◌, Bool, true, false, not, List, [], ◌++◌, length, drop, Option, Some, None, Ok, Err, refl, sym, ap, ◌∙◌, arith}
use Rattle.std.specs.Prelude.{is_some}
use Rattle.std.specs.Option.{unwrap_or}
use Rattle.std.proofs.lemmas.List.{length-append, drop_at}
use mathlib.Core.Bool.{true≢false}
use Rattle.values.specs.declared.fault.Fault.{Fault}
use Rattle.values.specs.declared.fault.Fault.TheVariants.{Short}
use Rattle.jute.specs.Format.{judged_at}
use Rattle.jute.specs.Frame.{frame_at, frame_format}
use Rattle.jute.specs.Laws.{IsBytes}
use Rattle.jute.specs.Stream.{items_in, place_at, with_first, no_items, Items, Unread}
use Rattle.jute.proofs.Public.{items_whole, items_short, items_refused, shorter_rest, refused_other}
use Rattle.world.specs.World.{OpenConnection, World}
use Rattle.world.specs.Steps.{StepResult, prepend_outputs, no_output, and_then, fold_steps}
use Rattle.world.specs.Clients.{heard_connection, is_heard}
use Rattle.world.specs.Sending.{close_client}
use Rattle.client_service.specs.Serve.{serve_frame, serve_all, word_at, is_unheard, wait_if_heard, wait_at, tell_or_serve, take_client_bytes, frames_of_client, client_frame_limit}
use Rattle.world.specs.Clients.{rest_at, with_rest}
use Rattle.client_service.specs.Inner.{world_with_rest}
use Rattle.world.proofs.Steps.{behind_behind, passed_over, goes_on}
use Rattle.client_service.proofs.Streams.{client_frame_sound, frames_streamed}

-- ---- frames

pub shorter : (bytes rest f : List ℕ) → (frame_format client_frame_limit).read bytes ≡ Ok (f, rest)
    → length rest < length bytes
shorter bytes rest f e = shorter_rest frames_of_client frames_streamed tt bytes rest f e

behind_text : (bytes text rest : List ℕ) → bytes ≡ text ++ rest → drop (length bytes - length rest) bytes ≡ rest
behind_text bytes text rest e =
    let n : length (text ++ rest) - length rest ≡ length text = omega (arith, length-append text rest) in
    rw (e, n) (drop_at text rest (length text) refl)

pub frame_whole : (bytes rest f : List ℕ) → IsBytes bytes → (frame_format client_frame_limit).read bytes ≡ Ok (f, rest)
    → (items_in frames_of_client (place_at tt bytes) ≡ with_first f
    (items_in frames_of_client (place_at tt (drop (length bytes - length rest) bytes))))
    × (0 < length bytes - length rest)
    × (length bytes - length rest ≤ length bytes)
    × (length f ≤ client_frame_limit)
frame_whole bytes rest f fits e =
    let t = client_frame_sound.lawful.takes bytes f rest fits e in (
      items_whole frames_of_client frames_streamed tt bytes rest f e
          ∙ ap (λ (b : List ℕ). with_first f (items_in frames_of_client (place_at tt b)))
          (sym (behind_text bytes t.text rest t.parts)),
      omega (arith, shorter bytes rest f e),
      omega arith,
      t.spells.0,
    )

pub frame_short : (bytes : List ℕ) → (frame_format client_frame_limit).read bytes ≡ Err Short
    → items_in frames_of_client (place_at tt bytes) ≡ no_items (place_at tt bytes)
frame_short bytes e = items_short frames_of_client frames_streamed tt bytes e

-- Nothing is no frame.
pub nothing_found : items_in frames_of_client (place_at tt []) ≡ no_items (place_at tt [])
unfolding frame_at judged_at
nothing_found = frame_short [] refl

pub frame_refused : (bytes : List ℕ) (e : Fault) → (e ≡ Short → ⊥)
    → (frame_format client_frame_limit).read bytes ≡ Err e
    → items_in frames_of_client (place_at tt bytes) ≡ no_items (record { phase = tt; unread = Err e })
frame_refused bytes e other h = items_refused frames_of_client frames_streamed tt bytes e h
    ∙ ap (λ u. no_items (record { phase = tt; unread = u })) (refused_other e bytes other)

-- ---- turns

unheard_is : (n : ℕ) (w : World) → is_heard n w.clients ≡ false → is_unheard n w ≡ true
unheard_is n w e = ap not e

heard_is : (n : ℕ) (w : World) → is_heard n w.clients ≡ true → is_unheard n w ≡ false
heard_is n w e = ap not e

pub none_of : {A : Type 0} (o : Option A) → is_some o ≡ false → o ≡ None
none_of None e = refl
none_of (Some x) e = absurd (true≢false e)

-- The end of an event whose frames were served.
abbrev left_at : ℕ → Unread → StepResult World → StepResult World
left_at n left h = and_then h (wait_at n left)

module _ (serving : Bool) (n : ℕ) (w : World) (found : Items (Unit {0}) (List ℕ)) where
  pub served_first : (f : List ℕ) (others : Items (Unit {0}) (List ℕ)) → found ≡ with_first f others
      → is_heard n w.clients ≡ true
      → serve_all serving n w found ≡ prepend_outputs (serve_frame serving n w f).outputs
      (serve_all serving n (serve_frame serving n w f).after others)
  served_first f others is heard =
      ap (serve_all serving n w) is
      ∙ ap (left_at n others.left.unread)
      (goes_on (is_unheard n) (serve_frame serving n) w f others.found (heard_is n w heard))
      ∙ sym (behind_behind (serve_frame serving n w f).outputs
      (fold_steps (is_unheard n) (serve_frame serving n) (serve_frame serving n w f).after others.found).outputs
      (wait_at n others.left.unread
      (fold_steps (is_unheard n) (serve_frame serving n) (serve_frame serving n w f).after others.found).after))

  pub all_passed_over : is_heard n w.clients ≡ false → serve_all serving n w found ≡ no_output w
  all_passed_over unheard =
      ap (left_at n found.left.unread)
      (passed_over (is_unheard n) (serve_frame serving n) w found.found (unheard_is n w unheard))
      ∙ ap (λ (o : Option OpenConnection). wait_if_heard n w o found.left.unread)
      (none_of (heard_connection n w.clients) unheard)

  pub none_whole : (bytes : List ℕ) → found ≡ no_items (place_at tt bytes)
      → serve_all serving n w found ≡ no_output (world_with_rest n bytes w)
  none_whole bytes is = ap (serve_all serving n w) is ∙ by (heard_connection n w.clients)
    where
      by : (o : Option OpenConnection) → wait_if_heard n w o (Ok bytes) ≡ no_output
          (record w { clients = record w.clients { connections = with_rest w.clients.connections n o bytes } })
      by None = refl
      by (Some k) = refl

  pub bad_length : (e : Fault) → found ≡ no_items (record { phase = tt; unread = Err e })
      → is_heard n w.clients ≡ true → serve_all serving n w found ≡ close_client n w
  bad_length e is heard = ap (serve_all serving n w) is ∙ by (heard_connection n w.clients) heard
    where
      by : (o : Option OpenConnection) → is_some o ≡ true → wait_if_heard n w o (Err e) ≡ close_client n w
      by None h = absurd (true≢false (sym h))
      by (Some k) h = refl

-- ---- bytes

module _ (serving : Bool) (n : ℕ) (w : World) (o : Option OpenConnection) (bytes : List ℕ) where
  pub not_heard : rest_at o ≡ None → take_client_bytes serving n w o bytes ≡ no_output
      (record w { clients = record w.clients { connections = with_rest w.clients.connections n o [] } })
  not_heard e = by o e
    where
      by : (o : Option OpenConnection) → rest_at o ≡ None → take_client_bytes serving n w o bytes ≡ no_output
          (record w { clients = record w.clients { connections = with_rest w.clients.connections n o [] } })
      by None e = refl
      by (Some k) e = absurd (true≢false (ap is_some e))

  pub at_heard : (rest : List ℕ) → rest_at o ≡ Some rest
      → take_client_bytes serving n w o bytes ≡ tell_or_serve serving n
      (record w { clients = record w.clients { connections = with_rest w.clients.connections n o [] } })
      (rest ++ bytes) (word_at n w (rest ++ bytes))
  at_heard rest e = by o e
    where
      by : (o : Option OpenConnection) → rest_at o ≡ Some rest
          → take_client_bytes serving n w o bytes ≡ tell_or_serve serving n
          (record w { clients = record w.clients { connections = with_rest w.clients.connections n o [] } })
          (rest ++ bytes) (word_at n w (rest ++ bytes))
      by None e = absurd (true≢false (sym (ap is_some e)))
      by (Some k) e = ap (λ (x : Option (List ℕ)). tell_or_serve serving n
          (record w { clients = record w.clients { connections = with_rest w.clients.connections n (Some k) [] } })
          (unwrap_or x [] ++ bytes) (word_at n w (unwrap_or x [] ++ bytes))) e
