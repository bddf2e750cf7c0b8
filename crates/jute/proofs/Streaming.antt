-- The values of a stream, however it is cut.
use Rattle.std.proofs.Common.{◌≡◌, ℕ, zero, suc, ◌<◌, List, ◌++◌, length, Result, Ok, Err, refl, ap, subst, ◌∙◌, arith, ◌⊎◌, inl, inr}
use Rattle.values.specs.declared.fault.Fault.{Fault}
use Rattle.values.specs.declared.fault.Fault.TheVariants.{Short}
use Rattle.jute.specs.Format.{Format}
use Rattle.jute.specs.Pieces.{IsStable, LeavesFewer}
use Rattle.jute.specs.Stream.{PhasedStream, Unread, Place, place_at, Items, with_more_bytes, no_items, with_first, joined_items, unread_after_fault, place_after_fault, items_after_read, items_within, items_in, stream_of, IsStreamable, IsStream, ComesInPieces}

eats_in : {A : Type 0} (f : Format A) (bytes : List ℕ) → IsStreamable f
    → LeavesFewer (f.read bytes) (length bytes)
eats_in f bytes s = s.some.eats bytes

go_same : {S A : Type 0} (r : Result (A × List ℕ) Fault) (n : ℕ) (g h : A → List ℕ → Items S A) (stop : Fault → Place S)
    → LeavesFewer r n → ((v : A) (b : List ℕ) → length b < n → g v b ≡ h v b)
    → items_after_read r g stop ≡ items_after_read r h stop
go_same (Ok x) n g h stop e same = ap (with_first x.0) (same x.0 x.1 e)
go_same (Err d) n g h stop e same = refl

module _ {S A : Type 0} (stream : PhasedStream S A) (s : IsStream stream) where
  enough : (n m : ℕ) (phase : S) (bytes : List ℕ) → length bytes < n → length bytes < m
      → items_within stream n phase bytes ≡ items_within stream m phase bytes
  unfolding items_within
  enough zero m phase bytes ln lm = absurd (omega (arith, ln))
  enough (suc n) zero phase bytes ln lm = absurd (omega (arith, lm))
  enough (suc n) (suc m) phase bytes ln lm =
      go_same ((stream.format phase).read bytes) (length bytes) (λ v. items_within stream n (stream.after phase v))
      (λ v. items_within stream m (stream.after phase v)) (place_after_fault phase bytes)
      (eats_in (stream.format phase) bytes (s.streamed phase))
      (λ v b lt. enough n m (stream.after phase v) b (omega (arith, lt, ln)) (omega (arith, lt, lm)))

  -- The values after one.
  abbrev behind : S → A → List ℕ → Items S A
  behind phase v rest = items_in stream (place_at (stream.after phase v) rest)

  -- One step, without the bound.
  pub unrolled : (phase : S) (bytes : List ℕ)
      → items_in stream (place_at phase bytes) ≡ items_after_read ((stream.format phase).read bytes) (behind phase)
      (place_after_fault phase bytes)
  unfolding items_within
  unrolled phase bytes =
      go_same ((stream.format phase).read bytes) (length bytes)
      (λ v. items_within stream (length bytes) (stream.after phase v)) (behind phase)
      (place_after_fault phase bytes)
      (eats_in (stream.format phase) bytes (s.streamed phase))
      (λ v b lt. enough (length bytes) (suc (length b)) (stream.after phase v) b lt (omega arith))

  pub items_whole : (phase : S) (bytes rest : List ℕ) (v : A) → (stream.format phase).read bytes ≡ Ok (v, rest)
      → items_in stream (place_at phase bytes) ≡ with_first v (items_in stream (place_at (stream.after phase v) rest))
  items_whole phase bytes rest v h =
      unrolled phase bytes ∙ ap (λ r. items_after_read r (behind phase)
      (place_after_fault phase bytes)) h

  pub items_refused : (phase : S) (bytes : List ℕ) (e : Fault) → (stream.format phase).read bytes ≡ Err e
      → items_in stream (place_at phase bytes) ≡ no_items (place_after_fault phase bytes e)
  items_refused phase bytes e h =
      unrolled phase bytes ∙ ap (λ r. items_after_read r (behind phase)
      (place_after_fault phase bytes)) h

  pub items_short : (phase : S) (bytes : List ℕ) → (stream.format phase).read bytes ≡ Err Short
      → items_in stream (place_at phase bytes) ≡ no_items (place_at phase bytes)
  items_short phase bytes h = items_refused phase bytes Short h

  pub shorter_rest : (phase : S) (bytes rest : List ℕ) (v : A) → (stream.format phase).read bytes ≡ Ok (v, rest)
      → length rest < length bytes
  shorter_rest phase bytes rest v h = subst (λ (r : Result (A × List ℕ) Fault). LeavesFewer r (length bytes)) h
      (eats_in (stream.format phase) bytes (s.streamed phase))

  -- The law at a phase and bytes.
  abbrev Pieces : S → List ℕ → List ℕ → Type 0
  Pieces phase bytes more =
      items_in stream (place_at phase (bytes ++ more)) ≡ joined_items (items_in stream (place_at phase bytes))
      (items_in stream (with_more_bytes (items_in stream (place_at phase bytes)).left more))

  -- This reading is the one that is used.
  abbrev IsReadBy : S → Format A → Type 0
  IsReadBy phase f = (bytes : List ℕ)
      → items_in stream (place_at phase bytes) ≡ items_after_read (f.read bytes) (behind phase)
      (place_after_fault phase bytes)

  -- No value is complete at the end of the first piece.
  ended : (phase : S) (e : Fault) (bytes more : List ℕ) (after : Result (A × List ℕ) Fault)
      → (e ≡ Short) ⊎ (after ≡ Err e)
      → items_in stream (place_at phase (bytes ++ more)) ≡ items_after_read after (behind phase)
      (λ d. record { phase = phase; unread = unread_after_fault d (bytes ++ more) })
      → items_in stream (place_at phase (bytes ++ more)) ≡ joined_items
      (no_items (record { phase = phase; unread = unread_after_fault e bytes }))
      (items_in stream (with_more_bytes (record { phase = phase; unread = unread_after_fault e bytes }) more))
  ended phase Short bytes more after h whole = refl
  ended phase e bytes more after (inl same) whole = absurd cc
  ended phase e bytes more after (inr other) whole = whole ∙ rw other refl

  step : (phase : S) (r after : Result (A × List ℕ) Fault) (bytes more : List ℕ) → IsStable r more after
      → LeavesFewer r (length bytes)
      → items_in stream (place_at phase (bytes ++ more)) ≡ items_after_read after (behind phase)
      (λ d. record { phase = phase; unread = unread_after_fault d (bytes ++ more) })
      → ((p : S) (b : List ℕ) → length b < length bytes → Pieces p b more)
      → items_in stream (place_at phase (bytes ++ more)) ≡ joined_items
      (items_after_read r (behind phase) (λ d. record { phase = phase; unread = unread_after_fault d bytes }))
      (items_in stream (with_more_bytes
      (items_after_read r (behind phase) (λ d. record { phase = phase; unread = unread_after_fault d bytes })).left
      more))
  step phase (Ok x) after bytes more h e whole others =
      whole ∙ rw h (ap (with_first x.0) (others (stream.after phase x.0) x.1 e))
  step phase (Err e) after bytes more h _ whole others = ended phase e bytes more after h whole

  in_pieces_by : (f : Format A) (phase : S) (bytes more : List ℕ) → IsStreamable f → IsReadBy phase f
      → ((p : S) (b : List ℕ) → length b < length bytes → Pieces p b more) → Pieces phase bytes more
  in_pieces_by f phase bytes more t is others =
      rw (is bytes) (step phase (f.read bytes) (f.read (bytes ++ more)) bytes more (t.pieced.stands bytes more)
      (t.some.eats bytes) (is (bytes ++ more)) others)

  in_pieces : (n : ℕ) (phase : S) (bytes more : List ℕ) → length bytes < n → Pieces phase bytes more
  in_pieces zero phase bytes more lt = absurd (omega (arith, lt))
  in_pieces (suc n) phase bytes more lt =
      in_pieces_by (stream.format phase) phase bytes more (s.streamed phase) (unrolled phase)
      (λ p b shorter. in_pieces n p b more (omega (arith, shorter, lt)))

  comes_from : (phase : S) (u : Unread) (more : List ℕ)
      → items_in stream (with_more_bytes (record { phase = phase; unread = u }) more) ≡ joined_items
      (items_in stream (record { phase = phase; unread = u }))
      (items_in stream (with_more_bytes (items_in stream (record { phase = phase; unread = u })).left more))
  comes_from phase (Ok bytes) more = in_pieces (suc (length bytes)) phase bytes more (omega arith)
  comes_from phase (Err e) more = refl

  pub comes_in_pieces : ComesInPieces stream
  comes_in_pieces place more = comes_from place.phase place.unread more

pub refused_other : (e : Fault) (bytes : List ℕ) → (e ≡ Short → ⊥) → unread_after_fault e bytes ≡ Err e
refused_other Short bytes other = absurd (other refl)
refused_other e bytes other = refl

-- A stream of one format.
pub only_streamed : {A : Type 0} (f : Format A) → IsStreamable f → IsStream (stream_of f)
only_streamed f s = record { streamed = λ phase. s }
