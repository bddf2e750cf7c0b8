-- If no frame is whole, the first one is longer than what waits.
use Rattle.std.proofs.Common.{◌≡◌, ℕ, zero, suc, ◌+◌, ◌-◌, ◌*◌, ◌^◌, ◌<◌, ◌≤◌, ◌&&◌, true, false, List, length, take, drop, get_or, Result, Ok, Err, ap, sym, ◌∙◌, refl, arith, leb, ltb, inl, inr}
use Rattle.std.specs.Prelude.{ℤ, pos, negsuc, if◌then◌else◌}
use Rattle.std.specs.Int.{w32, from_be_bytes, cast_signed, cast_unsigned}
use Rattle.std.proofs.lemmas.Bool.{le-ltb, lt-ltb}
use Rattle.std.proofs.lemmas.Int.{of_z-to_z}
use Rattle.std.proofs.lemmas.List.{get_or-take, length-drop}
use Rattle.values.specs.declared.fault.Fault.{Fault}
use Rattle.values.specs.declared.fault.Fault.TheVariants.{Short, BadLength}
use Rattle.settings.specs.declared.dialect.Dialect.{Dialect}
use Rattle.jute.specs.Format.{int}
use Rattle.jute.specs.Frame.{frame_format, frame_length}
use Rattle.jute.specs.Laws.{IsBytes, IsSound}
use Rattle.jute.specs.Pieces.{LeavesFewer}
use Rattle.jute.specs.Stream.{Unread, unread_after_fault, items_within, items_after_read, place_after_fault}
use Rattle.jute.proofs.Public.{frame_sound, int_sound, guard_ok}
use Rattle.client_service.specs.Serve.{frames_of_client, client_frame_limit}
use Rattle.connection_loop.specs.Frames.{bytes_read, whole_frames_length, goes_with, going_after, frames_going}
use Rattle.connection_loop.specs.declared.kind.FrameKind.{FrameKind}
use Rattle.connection_loop.specs.declared.kind.Gate.{Gate}
use Rattle.connection_loop.specs.declared.kind.Gate.TheVariants.{Open}
use Rattle.connection_loop.specs.declared.kind.FrameKind.TheVariants.{Light, Forwarded, Local, Heavy}
use Rattle.connection_loop.specs.Kinds.{kind_of_frame}
use Rattle.connection_loop.specs.Incoming.{first_frame_length, may_begin}
use Rattle.connection_loop.proofs.Fronts.{left_of, going_read, going_first}

sound : IsSound (frame_format client_frame_limit)
sound = frame_sound client_frame_limit (omega arith)

-- ---- what is left after some frames

-- At most this many bytes are left.
abbrev IsWithin : Unread → ℕ → Type 0
IsWithin (Ok rest) n = length rest ≤ n
IsWithin (Err e) n = Unit {0}

fault_within : (e : Fault) (bytes : List ℕ) → IsWithin (unread_after_fault e bytes) (length bytes)
fault_within Short bytes = omega arith
fault_within e bytes = tt

within_more : (u : Unread) (m n : ℕ) → m ≤ n → IsWithin u m → IsWithin u n
within_more (Ok rest) m n le h = omega (arith, le, h)
within_more (Err e) m n le h = tt

-- What is left after what was read, and then this many frames.
abbrev left_after : ℕ → List ℕ → Result (List ℕ × List ℕ) Fault → Unread
left_after n bytes r =
    (items_after_read r (λ v. items_within frames_of_client n tt)
    (place_after_fault tt bytes)).left.unread

after_within : (n : ℕ) (bytes : List ℕ) (r : Result (List ℕ × List ℕ) Fault) → LeavesFewer r (length bytes)
    → ((rest : List ℕ) → IsWithin (left_of n rest) (length rest)) → IsWithin (left_after n bytes r) (length bytes)
after_within n bytes (Ok x) fewer others =
    within_more (left_of n x.1) (length x.1) (length bytes) (omega (arith, fewer)) (others x.1)
after_within n bytes (Err e) fewer others = fault_within e bytes

left_within : (n : ℕ) (bytes : List ℕ) → IsWithin (left_of n bytes) (length bytes)
unfolding items_within
left_within zero bytes = omega arith
left_within (suc n) bytes =
    after_within n bytes ((frame_format client_frame_limit).read bytes) (sound.some.eats bytes) (left_within n)

-- ---- no frame is whole

some_read : (u : Unread) (bytes : List ℕ) (n : ℕ) → IsWithin u n → n < length bytes → bytes_read bytes u ≡ 0 → ⊥
some_read (Ok rest) bytes n within less none = omega (arith, within, less, none)
some_read (Err e) bytes n within less none = omega (arith, less, none)

fault_short : (e : Fault) (bytes : List ℕ) → 0 < length bytes → bytes_read bytes (unread_after_fault e bytes) ≡ 0
    → e ≡ Short
fault_short Short bytes some none = refl
fault_short e bytes some none = absurd (omega (arith, some, none))

none_after : (n : ℕ) (bytes : List ℕ) (r : Result (List ℕ × List ℕ) Fault) → LeavesFewer r (length bytes)
    → 0 < length bytes → bytes_read bytes (left_after n bytes r) ≡ 0 → r ≡ Err Short
none_after n bytes (Ok x) fewer some none =
    absurd (some_read (left_of n x.1) bytes (length x.1) (left_within n x.1) fewer none)
none_after n bytes (Err e) fewer some none = ap Err (fault_short e bytes some none)

none_whole : (n : ℕ) (bytes : List ℕ) → 0 < length bytes → whole_frames_length (suc n) bytes ≡ 0
    → (frame_format client_frame_limit).read bytes ≡ Err Short
unfolding items_within
none_whole n bytes some none =
    none_after n bytes ((frame_format client_frame_limit).read bytes) (sound.some.eats bytes) some none

-- ---- the length of a frame

not_short : (z : ℤ) → frame_length client_frame_limit z ≡ Err Short → ⊥
not_short (pos n) e = elim (leb n client_frame_limit) as (λ b. (if b then Ok n else Err BadLength) ≡ Err Short → ⊥) [
  | true ↦ λ h. cc
  | false ↦ λ h. cc
] e
not_short (negsuc n) e = cc

is_length : (z : ℤ) (k : ℕ) → frame_length client_frame_limit z ≡ Ok k → cast_unsigned w32 z ≡ k
is_length (pos n) k e = elim (leb n client_frame_limit) as (λ b. (if b then Ok n else Err BadLength) ≡ Ok k → n ≡ k) [
  | true ↦ λ h. cc
  | false ↦ λ h. absurd cc
] e
is_length (negsuc n) k e = absurd cc

-- The number in the first four bytes.
abbrev first_number : List ℕ → ℕ
first_number bytes =
    get_or bytes 0 0 * 256 ^ 3
    + (get_or bytes 1 0 * 256 ^ 2 + (get_or bytes 2 0 * 256 ^ 1 + (get_or bytes 3 0 * 256 ^ 0 + 0)))

first_length : (bytes : List ℕ) → 4 ≤ length bytes → first_frame_length bytes ≡ first_number bytes + 4
first_length bytes long =
    let number : from_be_bytes w32 (take 4 bytes) ≡ first_number bytes =
    omega (
      arith,
      get_or-take 4 bytes 0 0 (omega arith),
      get_or-take 4 bytes 1 0 (omega arith),
      get_or-take 4 bytes 2 0 (omega arith),
      get_or-take 4 bytes 3 0 (omega arith),
    ) in
    ap (λ b. if b then 0 else from_be_bytes w32 (take 4 bytes) + 4) (le-ltb (length bytes) 4 long)
    ∙ ap (λ n. n + 4) number

-- An int at the front is that number.
read_number : (bytes rest : List ℕ) (z : ℤ) (n : ℕ) → IsBytes bytes → int.read bytes ≡ Ok (z, rest)
    → cast_unsigned w32 z ≡ n → (first_number bytes ≡ n) × (length rest ≡ length bytes - 4)
read_number bytes rest z n fits read is =
    let g = guard_ok (ltb (length bytes) 4) Short (cast_signed w32 (first_number bytes), drop 4 bytes) (z, rest) read in
    let small : first_number bytes < 2 ^ 32 = omega (arith, fits 0, fits 1, fits 2, fits 3) in (
      sym (of_z-to_z w32 (first_number bytes) small) ∙ ap (λ (p : ℤ × List ℕ). cast_unsigned w32 p.0) g.1 ∙ is,
      ap (λ (p : ℤ × List ℕ). length p.1) (sym g.1) ∙ length-drop 4 bytes,
    )

short_is_longer : (bytes : List ℕ) → IsBytes bytes → 4 ≤ length bytes
    → (frame_format client_frame_limit).read bytes ≡ Err Short → length bytes < first_frame_length bytes
short_is_longer bytes fits long short = elim (sound.named.names bytes Short fits short) [
  | inl (inl s) ↦ absurd (omega (arith, s.1))
  | inl (inr s) ↦ absurd (not_short s.0 s.5)
  | inr s ↦
      let front = s.1 in
      let prefix = front.4 in
      let read = ap int.read front.3 ∙ int_sound.lawful.again prefix.0 front.1 front.2 prefix.2 in
      let number = read_number bytes front.2 prefix.0 front.0 fits read (is_length prefix.0 front.0 prefix.1) in
      omega (arith, first_length bytes long, number.0, number.1, front.5)
]

-- ---- no frame goes, though all before are answered

pub goes_open : (kind : FrameKind) → goes_with kind Open ≡ true
goes_open Light = refl
goes_open Forwarded = refl
goes_open Local = refl
goes_open Heavy = refl

some_go : (kind : FrameKind) (others : ℕ) → going_after kind Open others ≡ 0 → ⊥
some_go Light others none = absurd (omega (arith, none))
some_go Forwarded others none = absurd (omega (arith, none))
some_go Local others none = absurd (omega (arith, none))
some_go Heavy others none = absurd (omega (arith, none))

not_whole : (m : ℕ) (bytes : List ℕ) → (m ≡ 0 → ⊥) → 0 < length bytes → whole_frames_length m bytes ≡ 0
    → (frame_format client_frame_limit).read bytes ≡ Err Short
not_whole zero bytes more some none = absurd (more refl)
not_whole (suc n) bytes more some none = none_whole n bytes some none

going_short_after : (dialect : Dialect) (n : ℕ) (bytes : List ℕ) (r : Result (List ℕ × List ℕ) Fault)
    → (frame_format client_frame_limit).read bytes ≡ r → 0 < length bytes
    → whole_frames_length (going_read dialect n Open bytes r) bytes ≡ 0
    → (frame_format client_frame_limit).read bytes ≡ Err Short
going_short_after dialect n bytes (Ok x) is some none =
    not_whole (going_read dialect n Open bytes (Ok x)) bytes (some_go (kind_of_frame dialect x.0) _) some none
going_short_after dialect n bytes (Err Short) is some none = is
going_short_after dialect n bytes (Err e) is some none = not_whole 1 bytes (λ h. absurd (omega (arith, h))) some none

none_goes : (dialect : Dialect) (n : ℕ) (bytes : List ℕ) → 0 < length bytes
    → whole_frames_length (frames_going dialect (suc n) Open bytes) bytes ≡ 0
    → (frame_format client_frame_limit).read bytes ≡ Err Short
none_goes dialect n bytes some none =
    going_short_after dialect n bytes _ refl some
    (ap (λ m. whole_frames_length m bytes) (sym (going_first dialect n Open bytes)) ∙ none)

pub first_is_longer : (dialect : Dialect) (most : ℕ) (gate : Gate) (bytes : List ℕ) → IsBytes bytes
    → 4 ≤ length bytes → 0 < most → gate ≡ Open → whole_frames_length (frames_going dialect most gate bytes) bytes ≡ 0
    → length bytes < first_frame_length bytes
first_is_longer dialect zero gate bytes fits long some all none = absurd (omega (arith, some))
first_is_longer dialect (suc n) gate bytes fits long some all none =
    short_is_longer bytes fits long
    (none_goes dialect n bytes (omega (arith, long))
    (ap (λ b. whole_frames_length (frames_going dialect (suc n) b bytes) bytes) (sym all) ∙ none))

pub may_begin_open : (dialect : Dialect) (most : ℕ) (gate : Gate) (bytes : List ℕ) → 0 < most → gate ≡ Open
    → may_begin dialect most gate bytes ≡ true
may_begin_open dialect most gate bytes some all =
    ap (λ b. b && goes_with (kind_of_frame dialect (drop 4 bytes)) gate) (lt-ltb 0 most some)
    ∙ ap (goes_with (kind_of_frame dialect (drop 4 bytes))) all ∙ goes_open (kind_of_frame dialect (drop 4 bytes))
