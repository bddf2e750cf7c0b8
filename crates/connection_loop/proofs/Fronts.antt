-- The rest of a client's bytes after its first frames.
use Rattle.std.proofs.Common.{◌≡◌, ℕ, suc, ◌+◌, ◌-◌, ◌<◌, ◌≤◌, List, true, false, if◌then◌else◌, Result, Ok, Err, ap, sym, ◌∙◌, refl, length, arith}
use Rattle.values.specs.declared.fault.Fault.{Fault}
use Rattle.values.specs.declared.fault.Fault.TheVariants.{Short}
use Rattle.settings.specs.declared.dialect.Dialect.{Dialect}
use Rattle.jute.specs.Frame.{frame_format}
use Rattle.jute.specs.Stream.{Unread, items_within, items_after_read, place_after_fault}
use Rattle.jute.proofs.Public.{refused_other}
use Rattle.client_service.specs.Serve.{frames_of_client, client_frame_limit}
use Rattle.connection_loop.specs.Frames.{bytes_read, whole_frames_length, goes_with, goes_last, gate_after, ending_going, going_after, count_going, frames_going}
use Rattle.connection_loop.specs.declared.kind.FrameKind.{FrameKind}
use Rattle.connection_loop.specs.declared.kind.FrameKind.TheVariants.{Heavy}
use Rattle.connection_loop.specs.declared.kind.Gate.{Gate}
use Rattle.connection_loop.specs.Kinds.{kind_of_frame}

-- The rest after this many frames.
abbrev pub left_of : ℕ → List ℕ → Unread
left_of n bytes = (items_within frames_of_client n tt bytes).left.unread

pub left_none : (bytes : List ℕ) → left_of 0 bytes ≡ Ok bytes
unfolding items_within
left_none bytes = refl

left_whole : (n : ℕ) (bytes rest f : List ℕ) → (frame_format client_frame_limit).read bytes ≡ Ok (f, rest)
    → left_of (suc n) bytes ≡ left_of n rest
unfolding items_within
left_whole n bytes rest f e =
    ap (λ r. (items_after_read r (λ v. items_within frames_of_client n tt)
    (place_after_fault tt bytes)).left.unread) e

left_short : (n : ℕ) (bytes : List ℕ) → (frame_format client_frame_limit).read bytes ≡ Err Short
    → left_of (suc n) bytes ≡ Ok bytes
unfolding items_within
left_short n bytes e =
    ap (λ r. (items_after_read r (λ v. items_within frames_of_client n tt)
    (place_after_fault tt bytes)).left.unread) e

left_refused : (n : ℕ) (bytes : List ℕ) (e : Fault) → (e ≡ Short → ⊥)
    → (frame_format client_frame_limit).read bytes ≡ Err e → left_of (suc n) bytes ≡ Err e
unfolding items_within
left_refused n bytes e other h =
    ap (λ r. (items_after_read r (λ v. items_within frames_of_client n tt)
    (place_after_fault tt bytes)).left.unread) h
    ∙ refused_other e bytes other

one_more : (most k : ℕ) → k < most → most - k ≡ suc (most - (k + 1))
one_more most k h = omega arith

-- A whole frame moves the place on.
pub left_on : (most k : ℕ) (bytes rest f : List ℕ) → k < most
    → (frame_format client_frame_limit).read bytes ≡ Ok (f, rest)
    → left_of (most - (k + 1)) rest ≡ left_of (most - k) bytes
left_on most k bytes rest f h e =
    sym (ap (λ n. left_of n bytes) (one_more most k h) ∙ left_whole (most - (k + 1)) bytes rest f e)

-- Too few bytes stay.
pub left_waits : (most k : ℕ) (bytes : List ℕ) → k < most → (frame_format client_frame_limit).read bytes ≡ Err Short
    → left_of (most - k) bytes ≡ Ok bytes
left_waits most k bytes h e =
    ap (λ n. left_of n bytes) (one_more most k h) ∙ left_short (most - (k + 1)) bytes e

-- A length out of bounds ends the stream.
pub left_ends : (most k : ℕ) (bytes : List ℕ) (e : Fault) → (e ≡ Short → ⊥) → k < most
    → (frame_format client_frame_limit).read bytes ≡ Err e → left_of (most - k) bytes ≡ Err e
left_ends most k bytes e other h he =
    ap (λ n. left_of n bytes) (one_more most k h) ∙ left_refused (most - (k + 1)) bytes e other he

-- After the last frame nothing more is read.
pub left_all : (most k : ℕ) (bytes : List ℕ) → most - k ≡ 0 → left_of (most - k) bytes ≡ Ok bytes
left_all most k bytes e = ap (λ n. left_of n bytes) e ∙ left_none bytes

pub read_whole : (most : ℕ) (bytes rest : List ℕ) → left_of most bytes ≡ Ok rest
    → length bytes - length rest ≡ whole_frames_length most bytes
read_whole most bytes rest e = sym (ap (bytes_read bytes) e)

pub read_refused : (most : ℕ) (bytes : List ℕ) (f : Fault) → left_of most bytes ≡ Err f
    → length bytes ≡ whole_frames_length most bytes
read_refused most bytes f e = sym (ap (bytes_read bytes) e)

-- ---- the frames that go together

pub going_none : (dialect : Dialect) (gate : Gate) (bytes : List ℕ) → frames_going dialect 0 gate bytes ≡ 0
unfolding items_within
going_none dialect gate bytes = refl

pub going_all : (dialect : Dialect) (most k : ℕ) (gate : Gate) (bytes : List ℕ) → most ≤ k
    → frames_going dialect (most - k) gate bytes ≡ 0
going_all dialect most k gate bytes h =
    let none : most - k ≡ 0 = omega (arith, h) in
    ap (λ n. frames_going dialect n gate bytes) none ∙ going_none dialect gate bytes

abbrev pub going_read : Dialect → ℕ → Gate → List ℕ → Result (List ℕ × List ℕ) Fault → ℕ
going_read dialect n gate bytes r =
    let items = items_after_read r (λ v. items_within frames_of_client n tt)
    (place_after_fault tt bytes) in
    count_going dialect items.found items.left.unread gate

pub going_first : (dialect : Dialect) (n : ℕ) (gate : Gate) (bytes : List ℕ) → frames_going dialect (suc n) gate bytes
    ≡ going_read dialect n gate bytes ((frame_format client_frame_limit).read bytes)
unfolding items_within
going_first dialect n gate bytes = refl

-- The frames that go where this one is the first.
pub going_whole : (dialect : Dialect) (most k : ℕ) (gate : Gate) (bytes rest f : List ℕ) → k < most
    → (frame_format client_frame_limit).read bytes ≡ Ok (f, rest)
    → frames_going dialect (most - k) gate bytes
    ≡ going_after (kind_of_frame dialect f) gate
    (frames_going dialect (most - (k + 1)) (gate_after (kind_of_frame dialect f) gate) rest)
going_whole dialect most k gate bytes rest f h e =
    ap (λ n. frames_going dialect n gate bytes) (one_more most k h)
    ∙ going_first dialect (most - (k + 1)) gate bytes
    ∙ ap (going_read dialect (most - (k + 1)) gate bytes) e

pub going_short : (dialect : Dialect) (most k : ℕ) (gate : Gate) (bytes : List ℕ) → k < most
    → (frame_format client_frame_limit).read bytes ≡ Err Short → frames_going dialect (most - k) gate bytes ≡ 0
going_short dialect most k gate bytes h e =
    ap (λ n. frames_going dialect n gate bytes) (one_more most k h)
    ∙ going_first dialect (most - (k + 1)) gate bytes
    ∙ ap (going_read dialect (most - (k + 1)) gate bytes) e

pub going_refused : (dialect : Dialect) (most k : ℕ) (gate : Gate) (bytes : List ℕ) (e : Fault)
    → (e ≡ Short → ⊥) → k < most → (frame_format client_frame_limit).read bytes ≡ Err e
    → frames_going dialect (most - k) gate bytes ≡ (if goes_with Heavy gate then 1 else 0)
going_refused dialect most k gate bytes e other h he =
    ap (λ n. frames_going dialect n gate bytes) (one_more most k h)
    ∙ going_first dialect (most - (k + 1)) gate bytes
    ∙ ap (going_read dialect (most - (k + 1)) gate bytes) he
    ∙ ap (ending_going gate) (refused_other e bytes other)

-- One more frame goes, and others come after it.
pub goes_on : (dialect : Dialect) (most k : ℕ) (gate : Gate) (bytes rest f : List ℕ) (kind : FrameKind)
    (after : Gate) → k < most → (frame_format client_frame_limit).read bytes ≡ Ok (f, rest) → kind ≡ kind_of_frame dialect f
    → goes_with kind gate ≡ true → goes_last kind ≡ false → after ≡ gate_after kind gate
    → k + 1 + frames_going dialect (most - (k + 1)) after rest ≡ k + frames_going dialect (most - k) gate bytes
goes_on dialect most k gate bytes rest f kind after h e is with last so =
    let whole = going_whole dialect most k gate bytes rest f h e in
    let goes : goes_with (kind_of_frame dialect f) gate ≡ true = ap (λ j. goes_with j gate) (sym is) ∙ with in
    let middle : goes_last (kind_of_frame dialect f) ≡ false = ap goes_last (sym is) ∙ last in
    let afterwards : after ≡ gate_after (kind_of_frame dialect f) gate = so ∙ ap (λ j. gate_after j gate) is in
    let others = frames_going dialect (most - (k + 1)) (gate_after (kind_of_frame dialect f) gate) rest in
    let same : frames_going dialect (most - k) gate bytes ≡ suc others =
    whole ∙ ap (λ b. if b then if goes_last (kind_of_frame dialect f) then 1 else suc others else 0) goes
    ∙ ap (λ b. if b then 1 else suc others) middle in
    let moved : frames_going dialect (most - (k + 1)) after rest ≡ others =
    ap (λ b. frames_going dialect (most - (k + 1)) b rest) afterwards in
    omega (arith, same, moved)

-- No more goes.
pub held_back : (dialect : Dialect) (most k : ℕ) (gate : Gate) (bytes rest f : List ℕ) (kind : FrameKind) → k < most
    → (frame_format client_frame_limit).read bytes ≡ Ok (f, rest) → kind ≡ kind_of_frame dialect f
    → goes_with kind gate ≡ false → frames_going dialect (most - k) gate bytes ≡ 0
held_back dialect most k gate bytes rest f kind h e is with =
    let goes : goes_with (kind_of_frame dialect f) gate ≡ false = ap (λ j. goes_with j gate) (sym is) ∙ with in
    let others = frames_going dialect (most - (k + 1)) (gate_after (kind_of_frame dialect f) gate) rest in
    going_whole dialect most k gate bytes rest f h e
    ∙ ap (λ b. if b then if goes_last (kind_of_frame dialect f) then 1 else suc others else 0) goes

-- One more goes, and it is the last.
pub goes_alone : (dialect : Dialect) (most k : ℕ) (gate : Gate) (bytes rest f : List ℕ) (kind : FrameKind) → k < most
    → (frame_format client_frame_limit).read bytes ≡ Ok (f, rest) → kind ≡ kind_of_frame dialect f
    → goes_with kind gate ≡ true → goes_last kind ≡ true → frames_going dialect (most - k) gate bytes ≡ 1
goes_alone dialect most k gate bytes rest f kind h e is with last =
    let goes : goes_with (kind_of_frame dialect f) gate ≡ true = ap (λ j. goes_with j gate) (sym is) ∙ with in
    let end : goes_last (kind_of_frame dialect f) ≡ true = ap goes_last (sym is) ∙ last in
    let others = frames_going dialect (most - (k + 1)) (gate_after (kind_of_frame dialect f) gate) rest in
    going_whole dialect most k gate bytes rest f h e
    ∙ ap (λ b. if b then if goes_last (kind_of_frame dialect f) then 1 else suc others else 0) goes
    ∙ ap (λ b. if b then 1 else suc others) end
