-- All requests that aren't answered yet.
use Rattle.std.specs.Prelude.{◌≡◌, ℕ, ℤ, List, [], ◌∷◌, Option, Bool, true, false, refl, ◌⊎◌, if◌then◌else◌}
use Rattle.std.specs.Ordering.{nat_cmp, int_cmp, int_eq}
use Rattle.std.specs.Coded.{Coded, code_by, coded×, coded⊎, coded_ℕ, coded_ℤ, coded_bool, coded_list, coded_option}
use mathlib.Core.Logic.{inl, inr}
use Rattle.std.specs.FinMap as finmap
use Rattle.std.specs.FinSet as set
use Rattle.session_map.specs.SessionMap.{ConnectionBySession, connection_by_session_code}
use Rattle.forwarding.specs.declared.request.WriteKind.{WriteKind}
use Rattle.forwarding.specs.declared.request.WriteKind.TheVariants.{Create, Create2, CreateContainer, CreateTtl, Delete, DeleteContainer, SetData, SetAcl, Multi, Reconfig, CloseSession}
use Rattle.forwarding.specs.declared.request.ConnectKind.{ConnectKind}
use Rattle.forwarding.specs.declared.request.ConnectKind.TheVariants.{New, Claimed}
use Rattle.forwarding.specs.declared.request.PendingConnect.{PendingConnect}
use Rattle.forwarding.specs.declared.request.PendingWrite.{PendingWrite}
use Rattle.forwarding.specs.declared.request.PendingSync.{PendingSync}
use Rattle.forwarding.specs.declared.request.PendingRequest.{PendingRequest}
use Rattle.forwarding.specs.declared.request.PendingRequest.TheVariants.{Connect, Write, Sync, Held}
use Rattle.forwarding.specs.Queue.{RequestQueue, write_number}

-- By connection; a connection with nothing pending isn't in the map.
abbrev pub RequestQueues : Type 0
RequestQueues = finmap.FinMap nat_cmp RequestQueue

-- For each session that a connect waits for, the connection.
abbrev pub WaitingConnects : Type 0
WaitingConnects = ConnectionBySession

abbrev pub TouchedSessions : Type 0
TouchedSessions = set.FinSet int_cmp

pub record PendingTable : Type 0 where
  pub queues : RequestQueues
  -- The forwarded syncs that aren't settled, the oldest first, each by its connection; None where that has gone.
  pub syncs : List (Option ℕ)
  pub connects : WaitingConnects
  -- The sessions whose clients were heard since the leader was told.
  pub touched : TouchedSessions

abbrev pub pending_table_of : RequestQueues → List (Option ℕ) → WaitingConnects → TouchedSessions → PendingTable
pending_table_of queues syncs connects touched =
    record { queues = queues; syncs = syncs; connects = connects; touched = touched }

-- ---- codes

abbrev pub write_kinds : List WriteKind
write_kinds =
    Create ∷ Delete ∷ SetData ∷ SetAcl ∷ Multi ∷ Create2 ∷ Reconfig ∷ CreateContainer ∷ DeleteContainer ∷ CreateTtl
    ∷ CloseSession ∷ []

-- The one of these kinds that has the number.
abbrev pub kind_among : List WriteKind → ℤ → WriteKind
kind_among [] number = CloseSession
kind_among (kind ∷ rest) number = if int_eq (write_number kind) number then kind else kind_among rest number

pub write_kinds_apart : (k : WriteKind) → kind_among write_kinds (write_number k) ≡ k
write_kinds_apart Create = refl
write_kinds_apart Delete = refl
write_kinds_apart SetData = refl
write_kinds_apart SetAcl = refl
write_kinds_apart Multi = refl
write_kinds_apart Create2 = refl
write_kinds_apart Reconfig = refl
write_kinds_apart CreateContainer = refl
write_kinds_apart DeleteContainer = refl
write_kinds_apart CreateTtl = refl
write_kinds_apart CloseSession = refl

abbrev pub write_kind_code : Coded WriteKind
write_kind_code = code_by ℤ coded_ℤ write_number (kind_among write_kinds) write_kinds_apart

abbrev pub is_claimed : ConnectKind → Bool
is_claimed New = false
is_claimed Claimed = true

abbrev pub connect_kind_of : Bool → ConnectKind
connect_kind_of false = New
connect_kind_of true = Claimed

pub connect_kinds_apart : (k : ConnectKind) → connect_kind_of (is_claimed k) ≡ k
connect_kinds_apart New = refl
connect_kinds_apart Claimed = refl

abbrev pub connect_kind_code : Coded ConnectKind
connect_kind_code = code_by Bool coded_bool is_claimed connect_kind_of connect_kinds_apart

abbrev pub connect_code : Coded PendingConnect
connect_code =
    code_by (ConnectKind × (ℤ × (ℤ × Bool))) (coded× connect_kind_code (coded× coded_ℤ (coded× coded_ℤ coded_bool)))
    (λ c. (c.kind, (c.session, (c.time_out, c.has_read_only))))
    (λ p. record { kind = p.0; session = p.1.0; time_out = p.1.1.0; has_read_only = p.1.1.1 }) (λ _. refl)

abbrev pub write_code : Coded PendingWrite
write_code =
    code_by (ℤ × WriteKind) (coded× coded_ℤ write_kind_code) (λ w. (w.xid, w.kind))
    (λ p. record { xid = p.0; kind = p.1 }) (λ _. refl)

abbrev pub sync_code : Coded PendingSync
sync_code =
    code_by (ℤ × (List ℕ × Bool)) (coded× coded_ℤ (coded× (coded_list coded_ℕ) coded_bool))
    (λ s. (s.xid, (s.path, s.is_settled))) (λ p. record { xid = p.0; path = p.1.0; is_settled = p.1.1 }) (λ _. refl)

abbrev pub RequestSum : Type 0
RequestSum = PendingConnect ⊎ (PendingWrite ⊎ (PendingSync ⊎ List ℕ))

abbrev pub request_sum : PendingRequest → RequestSum
request_sum (Connect c) = inl c
request_sum (Write w) = inr (inl w)
request_sum (Sync s) = inr (inr (inl s))
request_sum (Held frame) = inr (inr (inr frame))

abbrev pub request_of_sum : RequestSum → PendingRequest
request_of_sum (inl c) = Connect c
request_of_sum (inr (inl w)) = Write w
request_of_sum (inr (inr (inl s))) = Sync s
request_of_sum (inr (inr (inr frame))) = Held frame

pub request_sums_apart : (r : PendingRequest) → request_of_sum (request_sum r) ≡ r
request_sums_apart (Connect c) = refl
request_sums_apart (Write w) = refl
request_sums_apart (Sync s) = refl
request_sums_apart (Held frame) = refl

abbrev pub request_code : Coded PendingRequest
request_code =
    code_by RequestSum (coded⊎ connect_code (coded⊎ write_code (coded⊎ sync_code (coded_list coded_ℕ)))) request_sum
    request_of_sum request_sums_apart

abbrev pub queue_code : Coded RequestQueue
queue_code = coded_list request_code

abbrev pub queues_code : Coded RequestQueues
queues_code = finmap.code {R = nat_cmp} coded_ℕ queue_code

abbrev pub session_ids_code : Coded TouchedSessions
session_ids_code = set.code {R = int_cmp} coded_ℤ

abbrev pub pending_table_code : Coded PendingTable
pending_table_code =
    code_by (RequestQueues × (List (Option ℕ) × (WaitingConnects × TouchedSessions)))
    (coded× queues_code (coded× (coded_list (coded_option coded_ℕ)) (coded× connection_by_session_code session_ids_code)))
    (λ s. (s.queues, (s.syncs, (s.connects, s.touched))))
    (λ p. record { queues = p.0; syncs = p.1.0; connects = p.1.1.0; touched = p.1.1.1 }) (λ _. refl)
