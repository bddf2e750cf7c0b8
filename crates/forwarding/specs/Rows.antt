-- Rows that were worked out by hand: calls on few connections, and what they leave.
use Rattle.std.specs.Prelude.{◌≡◌, ℕ, ℤ, pos, negsuc, List, [], ◌∷◌, Option, None, Some, true, false, codes}
use Rattle.std.specs.Ordering.{int_cmp}
use Rattle.std.specs.FinMap as finmap
use Rattle.forwarding.specs.declared.request.WriteKind.TheVariants.{Create, Create2, CreateTtl, SetData, CloseSession}
use Rattle.forwarding.specs.declared.request.ConnectKind.TheVariants.{New, Claimed}
use Rattle.forwarding.specs.declared.request.PendingConnect.{PendingConnect}
use Rattle.forwarding.specs.declared.request.Ready.TheVariants.{SettledSync, HeldFrame}
use Rattle.forwarding.specs.declared.request.Settled.TheVariants.{NoSync, Gone, Of}
use Rattle.forwarding.specs.State.{PendingTable}
use Rattle.forwarding.specs.Pending.{nothing_pending, has_no_request, push_connect, push_write, push_sync, hold_frame, answer_write, pending_close, settle_sync, take_ready, take_connect, connecting_to, awaiting, drop_connection, touch_session, take_touched}

-- A getData that came after a write.
abbrev pub held_frame : List ℕ
held_frame = 0 ∷ 0 ∷ 0 ∷ 1 ∷ 0 ∷ 0 ∷ 0 ∷ 4 ∷ []

abbrev pub path_a : List ℕ
path_a = codes "/a"

-- Connection 1 has a create of xid 4, and a frame after it.
abbrev pub create_waits : PendingTable
create_waits = hold_frame (push_write nothing_pending 1 (pos 4) Create) 1 held_frame

-- Its create is answered.
abbrev pub create_answered : PendingTable
create_answered = (answer_write create_waits 1 (pos 4) (pos 1)).after

pub record CreateIsAnswered : Type 0 where
  pub held : (take_ready create_waits 1).ready ≡ None
  pub answers : (answer_write create_waits 1 (pos 4) (pos 1)).kind ≡ Some Create
  pub fails : (answer_write create_waits 1 (pos 4) (negsuc 0)).kind ≡ Some Create
  pub other_xid : (answer_write create_waits 1 (pos 5) (pos 1)).kind ≡ None
  pub other_kind : (answer_write create_waits 1 (pos 4) (pos 5)).kind ≡ None
  pub other_connection : (answer_write create_waits 2 (pos 4) (pos 1)).kind ≡ None
  pub next : (take_ready create_answered 1).ready ≡ Some (HeldFrame held_frame)
  pub rest : (take_ready create_answered 1).after ≡ nothing_pending

pub record RequestsAreSeen : Type 0 where
  pub none : has_no_request nothing_pending ≡ true
  pub some : has_no_request create_waits ≡ false

-- Connection 1 has a sync and then a setData; the write overtakes the sync.
abbrev pub sync_then_write : PendingTable
sync_then_write = push_write (push_sync nothing_pending 1 (pos 7) path_a) 1 (pos 8) SetData

pub record WriteOvertakesSync : Type 0 where
  pub answers : (answer_write sync_then_write 1 (pos 8) (pos 5)).kind ≡ Some SetData
  pub leaves : (answer_write sync_then_write 1 (pos 8) (pos 5)).after ≡ push_sync nothing_pending 1 (pos 7) path_a
  pub waits : (take_ready sync_then_write 1).ready ≡ None
  pub settles : (settle_sync sync_then_write).settled ≡ Of 1
  pub ready : (take_ready (settle_sync sync_then_write).after 1).ready ≡ Some (SettledSync (pos 7) path_a)

-- Connection 1 syncs and goes, and its number is used again for a sync after that of connection 2.
abbrev pub sync_of_gone : PendingTable
sync_of_gone =
    push_sync (push_sync (drop_connection (push_sync nothing_pending 1 (pos 7) path_a) 1) 2 (pos 3) path_a) 1 (pos 1)
    path_a

pub record SyncOfGone : Type 0 where
  pub first : (settle_sync sync_of_gone).settled ≡ Gone
  pub waits : (take_ready (settle_sync sync_of_gone).after 2).ready ≡ None
  pub second : (settle_sync (settle_sync sync_of_gone).after).settled ≡ Of 2
  pub ready : (take_ready (settle_sync (settle_sync sync_of_gone).after).after 2).ready
      ≡ Some (SettledSync (pos 3) path_a)
  pub still_waits : (take_ready (settle_sync (settle_sync sync_of_gone).after).after 1).ready ≡ None
  pub none : (settle_sync nothing_pending).settled ≡ NoSync

abbrev pub new_session : PendingConnect
new_session = record { kind = New; session = pos 9; time_out = pos 10000; has_read_only = true }

-- Connection 2 waits for session 9, with a frame after its connect.
abbrev pub connect_waits : PendingTable
connect_waits = hold_frame (push_connect nothing_pending 2 new_session) 2 held_frame

pub record ConnectIsAnswered : Type 0 where
  pub waits : (take_ready connect_waits 2).ready ≡ None
  pub found : connecting_to connect_waits (pos 9) ≡ Some 2
  pub as_new : awaiting connect_waits (pos 9) New ≡ Some 2
  pub as_claimed : awaiting connect_waits (pos 9) Claimed ≡ None
  pub taken : (take_connect connect_waits 2).connect ≡ Some new_session
  pub frames : (take_connect connect_waits 2).frames ≡ held_frame ∷ []
  pub rest : (take_connect connect_waits 2).after ≡ nothing_pending
  pub none : (take_connect create_waits 1).connect ≡ None
  pub stays : (take_connect create_waits 1).after ≡ create_waits
  pub dropped : drop_connection connect_waits 2 ≡ nothing_pending

-- Connection 3 claims session 8.
abbrev pub claim_waits : PendingTable
claim_waits = push_connect nothing_pending 3 (record new_session { kind = Claimed; session = pos 8 })

pub record ClaimIsFound : Type 0 where
  pub as_claimed : awaiting claim_waits (pos 8) Claimed ≡ Some 3
  pub as_new : awaiting claim_waits (pos 8) New ≡ None
  pub other_session : awaiting claim_waits (pos 9) Claimed ≡ None

-- Connection 1 has a create that asks for the Stat, then the create of a node with a time to live.
abbrev pub later_creates : PendingTable
later_creates = push_write (push_write nothing_pending 1 (pos 4) Create2) 1 (pos 5) CreateTtl

pub record LaterCreatesAreAnswered : Type 0 where
  pub answers : (answer_write later_creates 1 (pos 4) (pos 15)).kind ≡ Some Create2
  pub fails : (answer_write later_creates 1 (pos 4) (negsuc 0)).kind ≡ Some Create2
  pub other_type : (answer_write later_creates 1 (pos 4) (pos 1)).kind ≡ None
  pub next : (answer_write (answer_write later_creates 1 (pos 4) (pos 15)).after 1 (pos 5) (pos 21)).kind
      ≡ Some CreateTtl

pub record CloseIsFound : Type 0 where
  pub close : pending_close (push_write sync_then_write 1 (pos 9) CloseSession) 1 ≡ Some (pos 9)
  pub none : pending_close sync_then_write 1 ≡ None

-- Of the touched sessions -3, 5 and 9, the session 9 has ended.
abbrev pub three_touched : PendingTable
three_touched =
    touch_session (touch_session (touch_session (touch_session nothing_pending (pos 9)) (pos 5)) (negsuc 2)) (pos 5)

abbrev pub two_live : ℤ → Option ℤ
two_live = finmap.get (finmap.from_entries {R = int_cmp} ((pos 5, pos 40000) ∷ (negsuc 2, pos 4000) ∷ (pos 6, pos 1) ∷ []))

pub record TouchedAreTold : Type 0 where
  pub rows : (take_touched three_touched two_live).rows ≡ (negsuc 2, pos 4000) ∷ (pos 5, pos 40000) ∷ []
  pub after : (take_touched three_touched two_live).after ≡ nothing_pending
  pub again : (take_touched nothing_pending two_live).rows ≡ []

pub record WorkedRows : Type 0 where
  pub create : CreateIsAnswered
  pub seen : RequestsAreSeen
  pub overtakes : WriteOvertakesSync
  pub gone : SyncOfGone
  pub connect : ConnectIsAnswered
  pub claim : ClaimIsFound
  pub later : LaterCreatesAreAnswered
  pub close : CloseIsFound
  pub touched : TouchedAreTold
