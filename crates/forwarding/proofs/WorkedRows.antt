-- The rows that were worked out by hand, evaluated.
use Rattle.std.proofs.Common.{◌≡◌, ◌≢◌, ◌==◌, ℕ, ℤ, pos, negsuc, Bool, true, false, ◌||◌, List, [], ◌∷◌, ◌++◌, map, take, drop, Some, None, refl, sym, ap, ◌∙◌, arith}
use Rattle.std.specs.Prelude.{if◌then◌else◌}
use Rattle.std.specs.List.Sorted.{IsStrictlySortedBy}
use Rattle.std.specs.Ordering.{eq_by_cmp, nat_cmp, int_cmp}
use Rattle.std.specs.Cmp.{nat_cmp_total, int_cmp_total}
use Rattle.std.proofs.lemmas.Map.Lookups.{exact_unsigned, exact_signed}
use Rattle.std.specs.FinMap as finmap
use Rattle.std.specs.FinSet as set
use Rattle.forwarding.specs.declared.request.WriteKind.TheVariants.{Create, Create2, CreateTtl, SetData, CloseSession}
use Rattle.forwarding.specs.declared.request.ConnectKind.{ConnectKind}
use Rattle.forwarding.specs.declared.request.ConnectKind.TheVariants.{New, Claimed}
use Rattle.forwarding.specs.declared.request.PendingConnect.{PendingConnect}
use Rattle.forwarding.specs.declared.request.PendingRequest.{PendingRequest}
use Rattle.forwarding.specs.declared.request.PendingRequest.TheVariants.{Connect, Write, Held}
use Rattle.forwarding.specs.Queue.{RequestQueue, answered_write, after_answer, oldest_close, with_oldest_settled, ready_request, without_front_if, waiting_connect, asks_as, held_frames}
use Rattle.forwarding.specs.State.{RequestQueues, TouchedSessions, PendingTable}
use Rattle.forwarding.specs.Pending.{nothing_pending, queue_in, queue_of, has_no_request, with_queue, push_connect, push_write, push_sync, unsettled_sync, settle_sync, drop_connection, without_connect, awaiting_as, take_connect_as, sorted_touched, with_timeout, live_rows, touched_limit, touched_rows}
use Rattle.forwarding.specs.Rows.{held_frame, path_a, create_waits, create_answered, CreateIsAnswered, RequestsAreSeen, sync_then_write, WriteOvertakesSync, sync_of_gone, SyncOfGone, new_session, connect_waits, ConnectIsAnswered, claim_waits, ClaimIsFound, later_creates, LaterCreatesAreAnswered, CloseIsFound, three_touched, two_live, TouchedAreTold, WorkedRows}
use Rattle.values.proofs.Keyed.{inserted, inserted_elsewhere, remove_absent, remove_inserted, insert_inserted}
use Rattle.forwarding.proofs.SessionSets.{items-sorted}
use Rattle.forwarding.proofs.Changing.{queue_put}
use Rattle.forwarding.proofs.Others.{others_stay, put_leaves}
use Rattle.forwarding.proofs.Emptiness.{no_requests}
use Rattle.forwarding.proofs.Ordered.{requests_keep_order}

one_isnt_two : ◌≢◌ {A = ℕ} 1 2
one_isnt_two e = absurd (omega arith)

two_isnt_one : ◌≢◌ {A = ℕ} 2 1
two_isnt_one e = absurd (omega arith)

at_first : (n : ℕ) → queue_of nothing_pending n ≡ []
at_first n = ap queue_in (finmap.get-empty nat_cmp n)

none_left : (n : ℕ) → finmap.remove (finmap.empty {K = ℕ} {X = RequestQueue} {R = nat_cmp}) n ≡ finmap.empty
none_left n = remove_absent nat_cmp_total exact_unsigned finmap.empty n (finmap.get-empty nat_cmp n)

twice : (m : RequestQueues) (n : ℕ) (a b c : RequestQueue)
    → finmap.insert (finmap.insert (finmap.insert m n a) n b) n c ≡ finmap.insert m n c
twice m n a b c =
    insert_inserted nat_cmp_total exact_unsigned (finmap.insert m n a) n c b
    ∙ insert_inserted nat_cmp_total exact_unsigned m n c a

-- ---- a create, and a frame after it

abbrev create : PendingRequest
create = Write (record { xid = pos 4; kind = Create })

create_alone : queue_of (push_write nothing_pending 1 (pos 4) Create) 1 ≡ create ∷ []
create_alone =
    requests_keep_order.pushes_write nothing_pending 1 (pos 4) Create ∙ ap (λ q. q ++ create ∷ []) (at_first 1)

both_wait : queue_of create_waits 1 ≡ create ∷ Held held_frame ∷ []
both_wait =
    requests_keep_order.holds (push_write nothing_pending 1 (pos 4) Create) 1 held_frame
    ∙ ap (λ q. q ++ Held held_frame ∷ []) create_alone

not_two : queue_of create_waits 2 ≡ []
not_two =
    (others_stay.holds (push_write nothing_pending 1 (pos 4) Create) 1 held_frame 2 two_isnt_one).queue
    ∙ (others_stay.pushes_write nothing_pending 1 (pos 4) Create 2 two_isnt_one).queue ∙ at_first 2

answered_left : after_answer (queue_of create_waits 1) (pos 4) (pos 1) ≡ Held held_frame ∷ []
answered_left = ap (λ q. after_answer q (pos 4) (pos 1)) both_wait

frame_waits : queue_of create_answered 1 ≡ Held held_frame ∷ []
frame_waits =
    queue_put create_waits.queues 1 (after_answer (queue_of create_waits 1) (pos 4) (pos 1)) ∙ answered_left

none_waits : with_queue create_answered.queues 1
    (without_front_if (ready_request (queue_of create_answered 1)) (queue_of create_answered 1)) ≡ finmap.empty
none_waits =
    ap (λ q. with_queue create_answered.queues 1 (without_front_if (ready_request q) q)) frame_waits
    ∙ ap (λ q. finmap.remove (with_queue create_waits.queues 1 q) 1) answered_left
    ∙ remove_inserted nat_cmp_total exact_unsigned create_waits.queues 1 (Held held_frame ∷ [])
    ∙ remove_inserted nat_cmp_total exact_unsigned (push_write nothing_pending 1 (pos 4) Create).queues 1
    (queue_of (push_write nothing_pending 1 (pos 4) Create) 1 ++ Held held_frame ∷ [])
    ∙ remove_inserted nat_cmp_total exact_unsigned finmap.empty 1 (queue_of nothing_pending 1 ++ create ∷ [])
    ∙ none_left 1

nothing_first : {A : Type 0} {r : PendingRequest} {rest : RequestQueue} → [] ≡ r ∷ rest → A
nothing_first e = cc

create_is_answered : CreateIsAnswered
create_is_answered = record {
  held = ap ready_request both_wait;
  answers = ap (λ q. answered_write q (pos 4) (pos 1)) both_wait;
  fails = ap (λ q. answered_write q (pos 4) (negsuc 0)) both_wait;
  other_xid = ap (λ q. answered_write q (pos 5) (pos 1)) both_wait;
  other_kind = ap (λ q. answered_write q (pos 4) (pos 5)) both_wait;
  other_connection = ap (λ q. answered_write q (pos 4) (pos 1)) not_two;
  next = ap ready_request frame_waits;
  rest = λ i. record nothing_pending { queues = none_waits i };
}

requests_are_seen : RequestsAreSeen
requests_are_seen = record {
  none = ap (λ n. n == 0) (finmap.len-empty nat_cmp RequestQueue);
  some = by (has_no_request create_waits) refl;
}
  where
    by : (b : Bool) → has_no_request create_waits ≡ b → b ≡ false
    by true e = nothing_first (sym (no_requests create_waits e 1) ∙ both_wait)
    by false e = refl

-- ---- a sync, and a write after it

abbrev sync : ℤ → PendingRequest
sync xid = unsettled_sync xid path_a

abbrev set_data : PendingRequest
set_data = Write (record { xid = pos 8; kind = SetData })

sync_waits : queue_of (push_sync nothing_pending 1 (pos 7) path_a) 1 ≡ sync (pos 7) ∷ []
sync_waits =
    requests_keep_order.pushes_sync nothing_pending 1 (pos 7) path_a ∙ ap (λ q. q ++ sync (pos 7) ∷ []) (at_first 1)

sync_and_write : queue_of sync_then_write 1 ≡ sync (pos 7) ∷ set_data ∷ []
sync_and_write =
    requests_keep_order.pushes_write (push_sync nothing_pending 1 (pos 7) path_a) 1 (pos 8) SetData
    ∙ ap (λ q. q ++ set_data ∷ []) sync_waits

sync_left : with_queue sync_then_write.queues 1 (after_answer (queue_of sync_then_write 1) (pos 8) (pos 5))
    ≡ (push_sync nothing_pending 1 (pos 7) path_a).queues
sync_left =
    ap (λ q. with_queue sync_then_write.queues 1 (after_answer q (pos 8) (pos 5))) sync_and_write
    ∙ twice finmap.empty 1 (queue_of nothing_pending 1 ++ sync (pos 7) ∷ [])
    (queue_of (push_sync nothing_pending 1 (pos 7) path_a) 1 ++ set_data ∷ []) (sync (pos 7) ∷ [])
    ∙ ap (λ q. finmap.insert finmap.empty 1 (q ++ sync (pos 7) ∷ [])) (sym (at_first 1))

write_overtakes_sync : WriteOvertakesSync
write_overtakes_sync = record {
  answers = ap (λ q. answered_write q (pos 8) (pos 5)) sync_and_write;
  leaves = λ i. record (push_sync nothing_pending 1 (pos 7) path_a) { queues = sync_left i };
  waits = ap ready_request sync_and_write;
  settles = refl;
  ready =
      ap ready_request (queue_put sync_then_write.queues 1 (with_oldest_settled (queue_of sync_then_write 1))
      ∙ ap with_oldest_settled sync_and_write);
}

-- ---- the sync of a connection that has gone

abbrev gone : PendingTable
gone = drop_connection (push_sync nothing_pending 1 (pos 7) path_a) 1

abbrev second_syncs : PendingTable
second_syncs = push_sync gone 2 (pos 3) path_a

gone_first : queue_of gone 1 ≡ []
gone_first = queue_put (push_sync nothing_pending 1 (pos 7) path_a).queues 1 []

gone_second : queue_of gone 2 ≡ []
gone_second =
    (others_stay.drops (push_sync nothing_pending 1 (pos 7) path_a) 1 2 two_isnt_one).queue
    ∙ (others_stay.pushes_sync nothing_pending 1 (pos 7) path_a 2 two_isnt_one).queue ∙ at_first 2

second_waits : queue_of sync_of_gone 2 ≡ sync (pos 3) ∷ []
second_waits =
    (others_stay.pushes_sync second_syncs 1 (pos 1) path_a 2 two_isnt_one).queue
    ∙ requests_keep_order.pushes_sync gone 2 (pos 3) path_a ∙ ap (λ q. q ++ sync (pos 3) ∷ []) gone_second

first_waits : queue_of sync_of_gone 1 ≡ sync (pos 1) ∷ []
first_waits =
    requests_keep_order.pushes_sync second_syncs 1 (pos 1) path_a
    ∙ ap (λ q. q ++ sync (pos 1) ∷ [])
    ((others_stay.pushes_sync gone 2 (pos 3) path_a 1 one_isnt_two).queue ∙ gone_first)

abbrev once_settled : PendingTable
once_settled = (settle_sync sync_of_gone).after

sync_of_gone_is_gone : SyncOfGone
sync_of_gone_is_gone = record {
  first = refl;
  waits = ap ready_request second_waits;
  second = refl;
  ready =
      ap ready_request (queue_put once_settled.queues 2 (with_oldest_settled (queue_of once_settled 2))
      ∙ ap with_oldest_settled second_waits);
  still_waits =
      ap ready_request
      ((put_leaves once_settled 2 (with_oldest_settled (queue_of once_settled 2)) 1 one_isnt_two).queue ∙ first_waits);
  none = refl;
}

-- ---- a connect, and a frame after it

connect_alone : queue_of (push_connect nothing_pending 2 new_session) 2 ≡ Connect new_session ∷ []
connect_alone =
    requests_keep_order.pushes_connect nothing_pending 2 new_session
    ∙ ap (λ q. q ++ Connect new_session ∷ []) (at_first 2)

connect_and_frame : queue_of connect_waits 2 ≡ Connect new_session ∷ Held held_frame ∷ []
connect_and_frame =
    requests_keep_order.holds (push_connect nothing_pending 2 new_session) 2 held_frame
    ∙ ap (λ q. q ++ Held held_frame ∷ []) connect_alone

none_connecting : without_connect connect_waits.connects (waiting_connect (queue_of connect_waits 2)) ≡ finmap.empty
none_connecting =
    ap (λ q. without_connect connect_waits.connects (waiting_connect q)) connect_and_frame
    ∙ remove_inserted int_cmp_total exact_signed finmap.empty (pos 9) 2
    ∙ remove_absent int_cmp_total exact_signed finmap.empty (pos 9) (finmap.get-empty int_cmp (pos 9))

all_dropped : finmap.remove connect_waits.queues 2 ≡ finmap.empty
all_dropped =
    remove_inserted nat_cmp_total exact_unsigned (push_connect nothing_pending 2 new_session).queues 2
    (queue_of (push_connect nothing_pending 2 new_session) 2 ++ Held held_frame ∷ [])
    ∙ remove_inserted nat_cmp_total exact_unsigned finmap.empty 2
    (queue_of nothing_pending 2 ++ Connect new_session ∷ [])
    ∙ none_left 2

all_taken : drop_connection connect_waits 2 ≡ nothing_pending
all_taken = λ i. record nothing_pending { queues = all_dropped i; connects = none_connecting i }

connect_found : waiting_connect (queue_of connect_waits 2) ≡ Some new_session
connect_found = ap waiting_connect connect_and_frame

no_connect_found : waiting_connect (queue_of create_waits 1) ≡ None
no_connect_found = ap waiting_connect both_wait

-- A connect that is found is looked at.
seen_as : (kind : ConnectKind) (n : ℕ) (c : PendingConnect) (s : PendingTable) (session : ℤ)
    → finmap.get s.connects session ≡ Some n → waiting_connect (queue_of s n) ≡ Some c
    → awaiting_as s kind (finmap.get s.connects session) ≡ (if asks_as kind (Some c) then Some n else None)
seen_as kind n c s session at front =
    ap (awaiting_as s kind) at ∙ ap (λ o. if asks_as kind o then Some n else None) front

connecting : finmap.get connect_waits.connects (pos 9) ≡ Some 2
connecting = inserted int_cmp_total exact_signed finmap.empty (pos 9) 2

connect_is_answered : ConnectIsAnswered
connect_is_answered = record {
  waits = ap ready_request connect_and_frame;
  found = connecting;
  as_new = seen_as New 2 new_session connect_waits (pos 9) connecting connect_found;
  as_claimed = seen_as Claimed 2 new_session connect_waits (pos 9) connecting connect_found;
  taken = ap (λ o. (take_connect_as connect_waits 2 o).connect) connect_found;
  frames = ap (λ o. (take_connect_as connect_waits 2 o).frames) connect_found ∙ ap held_frames connect_and_frame;
  rest = ap (λ o. (take_connect_as connect_waits 2 o).after) connect_found ∙ all_taken;
  none = ap (λ o. (take_connect_as create_waits 1 o).connect) no_connect_found;
  stays = ap (λ o. (take_connect_as create_waits 1 o).after) no_connect_found;
  dropped = all_taken;
}

-- ---- a claim

abbrev claim : PendingConnect
claim = record new_session { kind = Claimed; session = pos 8 }

claim_alone : queue_of claim_waits 3 ≡ Connect claim ∷ []
claim_alone = requests_keep_order.pushes_connect nothing_pending 3 claim ∙ ap (λ q. q ++ Connect claim ∷ []) (at_first 3)

claiming : finmap.get claim_waits.connects (pos 8) ≡ Some 3
claiming = inserted int_cmp_total exact_signed finmap.empty (pos 8) 3

claim_is_found : ClaimIsFound
claim_is_found = record {
  as_claimed = seen_as Claimed 3 claim claim_waits (pos 8) claiming (ap waiting_connect claim_alone);
  as_new = seen_as New 3 claim claim_waits (pos 8) claiming (ap waiting_connect claim_alone);
  other_session =
      ap (awaiting_as claim_waits Claimed)
      (inserted_elsewhere int_cmp_total exact_signed finmap.empty (pos 8) 3 (pos 9) refl
      ∙ finmap.get-empty int_cmp (pos 9));
}

-- ---- creates of later releases

abbrev later_create : PendingRequest
later_create = Write (record { xid = pos 4; kind = Create2 })

abbrev ttl_create : PendingRequest
ttl_create = Write (record { xid = pos 5; kind = CreateTtl })

later_alone : queue_of (push_write nothing_pending 1 (pos 4) Create2) 1 ≡ later_create ∷ []
later_alone =
    requests_keep_order.pushes_write nothing_pending 1 (pos 4) Create2 ∙ ap (λ q. q ++ later_create ∷ []) (at_first 1)

both_later : queue_of later_creates 1 ≡ later_create ∷ ttl_create ∷ []
both_later =
    requests_keep_order.pushes_write (push_write nothing_pending 1 (pos 4) Create2) 1 (pos 5) CreateTtl
    ∙ ap (λ q. q ++ ttl_create ∷ []) later_alone

later_creates_are_answered : LaterCreatesAreAnswered
later_creates_are_answered = record {
  answers = ap (λ q. answered_write q (pos 4) (pos 15)) both_later;
  fails = ap (λ q. answered_write q (pos 4) (negsuc 0)) both_later;
  other_type = ap (λ q. answered_write q (pos 4) (pos 1)) both_later;
  next =
      ap (λ q. answered_write q (pos 5) (pos 21))
      (queue_put later_creates.queues 1 (after_answer (queue_of later_creates 1) (pos 4) (pos 15))
      ∙ ap (λ q. after_answer q (pos 4) (pos 15)) both_later);
}

-- ---- a closeSession

close_is_found : CloseIsFound
close_is_found = record {
  close =
      ap oldest_close (requests_keep_order.pushes_write sync_then_write 1 (pos 9) CloseSession
      ∙ ap (λ q. q ++ Write (record { xid = pos 9; kind = CloseSession }) ∷ []) sync_and_write);
  none = ap oldest_close sync_and_write;
}

-- ---- touched sessions

abbrev three : List ℤ
three = negsuc 2 ∷ pos 5 ∷ pos 9 ∷ []

ascending : IsStrictlySortedBy int_cmp three
unfolding IsStrictlySortedBy
ascending = ((refl, (refl, tt)), ((refl, tt), (tt, tt)))

regrouped : (a b c : Bool) → (b || (a || (b || (c || false)))) ≡ (a || (b || (c || false)))
regrouped true true c = refl
regrouped true false c = refl
regrouped false true c = refl
regrouped false false c = refl

are_three : three_touched.touched ≡ set.from_list three
are_three = set.same_set int_cmp_total exact_signed _ _ (λ q.
    each q (set.insert (set.insert (set.insert set.empty (pos 9)) (pos 5)) (negsuc 2)) (pos 5)
    ∙ ap (λ b. eq_by_cmp int_cmp q (pos 5) || b)
    (each q (set.insert (set.insert set.empty (pos 9)) (pos 5)) (negsuc 2)
    ∙ ap (λ b. eq_by_cmp int_cmp q (negsuc 2) || b)
    (each q (set.insert set.empty (pos 9)) (pos 5)
    ∙ ap (λ b. eq_by_cmp int_cmp q (pos 5) || b)
    (each q set.empty (pos 9) ∙ ap (λ b. eq_by_cmp int_cmp q (pos 9) || b) (set.contains-empty int_cmp q))))
    ∙ regrouped (eq_by_cmp int_cmp q (negsuc 2)) (eq_by_cmp int_cmp q (pos 5)) (eq_by_cmp int_cmp q (pos 9))
    ∙ sym (set.contains-from_list int_cmp_total three q))
  where
    each : (q : ℤ) (s : TouchedSessions) (k : ℤ)
        → set.contains (set.insert s k) q ≡ (eq_by_cmp int_cmp q k || set.contains s q)
    each q s k = set.contains-insert int_cmp_total s k q

sorted_three : sorted_touched three_touched.touched ≡ three
sorted_three = ap (λ s. sorted_touched s) are_three ∙ items-sorted three ascending

timeout : (session : ℤ) → two_live session
    ≡ finmap.find int_cmp session ((pos 5, pos 40000) ∷ (negsuc 2, pos 4000) ∷ (pos 6, pos 1) ∷ [])
timeout session =
    finmap.get-from_entries int_cmp_total ((pos 5, pos 40000) ∷ (negsuc 2, pos 4000) ∷ (pos 6, pos 1) ∷ []) session

abbrev two_rows : List (ℤ × ℤ)
two_rows = (negsuc 2, pos 4000) ∷ (pos 5, pos 40000) ∷ []

rows_of_two : live_rows two_live three ≡ two_rows
rows_of_two = λ i. with_timeout (negsuc 2) (timeout (negsuc 2) i)
    (with_timeout (pos 5) (timeout (pos 5) i) (with_timeout (pos 9) (timeout (pos 9) i) []))

all_rows : touched_rows three_touched two_live ≡ two_rows
all_rows = ap (live_rows two_live) sorted_three ∙ rows_of_two

none_sorted : sorted_touched nothing_pending.touched ≡ []
unfolding IsStrictlySortedBy
none_sorted = items-sorted [] tt

touched_are_told : TouchedAreTold
touched_are_told = record {
  rows = ap (λ (xs : List (ℤ × ℤ)). take touched_limit xs) all_rows;
  after = λ i. record nothing_pending {
    touched = set.from_list (map (λ (row : ℤ × ℤ). row.0) (drop touched_limit (all_rows i)));
  };
  again = ap (λ ks. take touched_limit (live_rows two_live ks)) none_sorted;
}

pub rows_hold : WorkedRows
rows_hold = record {
  create = create_is_answered;
  seen = requests_are_seen;
  overtakes = write_overtakes_sync;
  gone = sync_of_gone_is_gone;
  connect = connect_is_answered;
  claim = claim_is_found;
  later = later_creates_are_answered;
  close = close_is_found;
  touched = touched_are_told;
}
