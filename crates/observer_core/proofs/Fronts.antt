-- The connects that wait: after a small step of a connection each waited before, unless the step asks for a session.
use Rattle.std.proofs.Common.{◌≡◌, ◌⊎◌, inl, inr, ℕ, ℤ, Bool, true, false, cond, List, [], ◌∷◌, ◌++◌, drop, Option, Some, None, refl, sym, ap, ◌∙◌}
use Rattle.std.specs.Prelude.{is_some}
use Rattle.std.specs.List.{list_any}
use Rattle.std.specs.Ordering.{eq_by_cmp, nat_cmp}
use Rattle.std.specs.Cmp.{nat_cmp_total}
use Rattle.std.proofs.lemmas.Bool.{cond_both}
use Rattle.std.proofs.lemmas.Map.Lookups.{exact_unsigned}
use Rattle.std.proofs.lemmas.Map.Views.{tells_apart}
use Rattle.std.specs.FinMap as finmap
use mathlib.Core.Bool.{true≢false}
use Rattle.forwarding.specs.declared.request.PendingConnect.{PendingConnect}
use Rattle.forwarding.specs.declared.request.PendingRequest.{PendingRequest}
use Rattle.forwarding.specs.declared.request.PendingRequest.TheVariants.{Connect, Write, Sync, Held}
use Rattle.forwarding.specs.declared.request.Ready.{Ready}
use Rattle.forwarding.specs.Queue.{RequestQueue, is_unsettled, waiting_connect, ready_request, without_front_if, is_answered, oldest_write, without_oldest_write, after_answer, with_oldest_settled}
use Rattle.forwarding.specs.State.{PendingTable}
use Rattle.forwarding.specs.Pending.{queue_in, queue_of, put_queue, take_ready, answer_write, settle_first, settle_sync, drop_connection}
use Rattle.forwarding.specs.Agreement.{PendingAgrees, is_connect}
use Rattle.observer_core.proofs.Awaiting.{dropped_less, put_get}

-- Each connect that waits waited before.
abbrev pub FewerFronts : PendingTable → PendingTable → Type 0
FewerFronts p q =
    (n : ℕ) (c : PendingConnect) → waiting_connect (queue_of q n) ≡ Some c → waiting_connect (queue_of p n) ≡ Some c

never : {X : Type 0} (c : PendingConnect) (o : Option PendingConnect) → o ≡ None → o ≡ Some c → X
never c o none e = absurd (true≢false (sym (ap is_some e) ∙ ap is_some none))

pub dropped_fronts : (p : PendingTable) (k : ℕ) → FewerFronts p (drop_connection p k)
dropped_fronts p k n c e = by (dropped_less p k n)
  where
    by : (queue_of (drop_connection p k) n ≡ queue_of p n) ⊎ (queue_of (drop_connection p k) n ≡ [])
        → waiting_connect (queue_of p n) ≡ Some c
    by (inl same) = ap waiting_connect (sym same) ∙ e
    by (inr none) = never c (waiting_connect (queue_of (drop_connection p k) n)) (ap waiting_connect none) e

-- ---- requests that are pushed

front_pushed : (q : RequestQueue) (r : PendingRequest) (c : PendingConnect) → waiting_connect (q ++ r ∷ []) ≡ Some c
    → (waiting_connect q ≡ Some c) ⊎ (waiting_connect (r ∷ []) ≡ Some c)
front_pushed [] r c e = inr e
front_pushed (Connect d ∷ rest) r c e = inl e
front_pushed (Write w ∷ rest) r c e = inl e
front_pushed (Sync s ∷ rest) r c e = inl e
front_pushed (Held frame ∷ rest) r c e = inl e

-- A connect waited before, or is the request that was pushed.
pub pushed_front : (p : PendingTable) (k : ℕ) (r : PendingRequest) (n : ℕ) (c : PendingConnect)
    → waiting_connect (queue_in (finmap.get (finmap.insert p.queues k (queue_of p k ++ r ∷ [])) n)) ≡ Some c
    → (waiting_connect (queue_of p n) ≡ Some c) ⊎ (waiting_connect (r ∷ []) ≡ Some c)
pushed_front p k r n c e =
    cond_both (eq_by_cmp nat_cmp n k) (Some (queue_of p k ++ r ∷ [])) (finmap.get p.queues n)
    (λ (o : Option RequestQueue). waiting_connect (queue_in o) ≡ Some c
    → (waiting_connect (queue_of p n) ≡ Some c) ⊎ (waiting_connect (r ∷ []) ≡ Some c))
    (λ same is. at_own (tells_apart exact_unsigned n k same) (front_pushed (queue_of p k) r c is)) (λ other is. inl is)
    (ap (λ (o : Option RequestQueue). waiting_connect (queue_in o))
    (sym (finmap.get-insert nat_cmp_total p.queues k (queue_of p k ++ r ∷ []) n)) ∙ e)
  where
    at_own : n ≡ k → (waiting_connect (queue_of p k) ≡ Some c) ⊎ (waiting_connect (r ∷ []) ≡ Some c)
        → (waiting_connect (queue_of p n) ≡ Some c) ⊎ (waiting_connect (r ∷ []) ≡ Some c)
    at_own same (inl waits) = inl (ap (λ (m : ℕ). waiting_connect (queue_of p m)) same ∙ waits)
    at_own same (inr pushed) = inr pushed

-- A request that is no connect.
pub pushed_fronts : (p q : PendingTable) (k : ℕ) (r : PendingRequest) → waiting_connect (r ∷ []) ≡ None
    → q.queues ≡ finmap.insert p.queues k (queue_of p k ++ r ∷ []) → FewerFronts p q
pushed_fronts p q k r none is n c e =
    by (pushed_front p k r n c (ap (λ m. waiting_connect (queue_in (finmap.get m n))) (sym is) ∙ e))
  where
    by : (waiting_connect (queue_of p n) ≡ Some c) ⊎ (waiting_connect (r ∷ []) ≡ Some c)
        → waiting_connect (queue_of p n) ≡ Some c
    by (inl waits) = waits
    by (inr pushed) = never c (waiting_connect (r ∷ [])) none pushed

-- ---- requests that are answered

no_front : (q : RequestQueue) → list_any is_connect q ≡ false → waiting_connect q ≡ None
no_front [] none = refl
no_front (Connect c ∷ rest) none = absurd (true≢false none)
no_front (Write w ∷ rest) none = refl
no_front (Sync s ∷ rest) none = refl
no_front (Held frame ∷ rest) none = refl

-- The queue of a connection is another one now, which begins with no other connect.
put_fronts : (p : PendingTable) (k : ℕ) (q : RequestQueue)
    → ((c : PendingConnect) → waiting_connect q ≡ Some c → waiting_connect (queue_of p k) ≡ Some c)
    → FewerFronts p (put_queue p k q)
put_fronts p k q fewer n c e =
    cond_both (eq_by_cmp nat_cmp n k) q (queue_of p n)
    (λ (x : RequestQueue). waiting_connect x ≡ Some c → waiting_connect (queue_of p n) ≡ Some c)
    (λ same is. ap (λ (m : ℕ). waiting_connect (queue_of p m)) (tells_apart exact_unsigned n k same) ∙ fewer c is)
    (λ other is. is) (ap waiting_connect (sym (put_get p k q n)) ∙ e)

-- What is ready isn't a connect.
pub taken_fronts : (p : PendingTable) (k : ℕ) → PendingAgrees p → FewerFronts p (take_ready p k).after
taken_fronts p k a = put_fronts p k (without_front_if (ready_request q) q) (λ c. by (ready_request q) c)
  where
    q : RequestQueue
    q = queue_of p k

    by : (o : Option Ready) (c : PendingConnect) → waiting_connect (without_front_if o q) ≡ Some c
        → waiting_connect q ≡ Some c
    by None c e = e
    by (Some ready) c e =
        never c (waiting_connect (drop 1 q)) (no_front (drop 1 q) (a.queues k).connect_first) e

without_write : (q : RequestQueue) (c : PendingConnect) → list_any is_connect (drop 1 q) ≡ false
    → waiting_connect (without_oldest_write q) ≡ Some c → waiting_connect q ≡ Some c
without_write [] c none e = e
without_write (Connect d ∷ rest) c none e = e
without_write (Write w ∷ rest) c none e = never c (waiting_connect rest) (no_front rest none) e
without_write (Sync s ∷ rest) c none e = e
without_write (Held frame ∷ rest) c none e = e

pub answered_fronts : (p : PendingTable) (k : ℕ) (xid txn_kind : ℤ) → PendingAgrees p
    → FewerFronts p (answer_write p k xid txn_kind).after
answered_fronts p k xid txn_kind a = put_fronts p k (after_answer q xid txn_kind) (λ c.
    cond_both (is_answered (oldest_write q) xid txn_kind) (without_oldest_write q) q
    (λ (x : RequestQueue). waiting_connect x ≡ Some c → waiting_connect q ≡ Some c)
    (λ _. without_write q c (a.queues k).connect_first) (λ _ e. e))
  where
    q : RequestQueue
    q = queue_of p k

settled_front : (q : RequestQueue) (c : PendingConnect) → waiting_connect (with_oldest_settled q) ≡ Some c
    → waiting_connect q ≡ Some c
settled_front [] c e = e
settled_front (Connect d ∷ rest) c e = e
settled_front (Write w ∷ rest) c e = e
settled_front (Sync s ∷ rest) c e = by (is_unsettled (Sync s)) e
  where
    by : (b : Bool) → waiting_connect (cond b (Sync (record s { is_settled = true }) ∷ rest)
        (Sync s ∷ with_oldest_settled rest)) ≡ Some c → None ≡ Some c
    by true e = e
    by false e = e
settled_front (Held frame ∷ rest) c e = e

pub settled_fronts : (p : PendingTable) → FewerFronts p (settle_sync p).after
settled_fronts p = by p.syncs
  where
    by : (syncs : List (Option ℕ)) → FewerFronts p (settle_first p syncs).after
    by [] n c e = e
    by (None ∷ rest) n c e = e
    by (Some k ∷ rest) n c e =
        put_fronts p k (with_oldest_settled (queue_of p k)) (settled_front (queue_of p k)) n c e
