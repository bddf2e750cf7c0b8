-- A transaction answers one write, and a SYNC settles one sync.
use Rattle.std.proofs.Common.{◌≡◌, ℕ, suc, ℤ, Bool, true, false, cond, ◌||◌, [], ◌∷◌, ◌++◌, Option, Some, None, refl, sym, ap, subst, ◌∙◌, arith}
use Rattle.std.specs.List.{list_any}
use Rattle.forwarding.specs.declared.request.WriteKind.{WriteKind}
use Rattle.forwarding.specs.declared.request.PendingWrite.{PendingWrite}
use Rattle.forwarding.specs.declared.request.PendingRequest.{PendingRequest}
use Rattle.forwarding.specs.declared.request.PendingRequest.TheVariants.{Connect, Write, Sync, Held}
use Rattle.forwarding.specs.Queue.{RequestQueue, is_write, is_answered_by, oldest_write, is_answered, kind_in, answered_write, without_oldest_write, after_answer, is_unsettled, unsettled_count, settled_request, with_oldest_settled}
use Rattle.forwarding.specs.State.{PendingTable}
use Rattle.forwarding.specs.Pending.{queue_of, put_queue}
use Rattle.forwarding.specs.Laws.{IsAnswered, AnswersAreMatched, IsSettledIn}
use Rattle.std.proofs.lemmas.Option.{none-some}
use Rattle.values.proofs.Keyed.{some-some}
use Rattle.forwarding.proofs.Changing.{queue_put, put_same}

-- Where the oldest write stands.
record OldestWrite (q : RequestQueue) (w : PendingWrite) : Type 0 where
  before : RequestQueue
  later : RequestQueue
  queue : q ≡ before ++ Write w ∷ later
  oldest : list_any is_write before ≡ false
  left : without_oldest_write q ≡ before ++ later

passing : (r : PendingRequest) (rest : RequestQueue) (w : PendingWrite) → is_write r ≡ false
    → without_oldest_write (r ∷ rest) ≡ r ∷ without_oldest_write rest → OldestWrite rest w → OldestWrite (r ∷ rest) w
passing r rest w e f more = record {
  before = r ∷ more.before;
  later = more.later;
  queue = ap (λ q. r ∷ q) more.queue;
  oldest = ap (λ b. b || list_any is_write more.before) e ∙ more.oldest;
  left = f ∙ ap (λ q. r ∷ q) more.left;
}

found : (q : RequestQueue) (w : PendingWrite) → oldest_write q ≡ Some w → OldestWrite q w
found [] w e = absurd (none-some w e)
found (Connect c ∷ rest) w e = passing (Connect c) rest w refl refl (found rest w e)
found (Write v ∷ rest) w e = record {
  before = [];
  later = rest;
  queue = ap (λ x. Write x ∷ rest) (some-some e);
  oldest = refl;
  left = refl;
}
found (Sync s ∷ rest) w e = passing (Sync s) rest w refl refl (found rest w e)
found (Held f ∷ rest) w e = passing (Held f) rest w refl refl (found rest w e)

answered_as : (q : RequestQueue) (xid txn_kind : ℤ) (kind : WriteKind) → answered_write q xid txn_kind ≡ Some kind
    → IsAnswered q xid txn_kind kind (after_answer q xid txn_kind)
answered_as q xid txn_kind kind e = by (oldest_write q) refl e
  where
    matched : (w : PendingWrite) → oldest_write q ≡ Some w → (b : Bool) → is_answered_by w xid txn_kind ≡ b
        → cond b (Some w.kind) None ≡ Some kind
        → IsAnswered q xid txn_kind kind (after_answer q xid txn_kind)
    matched w at true f g =
        let there = found q w at in
        record {
          before = there.before;
          later = there.later;
          write = w;
          queue = there.queue;
          oldest = there.oldest;
          matched = f;
          same_kind = some-some g;
          left = ap (λ o. cond (is_answered o xid txn_kind) (without_oldest_write q) q) at
              ∙ ap (λ b. cond b (without_oldest_write q) q) f ∙ there.left;
        }
    matched w at false f g = absurd (none-some kind g)

    by : (o : Option PendingWrite) → oldest_write q ≡ o
        → cond (is_answered o xid txn_kind) (kind_in o) None ≡ Some kind
        → IsAnswered q xid txn_kind kind (after_answer q xid txn_kind)
    by None at f = absurd (none-some kind f)
    by (Some w) at f = matched w at (is_answered_by w xid txn_kind) refl f

unanswered : (q : RequestQueue) (xid txn_kind : ℤ) → answered_write q xid txn_kind ≡ None
    → after_answer q xid txn_kind ≡ q
unanswered q xid txn_kind e = by (oldest_write q) e
  where
    by : (o : Option PendingWrite) → cond (is_answered o xid txn_kind) (kind_in o) None ≡ None
        → cond (is_answered o xid txn_kind) (without_oldest_write q) q ≡ q
    by None f = refl
    by (Some w) f =
        elim (is_answered_by w xid txn_kind) as (λ b. cond b (Some w.kind) None ≡ None
        → cond b (without_oldest_write q) q ≡ q) [
          | true ↦ λ g. absurd (none-some w.kind (sym g))
          | false ↦ λ g. refl
        ] f

pub answers_are_matched : AnswersAreMatched
answers_are_matched = record {
  answered = λ s n xid txn_kind kind a e.
      subst (λ q. IsAnswered (queue_of s n) xid txn_kind kind q)
      (sym (queue_put s.queues n (after_answer (queue_of s n) xid txn_kind)))
      (answered_as (queue_of s n) xid txn_kind kind e);
  unanswered = λ s n xid txn_kind a e.
      (λ i. (answer_of s n (unanswered (queue_of s n) xid txn_kind e i)))
      ∙ (λ i. record s { queues = put_same s.queues n (a.none_empty n) i });
}
  where
    answer_of : (s : PendingTable) (n : ℕ) → RequestQueue → PendingTable
    answer_of s n q = put_queue s n q

-- ---- the oldest sync that isn't settled

settled_behind : (r : PendingRequest) (rest : RequestQueue) → is_unsettled r ≡ false
    → IsSettledIn rest (with_oldest_settled rest) → IsSettledIn (r ∷ rest) (r ∷ with_oldest_settled rest)
settled_behind r rest e more = record {
  before = r ∷ more.before;
  sync = more.sync;
  later = more.later;
  queue = ap (λ q. r ∷ q) more.queue;
  oldest = ap (λ b. b || list_any is_unsettled more.before) e ∙ more.oldest;
  unsettled = more.unsettled;
  settled = ap (λ q. r ∷ q) more.settled;
}

pub settled_in : (q : RequestQueue) (n : ℕ) → suc n ≡ unsettled_count q → IsSettledIn q (with_oldest_settled q)
settled_in [] n e = absurd (omega arith)
settled_in (r ∷ rest) n e =
    elim (is_unsettled r) as (λ b. is_unsettled r ≡ b → suc n ≡ cond b (suc (unsettled_count rest)) (unsettled_count rest)
    → IsSettledIn (r ∷ rest) (cond b (settled_request r ∷ rest) (r ∷ with_oldest_settled rest))) [
      | true ↦ λ f g. record {
        before = [];
        sync = r;
        later = rest;
        queue = refl;
        oldest = refl;
        unsettled = f;
        settled = refl;
      }
      | false ↦ λ f g. settled_behind r rest f (settled_in rest n g)
    ] refl e
