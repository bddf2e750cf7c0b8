-- Whether there is any request at all.
use Rattle.std.proofs.Common.{◌≡◌, ℕ, suc, Bool, true, false, List, [], ◌∷◌, length, Option, Some, None, refl, sym, ap, ◌∙◌, arith}
use Rattle.std.specs.Prelude.{◌==◌}
use Rattle.std.specs.Ordering.{nat_cmp}
use Rattle.std.specs.Cmp.{IsTotalOrder, nat_cmp_total}
use Rattle.std.specs.declared.cmp.Ordering.{Ordering}
use Rattle.std.proofs.lemmas.Bool.{eqb-true, eq-eqb, ne_eqb}
use Rattle.std.proofs.lemmas.Map.Lookups.{exact_unsigned, CmpEqualImpliesEq}
use Rattle.std.specs.FinMap as finmap
use Rattle.forwarding.specs.Queue.{RequestQueue}
use Rattle.forwarding.specs.State.{PendingTable}
use Rattle.forwarding.specs.Pending.{queue_in, queue_of, has_no_request}
use Rattle.forwarding.specs.Agreement.{PendingAgrees}
use Rattle.forwarding.specs.Laws.{EmptinessIsTold}
use Rattle.std.proofs.lemmas.Option.{none-some}
use Rattle.values.proofs.Keyed.{inserted}

module _ {K X : Type 0} {R : K → K → Ordering} (o : IsTotalOrder R) (exact : CmpEqualImpliesEq R) where
  not_empty : (m : finmap.FinMap R X) (k : K) (v : X) → finmap.len (finmap.insert m k v) ≡ 0 → ⊥
  not_empty m k v e =
      none-some v
      (sym (finmap.get-empty R k) ∙ sym (ap (λ n. finmap.get n k) (finmap.empty_of_len (finmap.insert m k v) e))
      ∙ inserted o exact m k v)

  -- A map without an entry, read as a finite map, is the empty one, and no other is.
  pub none_seen : (es : List (K × X)) → (length es == 0) ≡ (finmap.len (finmap.from_entries {R = R} es) == 0)
  none_seen [] = ap (λ n. n == 0) (sym (finmap.len-empty R X))
  none_seen (e ∷ es) = by (finmap.len (finmap.insert rest e.0 e.1) == 0) refl
    where
      rest : finmap.FinMap R X
      rest = finmap.from_entries es

      by : (b : Bool) → (finmap.len (finmap.insert rest e.0 e.1) == 0) ≡ b
          → (suc (length es) == 0) ≡ (finmap.len (finmap.insert rest e.0 e.1) == 0)
      by true h = absurd (not_empty rest e.0 e.1 (eqb-true _ _ h))
      by false h = ne_eqb (suc (length es)) 0 (omega arith) ∙ sym h

-- ---- of all connections

pub no_requests : (s : PendingTable) → has_no_request s ≡ true → (n : ℕ) → queue_of s n ≡ []
no_requests s none n =
    ap (λ m. queue_in (finmap.get m n)) (finmap.empty_of_len s.queues (eqb-true (finmap.len s.queues) 0 none))
    ∙ ap queue_in (finmap.get-empty nat_cmp n)

none_at : (found : Option RequestQueue) → (found ≡ Some [] → ⊥) → queue_in found ≡ [] → found ≡ None
none_at None h e = refl
none_at (Some q) h e = absurd (h (ap Some e))

all_empty : (s : PendingTable) → PendingAgrees s → ((n : ℕ) → queue_of s n ≡ []) → has_no_request s ≡ true
all_empty s agrees all =
    eq-eqb (finmap.len s.queues) 0
    (ap finmap.len (finmap.same_map nat_cmp_total exact_unsigned s.queues finmap.empty
    (λ n. none_at (finmap.get s.queues n) (agrees.none_empty n) (all n) ∙ sym (finmap.get-empty nat_cmp n)))
    ∙ finmap.len-empty nat_cmp RequestQueue)

pub emptiness_is_told : EmptinessIsTold
emptiness_is_told = record { none = no_requests; all = all_empty }
