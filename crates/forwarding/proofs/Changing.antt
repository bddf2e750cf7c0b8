-- The requests of all connections: what a change of one queue leaves.
use Rattle.std.proofs.Common.{◌≡◌, ◌≢◌, ◌⊎◌, inl, inr, ℕ, true, false, [], ◌∷◌, Option, Some, None, refl, sym, ap, ◌∙◌}
use Rattle.std.specs.Ordering.{eq_by_cmp, nat_cmp}
use Rattle.std.specs.Cmp.{nat_cmp_total}
use Rattle.std.proofs.lemmas.Map.Lookups.{exact_unsigned}
use Rattle.std.specs.FinMap as finmap
use Rattle.forwarding.specs.Queue.{RequestQueue}
use Rattle.forwarding.specs.State.{RequestQueues}
use Rattle.forwarding.specs.Pending.{queue_in, with_queue}
use Rattle.forwarding.specs.Inner.{has_empty, with_changed, without_empty}
use Rattle.values.proofs.Keyed.{other, same_or_other, inserted, inserted_elsewhere, removed, removed_elsewhere, insert_same, remove_absent, remove_inserted}

-- The queue is changed, and the connection is taken out of the map if it has no request left.
pub changed : (queues mid new : RequestQueues) (n : ℕ) (change : RequestQueue → RequestQueue) → change [] ≡ []
    → mid ≡ with_changed queues n change (finmap.get queues n) → new ≡ without_empty mid n (finmap.get mid n)
    → new ≡ with_queue queues n (change (queue_in (finmap.get queues n)))
changed queues mid new n change none f g = by (finmap.get queues n) refl f
  where
    left : (q : RequestQueue) → finmap.get mid n ≡ Some q → mid ≡ finmap.insert queues n q → new ≡ with_queue queues n q
    left [] at is =
        g ∙ ap (without_empty mid n) at ∙ ap (λ m. finmap.remove m n) is
        ∙ remove_inserted nat_cmp_total exact_unsigned queues n []
    left (r ∷ rest) at is = g ∙ ap (without_empty mid n) at ∙ is

    by : (o : Option RequestQueue) → finmap.get queues n ≡ o → mid ≡ with_changed queues n change o
        → new ≡ with_queue queues n (change (queue_in o))
    by None at is =
        let absent : finmap.get mid n ≡ None = ap (λ m. finmap.get m n) is ∙ at in
        g ∙ ap (without_empty mid n) absent ∙ is
        ∙ sym (remove_absent nat_cmp_total exact_unsigned queues n at)
        ∙ ap (with_queue queues n) (sym none)
    by (Some q) at is =
        left (change q)
        (ap (λ m. finmap.get m n) is ∙ inserted nat_cmp_total exact_unsigned queues n (change q)) is

pub emptied : (queues new : RequestQueues) (n : ℕ) → has_empty (finmap.get queues n) ≡ true
    → new ≡ finmap.remove queues n → new ≡ without_empty queues n (finmap.get queues n)
emptied queues new n h f = by (finmap.get queues n) h
  where
    by : (o : Option RequestQueue) → has_empty o ≡ true → new ≡ without_empty queues n o
    by None e = cc
    by (Some []) e = f
    by (Some (r ∷ rest)) e = cc

-- ---- the queue of a connection after a change

pub queue_put : (queues : RequestQueues) (n : ℕ) (q : RequestQueue)
    → queue_in (finmap.get (with_queue queues n q) n) ≡ q
queue_put queues n [] = ap queue_in (removed nat_cmp_total exact_unsigned queues n)
queue_put queues n (r ∷ rest) = ap queue_in (inserted nat_cmp_total exact_unsigned queues n (r ∷ rest))

pub put_elsewhere : (queues : RequestQueues) (n : ℕ) (q : RequestQueue) (m : ℕ) → m ≢ n
    → finmap.get (with_queue queues n q) m ≡ finmap.get queues m
put_elsewhere queues n [] m apart =
    removed_elsewhere nat_cmp_total exact_unsigned queues n m (other nat_cmp_total exact_unsigned m n apart)
put_elsewhere queues n (r ∷ rest) m apart =
    inserted_elsewhere nat_cmp_total exact_unsigned queues n (r ∷ rest) m (other nat_cmp_total exact_unsigned m n apart)

pub queue_inserted : (queues : RequestQueues) (n : ℕ) (q : RequestQueue)
    → queue_in (finmap.get (finmap.insert queues n q) n) ≡ q
queue_inserted queues n q = ap queue_in (inserted nat_cmp_total exact_unsigned queues n q)

pub insert_elsewhere : (queues : RequestQueues) (n : ℕ) (q : RequestQueue) (m : ℕ) → m ≢ n
    → finmap.get (finmap.insert queues n q) m ≡ finmap.get queues m
insert_elsewhere queues n q m apart =
    inserted_elsewhere nat_cmp_total exact_unsigned queues n q m (other nat_cmp_total exact_unsigned m n apart)

-- A queue that is put back as it was changes nothing, where no queue is empty.
pub put_same : (queues : RequestQueues) (n : ℕ) → finmap.get queues n ≢ Some []
    → with_queue queues n (queue_in (finmap.get queues n)) ≡ queues
put_same queues n filled = by (finmap.get queues n) refl
  where
    by : (o : Option RequestQueue) → finmap.get queues n ≡ o → with_queue queues n (queue_in o) ≡ queues
    by None at = remove_absent nat_cmp_total exact_unsigned queues n at
    by (Some []) at = absurd (filled at)
    by (Some (r ∷ rest)) at = insert_same nat_cmp_total exact_unsigned queues n (r ∷ rest) at

-- No queue is empty after that, either.
pub put_filled : (queues : RequestQueues) (n : ℕ) (q : RequestQueue)
    → ((m : ℕ) → finmap.get queues m ≢ Some []) → (m : ℕ) → finmap.get (with_queue queues n q) m ≢ Some []
put_filled queues n q filled m e = by (same_or_other nat_cmp_total exact_unsigned m n)
  where
    none-some : ◌≡◌ {A = Option RequestQueue} None (Some []) → ⊥
    none-some f = cc

    here : (p : RequestQueue) → finmap.get (with_queue queues n p) n ≡ Some [] → ⊥
    here [] f = none-some (sym (removed nat_cmp_total exact_unsigned queues n) ∙ f)
    here (r ∷ rest) f =
        let g : Some (r ∷ rest) ≡ Some [] = sym (inserted nat_cmp_total exact_unsigned queues n (r ∷ rest)) ∙ f in cc

    there : (p : RequestQueue) → eq_by_cmp nat_cmp m n ≡ false → finmap.get (with_queue queues n p) m ≡ Some [] → ⊥
    there [] f g = filled m (sym (removed_elsewhere nat_cmp_total exact_unsigned queues n m f) ∙ g)
    there (r ∷ rest) f g =
        filled m (sym (inserted_elsewhere nat_cmp_total exact_unsigned queues n (r ∷ rest) m f) ∙ g)

    by : (m ≡ n) ⊎ (eq_by_cmp nat_cmp m n ≡ false) → ⊥
    by (inl same) = here q (sym (ap (finmap.get (with_queue queues n q)) same) ∙ e)
    by (inr f) = there q f e
