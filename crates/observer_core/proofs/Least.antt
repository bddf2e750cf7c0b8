-- The least of the timeouts of some sessions.
use Rattle.std.proofs.Common.{◌≡◌, ◌⊎◌, inl, inr, ℤ, Bool, true, false, ◌||◌, List, [], ◌∷◌, Option, Some, None, refl, sym, ap, subst, ◌∙◌, arith}
use Rattle.std.specs.Prelude.{is_some, int_lt}
use Rattle.std.proofs.lemmas.Bool.{cond_both}
use Rattle.std.proofs.lemmas.Int.{ints}
use Rattle.std.specs.List.{list_any}
use Rattle.std.specs.Option.{unwrap_or}
use Rattle.std.specs.Int.{int_min}
use Rattle.std.specs.Int.Signed.{◌≤ℤ◌, ≤ℤ_refl}
use Rattle.std.specs.Ordering.{eq_by_cmp, int_cmp, is_eq}
use Rattle.std.specs.Cmp.{int_cmp_total}
use Rattle.std.proofs.lemmas.Cmp.{tied_itself}
use Rattle.std.proofs.lemmas.Map.Lookups.{exact_signed}
use Rattle.std.proofs.lemmas.Map.Views.{tells_apart}
use Rattle.std.specs.FinMap as finmap
use mathlib.Core.Bool.{true≢false}
use Rattle.data_tree.specs.Sessions.{SessionTimeouts}
use Rattle.world.specs.World.{World}
use Rattle.observer_core.specs.Timeouts.{HasTimeout, IsLeast, IsLeastTimeout}
use Rattle.observer_core.specs.Inner.{lesser_timeout}

-- The least of this one and of the timeouts of the sessions.
abbrev pub least_of : SessionTimeouts → Option ℤ → List ℤ → Option ℤ
least_of timeouts least [] = least
least_of timeouts least (session ∷ others) = least_of timeouts (lesser_timeout least (finmap.get timeouts session)) others

-- ---- the least number of which something holds

module _ (P Q : ℤ → Type 0) where
  -- It is the least of which anything else holds that holds of the same numbers.
  least_same : ((x : ℤ) → P x → Q x) → ((x : ℤ) → Q x → P x) → (o : Option ℤ) → IsLeast P o → IsLeast Q o
  least_same there back None none = λ x q. none x (back x q)
  least_same there back (Some least) is = (there least is.0, λ x q. is.1 x (back x q))

min_first : (x y : ℤ) → int_min x y ≤ℤ x
min_first x y =
    cond_both (int_lt y x) y x (λ r. r ≤ℤ x) (λ less. omega (arith, ints)) (λ other. ≤ℤ_refl x)

min_second : (x y : ℤ) → int_min x y ≤ℤ y
min_second x y =
    cond_both (int_lt y x) y x (λ r. r ≤ℤ y) (λ less. ≤ℤ_refl y) (λ other. omega (arith, ints))

min_either : (x y : ℤ) → (int_min x y ≡ x) ⊎ (int_min x y ≡ y)
min_either x y =
    cond_both (int_lt y x) y x (λ r. (r ≡ x) ⊎ (r ≡ y)) (λ less. inr refl) (λ other. inl refl)

-- One more number, or none.
abbrev With : (ℤ → Type 0) → Option ℤ → ℤ → Type 0
With P o x = P x ⊎ (o ≡ Some x)

with_one : (P : ℤ → Type 0) (least other : Option ℤ) → IsLeast P least
    → IsLeast (With P other) (lesser_timeout least other)
with_one P None None none = by
  where
    by : (x : ℤ) → With P None x → ⊥
    by x (inl p) = none x p
    by x (inr e) = true≢false (sym (ap is_some e))
with_one P None (Some y) none = (inr refl, by)
  where
    by : (x : ℤ) → With P (Some y) x → y ≤ℤ x
    by x (inl p) = absurd (none x p)
    by x (inr e) = subst (λ (z : ℤ). y ≤ℤ z) (ap (λ (o : Option ℤ). unwrap_or o y) e) (≤ℤ_refl y)
with_one P (Some l) None is = (inl is.0, by)
  where
    by : (x : ℤ) → With P None x → l ≤ℤ x
    by x (inl p) = is.1 x p
    by x (inr e) = absurd (true≢false (sym (ap is_some e)))
with_one P (Some l) (Some y) is = (reached (min_either l y), by)
  where
    reached : (int_min l y ≡ l) ⊎ (int_min l y ≡ y) → With P (Some y) (int_min l y)
    reached (inl e) = inl (subst P (sym e) is.0)
    reached (inr e) = inr (ap Some (sym e))

    by : (x : ℤ) → With P (Some y) x → int_min l y ≤ℤ x
    by x (inl p) = let a = min_first l y in let b = is.1 x p in omega (arith, ints)
    by x (inr e) =
        subst (λ (z : ℤ). int_min l y ≤ℤ z) (ap (λ (o : Option ℤ). unwrap_or o y) e) (min_second l y)

-- ---- the sessions of a list

abbrev is_among : List ℤ → ℤ → Bool
is_among sessions session = list_any (eq_by_cmp int_cmp session) sessions

-- One of the sessions has this timeout.
record OneHas (timeouts : SessionTimeouts) (sessions : List ℤ) (time_out : ℤ) : Type 0 where
  session : ℤ
  among : is_among sessions session ≡ true
  timeout : finmap.get timeouts session ≡ Some time_out

or_second : (a b : Bool) → b ≡ true → (a || b) ≡ true
or_second true b e = refl
or_second false b e = e

module _ (timeouts : SessionTimeouts) where
  abbrev Until : (ℤ → Type 0) → List ℤ → ℤ → Type 0
  Until P sessions x = P x ⊎ OneHas timeouts sessions x

  first_has : (session : ℤ) (others : List ℤ) (x : ℤ) → finmap.get timeouts session ≡ Some x
      → OneHas timeouts (session ∷ others) x
  first_has session others x e = record {
    session = session;
    among =
        ap (λ b. b || is_among others session) (ap is_eq (tied_itself int_cmp_total session));
    timeout = e;
  }

  later_has : (session : ℤ) (others : List ℤ) (x : ℤ) → OneHas timeouts others x → OneHas timeouts (session ∷ others) x
  later_has session others x h = record {
    session = h.session;
    among = or_second (eq_by_cmp int_cmp h.session session) (is_among others h.session) h.among;
    timeout = h.timeout;
  }

  one_or_later : (session : ℤ) (others : List ℤ) (x : ℤ) → OneHas timeouts (session ∷ others) x
      → (finmap.get timeouts session ≡ Some x) ⊎ OneHas timeouts others x
  one_or_later session others x h = by (eq_by_cmp int_cmp h.session session) refl h.among
    where
      by : (b : Bool) → eq_by_cmp int_cmp h.session session ≡ b → (b || is_among others h.session) ≡ true
          → (finmap.get timeouts session ≡ Some x) ⊎ OneHas timeouts others x
      by true same e =
          inl (ap (finmap.get timeouts) (sym (tells_apart exact_signed h.session session same)) ∙ h.timeout)
      by false other e = inr (record { session = h.session; among = e; timeout = h.timeout })

  least_is : (P : ℤ → Type 0) (least : Option ℤ) (sessions : List ℤ) → IsLeast P least
      → IsLeast (Until P sessions) (least_of timeouts least sessions)
  least_is P least [] is = least_same P (Until P []) (λ x p. inl p) back least is
    where
      back : (x : ℤ) → Until P [] x → P x
      back x (inl p) = p
      back x (inr h) = absurd (true≢false (sym h.among))
  least_is P least (session ∷ others) is =
      least_same (Until Q others) (Until P (session ∷ others)) there back
      (least_of timeouts (lesser_timeout least own) others)
      (least_is Q (lesser_timeout least own) others (with_one P least own is))
    where
      own : Option ℤ
      own = finmap.get timeouts session

      Q : ℤ → Type 0
      Q = With P own

      there : (x : ℤ) → Until Q others x → Until P (session ∷ others) x
      there x (inl (inl p)) = inl p
      there x (inl (inr e)) = inr (first_has session others x e)
      there x (inr h) = inr (later_has session others x h)

      back : (x : ℤ) → Until P (session ∷ others) x → Until Q others x
      back x (inl p) = inl (inl p)
      back x (inr h) = of (one_or_later session others x h)
        where
          of : (finmap.get timeouts session ≡ Some x) ⊎ OneHas timeouts others x → Until Q others x
          of (inl e) = inl (inr e)
          of (inr h) = inr h

-- The sessions are those that connections have here.
pub least_timeout_is : (w : World) (sessions : List ℤ)
    → ((session : ℤ) → is_among sessions session ≡ finmap.contains_key w.clients.sessions.owners session)
    → IsLeastTimeout w (least_of w.replica.tree.sessions None sessions)
least_timeout_is w sessions members =
    least_same (Until timeouts (λ x. ⊥) sessions) (HasTimeout w) there back (least_of timeouts None sessions)
    (least_is timeouts (λ x. ⊥) None sessions (λ x p. p))
  where
    timeouts : SessionTimeouts
    timeouts = w.replica.tree.sessions

    there : (x : ℤ) → Until timeouts (λ x. ⊥) sessions x → HasTimeout w x
    there x (inl p) = absurd p
    there x (inr h) =
        record { session = h.session; connected = sym (members h.session) ∙ h.among; timeout = h.timeout }

    back : (x : ℤ) → HasTimeout w x → Until timeouts (λ x. ⊥) sessions x
    back x h = inr (record { session = h.session; among = members h.session ∙ h.connected; timeout = h.timeout })
