-- A list in which nothing is found, and a table without a watch.
use Rattle.std.proofs.Common.{◌≡◌, List, [], ◌∷◌, false, ◌||◌, refl, sym, ap, ◌∙◌}
use Rattle.std.specs.declared.cmp.Ordering.{Ordering}
use mathlib.Core.Bool.{true≢false}
use Rattle.std.specs.List.{list_any}
use Rattle.std.specs.Ordering.{eq_by_cmp, is_eq}
use Rattle.std.specs.Cmp.{IsTotalOrder, tied_itself}
use Rattle.std.specs.FinSet as set
use Rattle.ephemerals.specs.Orders.{Bytes}
use Rattle.watch_manager.specs.Pairs.{watch_cmp, watchers_of}
use Rattle.watch_manager.proofs.Watchers.{no_watcher}

-- A list in which nothing is found is empty.
pub nothing_found : {K : Type 0} {R : K → K → Ordering} → IsTotalOrder R → (xs : List K)
    → ((q : K) → list_any (eq_by_cmp R q) xs ≡ false) → xs ≡ []
nothing_found o [] none = refl
nothing_found {R = R} o (x ∷ xs) none =
    absurd (true≢false (sym (ap (λ r. is_eq r || list_any (eq_by_cmp R x) xs) (tied_itself o x)) ∙ none x))

pub nobody : (path : Bytes) → watchers_of path set.empty ≡ set.empty
nobody path = no_watcher path set.empty (λ c. set.contains-empty watch_cmp (path, c))
