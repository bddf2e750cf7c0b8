-- The watches of a table, listed.
use Rattle.std.proofs.Common.{◌≡◌, ℕ, List, [], ◌∷◌, ◌++◌, Bool, true, false, cond, T, ◌||◌, ◌&&◌, map, refl, sym, ap, subst, ◌∙◌, append-nil, append_assoc}
use Rattle.std.specs.Prelude.{◌==◌}
use Rattle.std.specs.declared.cmp.Ordering.{Ordering}
use Rattle.std.specs.declared.cmp.Ordering.TheVariants.{Less, Equal, Greater}
use Rattle.std.specs.FinSet as set
use Rattle.std.specs.List.{list_any}
use Rattle.std.specs.Ordering.{eq_by_cmp, is_eq, nat_cmp, ordering_then}
use Rattle.std.proofs.lemmas.List.Folds.{list_any-append}
use Rattle.std.proofs.lemmas.Map.Lookups.{CmpEqualImpliesEq, exact_unsigned}
use Rattle.ephemerals.specs.Orders.{Bytes, Names, path_cmp}
use Rattle.ephemerals.proofs.Totals.{path_total}
use Rattle.pairs.specs.Pairs.{listed_pairs}
use Rattle.pairs.proofs.Ties.{tied_then}
use Rattle.watch_manager.specs.Pairs.{WatchPairs, watch_cmp}
use Rattle.watch_manager.specs.Summary.{table_rank, watched_cmp, watched_in}
use Rattle.watch_manager.specs.Ascending.{sorted_distinct, with_inserted_keys}
use Rattle.watch_manager.specs.Totals.{watched_total}
use Rattle.watch_manager.specs.Inner.Listing.{connection_rows, AddsInOrder}
use Rattle.watch_manager.specs.declared.watched.Table.{Table}
use Rattle.watch_manager.specs.declared.watched.Table.TheVariants.{Own, Child, Lasting}
use Rattle.watch_manager.specs.declared.watched.Watched.{Watched}
use Rattle.watch_manager.proofs.Totals.{watch_total, watch_exact}
use Rattle.watch_manager.proofs.Ascending.{same_ascending, inserted-ascending}

-- ---- the order of watches

first_ties : (a b : Ordering) → ordering_then a b ≡ Equal → a ≡ Equal
first_ties Less b e = e
first_ties Equal b e = refl
first_ties Greater b e = e

second_ties : (a b : Ordering) → ordering_then a b ≡ Equal → b ≡ Equal
second_ties Less b e = absurd (subst (λ r. T (is_eq r)) (sym e) tt)
second_ties Equal b e = e
second_ties Greater b e = absurd (subst (λ r. T (is_eq r)) (sym e) tt)

abbrev table_at : ℕ → Table
table_at n = cond (n == 0) Own (cond (n == 1) Child Lasting)

same_rank : (s t : Table) → nat_cmp (table_rank s) (table_rank t) ≡ Equal → s ≡ t
same_rank s t e = sym (again s) ∙ ap table_at (exact_unsigned (table_rank s) (table_rank t) e) ∙ again t
  where
    again : (t : Table) → table_at (table_rank t) ≡ t
    again Own = refl
    again Child = refl
    again Lasting = refl

-- It ties only equal watches.
pub watched_exact : CmpEqualImpliesEq watched_cmp
watched_exact x y tie = by x.table y.table tie
  where
    same : watch_cmp (x.path, x.connection) (y.path, y.connection) ≡ Equal
        → ◌≡◌ {A = Bytes × ℕ} (x.path, x.connection) (y.path, y.connection)
    same e = watch_exact (x.path, x.connection) (y.path, y.connection) e

    by : (s t : Table)
        → ordering_then (watch_cmp (x.path, x.connection) (y.path, y.connection))
        (nat_cmp (table_rank s) (table_rank t)) ≡ Equal
        → watched_in s (x.path, x.connection) ≡ watched_in t (y.path, y.connection)
    by s t e =
        λ i. watched_in
        (same_rank s t (second_ties (watch_cmp (x.path, x.connection) (y.path, y.connection))
        (nat_cmp (table_rank s) (table_rank t)) e) i)
        (same (first_ties (watch_cmp (x.path, x.connection) (y.path, y.connection))
        (nat_cmp (table_rank s) (table_rank t)) e) i)

-- ---- the watches that are listed

and_or : (a b k : Bool) → ((a && k) || (b && k)) ≡ ((a || b) && k)
and_or true true true = refl
and_or true true false = refl
and_or true false true = refl
and_or true false false = refl
and_or false b k = refl

abbrev same_table : Watched → Table → Bool
same_table q table = eq_by_cmp nat_cmp (table_rank q.table) (table_rank table)

-- The pair is in the table.
any-watched_in : (table : Table) (pairs : List (Bytes × ℕ)) (q : Watched)
    → list_any (eq_by_cmp watched_cmp q) (map (watched_in table) pairs)
    ≡ (list_any (eq_by_cmp watch_cmp (q.path, q.connection)) pairs && same_table q table)
any-watched_in table [] q = refl
any-watched_in table (p ∷ ps) q =
    (λ i. tied_then (watch_cmp (q.path, q.connection) p) (nat_cmp (table_rank q.table) (table_rank table)) i
    || any-watched_in table ps q i)
    ∙ and_or (eq_by_cmp watch_cmp (q.path, q.connection) p) (list_any (eq_by_cmp watch_cmp (q.path, q.connection)) ps)
    (same_table q table)

-- The paths of a connection, as they are listed.
of_connection : (connection : ℕ) (paths : List Bytes) (q : Bytes × ℕ)
    → list_any (eq_by_cmp watch_cmp q) (map (λ (path : Bytes). (path, connection)) paths)
    ≡ (list_any (eq_by_cmp path_cmp q.0) paths && eq_by_cmp nat_cmp q.1 connection)
of_connection connection [] q = refl
of_connection connection (p ∷ ps) q =
    (λ i. tied_then (path_cmp q.0 p) (nat_cmp q.1 connection) i || of_connection connection ps q i)
    ∙ and_or (eq_by_cmp path_cmp q.0 p) (list_any (eq_by_cmp path_cmp q.0) ps) (eq_by_cmp nat_cmp q.1 connection)

any-connection_rows : (table : Table) (connection : ℕ) (paths : List Bytes) (q : Watched)
    → list_any (eq_by_cmp watched_cmp q) (connection_rows table connection paths)
    ≡ ((list_any (eq_by_cmp path_cmp q.path) paths && eq_by_cmp nat_cmp q.connection connection) && same_table q table)
any-connection_rows table connection paths q =
    any-watched_in table (map (λ (path : Bytes). (path, connection)) paths) q
    ∙ ap (λ b. b && same_table q table) (of_connection connection paths (q.path, q.connection))

-- ---- the paths of a connection, added one by one

pub adds_paths : (table : Table) (connection : ℕ) (listed : List Bytes) (paths : Names) (old new : List Watched)
    → set.from_list listed ≡ paths
    → new ≡ with_inserted_keys watched_cmp old (connection_rows table connection listed)
    → AddsInOrder old (connection_rows table connection (set.items paths)) new
adds_paths table connection listed paths old new are is before sorted =
    is
    ∙ ap (λ keys. with_inserted_keys watched_cmp keys (connection_rows table connection listed)) sorted
    ∙ inserted-ascending watched_total watched_exact before (connection_rows table connection listed)
    ∙ same_ascending watched_total watched_exact (before ++ connection_rows table connection listed)
    (before ++ connection_rows table connection (set.items paths)) (λ q.
    list_any-append (eq_by_cmp watched_cmp q) before (connection_rows table connection listed)
    ∙ ap (λ b. list_any (eq_by_cmp watched_cmp q) before || b)
    (any-connection_rows table connection listed q
    ∙ ap (λ b. (b && eq_by_cmp nat_cmp q.connection connection) && same_table q table)
    (sym (set.contains-from_list path_total listed q.path) ∙ ap (λ s. set.contains s q.path) are
    ∙ set.contains-items paths q.path)
    ∙ sym (any-connection_rows table connection (set.items paths) q))
    ∙ sym (list_any-append (eq_by_cmp watched_cmp q) before (connection_rows table connection (set.items paths))))

-- ---- a table, added connection by connection

abbrev rows_of : Table → List (ℕ × Names) → List Watched
rows_of table entries = map (watched_in table) (listed_pairs entries)

-- Some of the watches were added, and the others are left.
pub record Adding (table : Table) (watches : WatchPairs) (old now : List Watched) (rest : List (ℕ × Names)) : Type 0 where
  pub all : List (ℕ × Names)
  pub are : set.from_list (listed_pairs all) ≡ watches
  pub done : List Watched
  pub split : rows_of table all ≡ done ++ rows_of table rest
  pub so_far : AddsInOrder old done now

pub begins : (table : Table) (watches : WatchPairs) (old : List Watched) (all : List (ℕ × Names))
    → set.from_list (listed_pairs all) ≡ watches → Adding table watches old old all
begins table watches old all are = record {
  all = all;
  are = are;
  done = [];
  split = refl;
  so_far = λ before is. is ∙ ap (sorted_distinct watched_cmp) (sym (append-nil before));
}

rows-append : (table : Table) (xs ys : List (Bytes × ℕ))
    → map (watched_in table) (xs ++ ys) ≡ map (watched_in table) xs ++ map (watched_in table) ys
rows-append table [] ys = refl
rows-append table (x ∷ xs) ys = ap (λ rows. watched_in table x ∷ rows) (rows-append table xs ys)

pub adds : (table : Table) (watches : WatchPairs) (old now new : List Watched) (connection : ℕ) (paths : Names)
    (rest : List (ℕ × Names)) → Adding table watches old now ((connection, paths) ∷ rest)
    → AddsInOrder now (connection_rows table connection (set.items paths)) new
    → Adding table watches old new rest
adds table watches old now new connection paths rest h more =
    let rows = connection_rows table connection (set.items paths) in record {
      all = h.all;
      are = h.are;
      done = h.done ++ rows;
      split =
          h.split
          ∙ ap (λ others. h.done ++ others)
          (rows-append table (map (λ (path : Bytes). (path, connection)) (set.items paths)) (listed_pairs rest))
          ∙ sym (append_assoc h.done rows (rows_of table rest));
      so_far =
          λ before is. more (before ++ h.done) (h.so_far before is)
          ∙ ap (sorted_distinct watched_cmp) (append_assoc before h.done rows);
    }

-- The rows of a table are its watches.
any-table : (table : Table) (es : List (ℕ × Names)) (watches : WatchPairs)
    → set.from_list (listed_pairs es) ≡ watches
    → (q : Watched) → list_any (eq_by_cmp watched_cmp q) (rows_of table es)
    ≡ list_any (eq_by_cmp watched_cmp q) (map (watched_in table) (set.items watches))
any-table table es watches are q =
    any-watched_in table (listed_pairs es) q
    ∙ ap (λ b. b && same_table q table)
    (sym (set.contains-from_list watch_total (listed_pairs es) (q.path, q.connection))
    ∙ ap (λ s. set.contains s (q.path, q.connection)) are
    ∙ set.contains-items watches (q.path, q.connection))
    ∙ sym (any-watched_in table (set.items watches) q)

pub ends : (table : Table) (watches : WatchPairs) (old now : List Watched) → Adding table watches old now []
    → AddsInOrder old (map (watched_in table) (set.items watches)) now
ends table watches old now h before is =
    h.so_far before is
    ∙ ap (λ rows. sorted_distinct watched_cmp (before ++ rows)) (sym (h.split ∙ append-nil h.done))
    ∙ same_ascending watched_total watched_exact (before ++ rows_of table h.all)
    (before ++ map (watched_in table) (set.items watches)) (λ q.
    list_any-append (eq_by_cmp watched_cmp q) before (rows_of table h.all)
    ∙ ap (λ b. list_any (eq_by_cmp watched_cmp q) before || b) (any-table table h.all watches h.are q)
    ∙ sym (list_any-append (eq_by_cmp watched_cmp q) before (map (watched_in table) (set.items watches))))
