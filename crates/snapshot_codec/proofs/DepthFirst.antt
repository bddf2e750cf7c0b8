-- A map in the order of the walk, filled with the nodes one by one, in any order.
use Rattle.std.proofs.Common.{◌≡◌, List, [], ◌∷◌, ◌++◌, length, cond, false, Some, None, refl, sym, ap, subst, ◌∙◌, arith, append_assoc, append-nil}
use Rattle.std.specs.Cmp.{eq_by_cmp_equiv}
use Rattle.std.specs.FinMap as finmap
use Rattle.std.specs.FinMap.{find, from_entries_push}
use Rattle.std.specs.List.{AllByRecursion, IsDistinct}
use Rattle.std.specs.Map.{keys_of}
use Rattle.std.specs.Ordering.{eq_by_cmp}
use Rattle.ephemerals.specs.Orders.{Bytes, path_cmp}
use Rattle.ephemerals.proofs.Totals.{path_total}
use Rattle.node_map.specs.Nodes.{Nodes}
use Rattle.node_map.specs.declared.node.Node.{Node}
use Rattle.snapshot_codec.specs.Written.{walk_cmp, walk_of}
use Rattle.snapshot_codec.proofs.WalkOrder.{walk_total, walk_exact, same_find}

no_entries : {A : Type 0} (xs : List A) → length xs ≡ 0 → xs ≡ []
no_entries [] e = refl
no_entries (x ∷ xs) e = absurd (omega arith)

abbrev pub AreOnce : List (Bytes × Node) → Type 0
AreOnce es = IsDistinct (eq_by_cmp path_cmp) (keys_of es)

-- A path that comes once isn't found before its place.
none_ahead : (ahead : List (Bytes × Node)) (x : Bytes × Node) (rest : List (Bytes × Node)) → AreOnce (ahead ++ x ∷ rest)
    → find path_cmp x.0 ahead ≡ None
unfolding IsDistinct
none_ahead [] x rest once = refl
none_ahead (a ∷ ahead) x rest once =
    ap (λ b. cond b (Some a.1) (find path_cmp x.0 ahead))
    ((eq_by_cmp_equiv path_total).symm x.0 a.0 ∙ later ahead once.0)
    ∙ none_ahead ahead x rest once.1
  where
    later : (es : List (Bytes × Node))
        → AllByRecursion (λ p. eq_by_cmp path_cmp a.0 p ≡ false) (keys_of (es ++ x ∷ rest))
        → eq_by_cmp path_cmp a.0 x.0 ≡ false
    later [] apart = apart.0
    later (e ∷ es) apart = later es apart.1

module _ (nodes : Nodes) where
  -- The rows are those of the nodes before the rest.
  pub record SoFar (rows rest : List (Bytes × Node)) : Type 0 where
    ahead : List (Bytes × Node)
    all : finmap.from_entries {R = path_cmp} (ahead ++ rest) ≡ nodes
    once : AreOnce (ahead ++ rest)
    filled : rows ≡ finmap.entries (finmap.from_entries {R = walk_cmp} ahead)

  pub begins : (rows all : List (Bytes × Node)) → rows ≡ [] → finmap.from_entries {R = path_cmp} all ≡ nodes
      → IsDistinct (eq_by_cmp path_cmp) (keys_of all) → SoFar rows all
  begins rows all none is once = record {
    ahead = [];
    all = is;
    once = once;
    filled =
        none
        ∙ sym (no_entries (finmap.entries (finmap.empty {R = walk_cmp}))
        (sym (finmap.len-entries (finmap.empty {R = walk_cmp})) ∙ finmap.len-empty walk_cmp Node));
  }

  pub takes : (rows rest : List (Bytes × Node)) (x : Bytes × Node) → SoFar rows (x ∷ rest)
      → SoFar (finmap.put walk_cmp x.0 x.1 rows) rest
  takes rows rest x l =
      let moved : (l.ahead ++ x ∷ []) ++ rest ≡ l.ahead ++ x ∷ rest = append_assoc l.ahead (x ∷ []) rest in
      record {
        ahead = l.ahead ++ x ∷ [];
        all = ap (λ (es : List (Bytes × Node)). finmap.from_entries {R = path_cmp} es) moved ∙ l.all;
        once = subst (λ (es : List (Bytes × Node)). AreOnce es) (sym moved) l.once;
        filled =
            ap (finmap.put walk_cmp x.0 x.1) l.filled
            ∙ sym (finmap.entries-insert walk_total (finmap.from_entries {R = walk_cmp} l.ahead) x.0 x.1)
            ∙ ap (λ m. finmap.entries m) (sym (from_entries_push walk_total walk_exact l.ahead x.0 x.1
            (same_find x.0 l.ahead ∙ none_ahead l.ahead x rest l.once)));
      }

  pub ends : (rows : List (Bytes × Node)) → SoFar rows [] → rows ≡ walk_of nodes
  ends rows l =
      let whole : finmap.from_entries {R = path_cmp} l.ahead ≡ nodes =
      ap (λ (es : List (Bytes × Node)). finmap.from_entries {R = path_cmp} es) (sym (append-nil l.ahead)) ∙ l.all in
      l.filled
      ∙ ap (λ m. finmap.entries m) (finmap.same_map walk_total walk_exact
      (finmap.from_entries {R = walk_cmp} l.ahead) (finmap.from_entries {R = walk_cmp} (finmap.entries nodes)) (λ q.
      finmap.get-from_entries walk_total l.ahead q
      ∙ same_find q l.ahead
      ∙ sym (finmap.get-from_entries path_total l.ahead q)
      ∙ ap (λ m. finmap.get m q) whole
      ∙ finmap.get-entries nodes q
      ∙ sym (same_find q (finmap.entries nodes))
      ∙ sym (finmap.get-from_entries walk_total (finmap.entries nodes) q)))
