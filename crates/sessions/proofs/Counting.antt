-- The number of entries of a map, read as a finite map.
use Rattle.std.proofs.Common.{◌≡◌, ◌+◌, cond, List, [], ◌∷◌, map, length, Option, Some, None, refl, ap, ◌∙◌, arith}
use Rattle.std.specs.Prelude.{is_some}
use Rattle.std.specs.declared.cmp.Ordering.{Ordering}
use Rattle.std.specs.declared.cmp.Ordering.TheVariants.{Less}
use Rattle.std.specs.Ordering.{is_eq}
use Rattle.std.specs.List.{AllByRecursion}
use Rattle.std.specs.List.Sorted.{IsStrictlySortedBy}
use Rattle.std.specs.Cmp.{IsTotalOrder}
use Rattle.std.proofs.lemmas.Map.Keys.{sorted_head, sorted_tail}
use Rattle.std.specs.FinMap as finmap

module _ {K X : Type 0} {R : K → K → Ordering} (o : IsTotalOrder R) where
  abbrev keys_of : List (K × X) → List K
  keys_of es = map (λ (e : K × X). e.0) es

  abbrev seen : List (K × X) → finmap.FinMap R X
  seen es = finmap.from_entries es

  none_ahead : (q : K) (es : List (K × X)) → AllByRecursion (λ k. R q k ≡ Less) (keys_of es) → finmap.find R q es ≡ None
  none_ahead q [] h = refl
  none_ahead q (e ∷ es) h = ap (λ r. cond (is_eq r) (Some e.1) (finmap.find R q es)) h.0 ∙ none_ahead q es h.1

  pub len-seen : (es : List (K × X)) → IsStrictlySortedBy R (keys_of es) → finmap.len (seen es) ≡ length es
  len-seen [] s = finmap.len-empty R X
  len-seen (e ∷ es) s =
      let rest : finmap.len (seen es) ≡ length es = len-seen es (sorted_tail R e.0 (keys_of es) s) in
      finmap.len-insert o (seen es) e.0 e.1
      ∙ ap (λ (found : Option X). cond (is_some found) (finmap.len (seen es)) (finmap.len (seen es) + 1))
      (finmap.get-from_entries o es e.0 ∙ none_ahead e.0 es (sorted_head R e.0 (keys_of es) s))
      ∙ omega arith
