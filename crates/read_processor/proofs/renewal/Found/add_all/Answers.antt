use Rattle.std.proofs.Common.{◌≡◌, ℕ, ◌+◌, ◌<◌, List, [], ◌∷◌, ◌++◌, Option, length, drop, get_or, sym, ap, ◌∙◌, append_assoc}
use Rattle.std.specs.List.{filter_map}
use Rattle.std.proofs.lemmas.List.{drop_more}
use Rattle.std.proofs.lemmas.List.Elements.{filter_map-append}
use Rattle.read_processor.specs.Renewal.{event_at, kept_watch_at}
use Rattle.read_processor.proofs.renewal.Found.add_all.Goals as goal

-- The result for item i is added, and the items after it are left.
one_more : {A B : Type 0} (gives : A → Option B) (xs : List A) (i : ℕ) (x : A) (old new : List B)
    → i < length xs → x ≡ get_or xs i x → new ≡ old ++ filter_map gives (x ∷ [])
    → new ++ filter_map gives (drop (i + 1) xs) ≡ old ++ filter_map gives (drop i xs)
one_more {A = A} {B = B} gives xs i x old new lt is added =
    let behind = drop (i + 1) xs in
    let left = drop_more xs i x lt ∙ ap (λ (y : A). y ∷ behind) (sym is) in
    let whole = ap (filter_map gives) left ∙ filter_map-append gives (x ∷ []) behind in
    ap (λ (l : List B). l ++ filter_map gives behind) added
    ∙ append_assoc old (filter_map gives (x ∷ [])) (filter_map gives behind)
    ∙ ap (λ (l : List B). old ++ l) (sym whole)

pub loop-path-preserved : goal.loop-path-preserved
loop-path-preserved c =
    let event = event_at c.args.tree.now c.args.since.now c.args.list in
    let kept = kept_watch_at c.args.tree.now c.args.since.now c.args.list in
    let i = c.loop-path.path-index in
    let lt = c.loop-path-test.true in
    let added = c.in_ok-add.ensures in (
      one_more event c.args.paths.now i c.path-item.result _ _ lt c.path-item.is added.events
          ∙ c.loop-path.invariant.0,
      one_more kept c.args.paths.now i c.path-item.result _ _ lt c.path-item.is added.watches
          ∙ c.loop-path.invariant.1,
    )
