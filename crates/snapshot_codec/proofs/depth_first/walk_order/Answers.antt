use Rattle.std.proofs.Common.{◌≡◌, List, drop, length, [], ◌∷◌, refl, sym, ap, ◌∙◌, arith}
use Rattle.std.specs.Slice.Iter.{iter_rest}
use Rattle.std.proofs.lemmas.List.{drop_more}
use Rattle.snapshot_codec.specs.Written.{walk_cmp}
use Rattle.snapshot_codec.proofs.depth_first.walk_order.Goals as goal

nothing : {A : Type 0} (xs : List A) → length xs ≡ 0 → xs ≡ []
nothing [] e = refl
nothing (x ∷ xs) e = absurd (omega arith)

pub returns-in_default : goal.returns-in_default
returns-in_default c =
    let left = c.args.left.now in
    let empty : iter_rest c.loop-byte.others ≡ [] =
    nothing (iter_rest c.loop-byte.others) c.in_default.ensures.steps.0 in
    ap (λ d. walk_cmp d []) (sym (drop_more left c.loop-byte.byte-index 0 c.loop-byte-test.true))
    ∙ ap (walk_cmp (drop c.loop-byte.byte-index left)) (sym empty)
    ∙ c.loop-byte.invariant
