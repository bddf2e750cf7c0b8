use Rattle.std.proofs.Common.{◌≡◌, true, refl, sym, ap, subst, ◌∙◌}
use Rattle.std.specs.Ordering.{nat_cmp}
use Rattle.std.specs.FinSet as set
use Rattle.pairs.specs.Pairs.{text_cmp, pair_cmp}
use Rattle.std.proofs.Common.{T, eqb→eq}
use Rattle.std.specs.Prelude.{◌==◌}
use Rattle.pairs.proofs.pairs_table.Pairs.is_empty.Goals as goal

pub returns : goal.returns
returns c = (
  λ h. sym c.self.view_is
      ∙ set.empty_of_len c.self.inside.by_text
      (sym c.self.invariant.1 ∙ eqb→eq c.self.inside.count 0 (subst T (sym h) tt)),
  λ e. subst (λ n. (n == 0) ≡ true) (sym (c.self.invariant.1 ∙ ap set.len (c.self.view_is ∙ e) ∙ set.len-empty (pair_cmp text_cmp nat_cmp))) refl,
)
