use Rattle.std.proofs.Common.{◌||◌, ap, ◌∙◌}
use Rattle.std.specs.Cmp.{nat_cmp_total}
use Rattle.std.specs.Ordering.{nat_cmp}
use Rattle.std.proofs.lemmas.Map.Lookups.{exact_unsigned}
use Rattle.std.specs.FinSet as set
use Rattle.pairs.specs.Pairs.{numbers_at}
use Rattle.pairs.proofs.pairs_table.Pairs.numbers_of.Goals as goal

pub returns : goal.returns
returns c =
    c.in_ok-add_numbers_of.ensures.ok
    ∙ ap (λ s. set.union s (numbers_at c.args.text.now c.args.self.now)) c.new-numbers.ensures
    ∙ set.same_set nat_cmp_total exact_unsigned _ _ (λ q.
    set.contains-union nat_cmp_total set.empty (numbers_at c.args.text.now c.args.self.now) q
    ∙ ap (λ b. b || set.contains (numbers_at c.args.text.now c.args.self.now) q) (set.contains-empty nat_cmp q))
