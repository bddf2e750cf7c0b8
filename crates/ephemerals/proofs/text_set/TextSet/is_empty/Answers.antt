use Rattle.std.proofs.Common.{ap, subst, sym, ◌∙◌, eqb→eq, eq-eqb, T}
use Rattle.std.specs.FinSet as set
use Rattle.ephemerals.specs.Orders.{path_cmp}
use Rattle.ephemerals.proofs.text_set.TextSet.is_empty.Goals as goal

pub returns : goal.returns
returns c = (
  λ h. set.empty_of_len c.args.self.now (sym c.len.ensures ∙ eqb→eq c.len.result 0 (subst T (sym h) tt)),
  λ e. eq-eqb c.len.result 0 (c.len.ensures ∙ ap set.len e ∙ set.len-empty path_cmp),
)
