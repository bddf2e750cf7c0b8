use Rattle.std.proofs.Common.{ap, sym, ◌∙◌}
use Rattle.std.proofs.lemmas.List.{drop_all}
use Rattle.std.specs.FinSet as set
use Rattle.pairs.proofs.Totals.{text_total}
use Rattle.pairs.proofs.Tables.{without_texts, lost-texts}
use Rattle.pairs.proofs.by_text.ByText.remove_all.Goals as goal

pub returns : goal.returns
returns c =
    let all = c.as_slice-all.result.now in
    lost-texts c.args.number all c.args.texts.now c.args.self.now c.loop-text.self
    (ap (λ ts. without_texts c.args.number ts c.loop-text.self)
    (sym (drop_all c.loop-text.text-index all c.loop-text-test.false))
    ∙ c.loop-text.invariant)
    (λ q. sym (set.contains-from_list text_total all q)
    ∙ ap (λ s. set.contains s q) c.as_slice-all.ensures.texts)
