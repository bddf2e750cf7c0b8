use Rattle.std.proofs.Common.{◌≡◌, drop}
use Rattle.pairs.proofs.Tables.{without_texts}
use Rattle.pairs.proofs.by_text.ByText.remove_all.Given as goal

abbrev pub invariant-loop-text : goal.invariant-loop-text
invariant-loop-text l =
    without_texts l.number (drop l.text-index l.all) l.self ≡ without_texts l.number l.all l.fn.self
