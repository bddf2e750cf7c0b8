use Rattle.std.proofs.Common.{◌≡◌}
use Rattle.pairs.specs.Pairs.{text_cmp}
use Rattle.pairs.specs.Inner.Stored.{keys_in_one}
use Rattle.pairs.proofs.Keys.{left_count}
use Rattle.pairs.proofs.by_text.ByText.count_beyond.Given as goal

abbrev pub invariant-loop-text : goal.invariant-loop-text
invariant-loop-text l =
    (goal.iterator-loop-text).can_next l.text-iterator
    × (goal.iterator-loop-text).is_finite l.text-iterator
    × (l.count
    ≡ left_count (keys_in_one text_cmp l.first l.second l.third) l.initial.text-iterator l.text-iterator)
