use Rattle.std.proofs.Common.{◌≡◌, map, drop}
use Rattle.serve_options.specs.Words.{is_among}
use Rattle.serve_options.proofs.words.is_one_of.Given as goal

abbrev pub invariant-loop-word : goal.invariant-loop-word
invariant-loop-word l =
    is_among l.text (map (λ word. word.now) l.words)
    ≡ is_among l.text (map (λ word. word.now) (drop l.word-index l.words))
