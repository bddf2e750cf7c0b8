use Rattle.std.proofs.Common.{ap, ◌∙◌, map}
use Rattle.std.proofs.lemmas.Slice.Eq.{bytes_eq-Decides}
use Rattle.std.specs.Bool.{one_answer}
use Rattle.std.specs.Char.{to_ascii_lowercase}
use Rattle.std.specs.Str.{bytes_eq}
use Rattle.zoo_config.proofs.address.says_word.Goals as goal

pub returns : goal.returns
returns c =
    one_answer c.eq_ignore_ascii_case.result _ c.eq_ignore_ascii_case.ensures.test (bytes_eq-Decides _ _)
    ∙ ap (λ t. bytes_eq (map to_ascii_lowercase t) (map to_ascii_lowercase c.args.word.now)) c.trim.ensures.trim
