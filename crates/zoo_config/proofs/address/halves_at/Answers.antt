use Rattle.std.proofs.lemmas.Str.Pattern.{split_once_first}
use Rattle.zoo_config.proofs.Parts.{halves_are}
use Rattle.zoo_config.proofs.address.halves_at.Goals as goal

pub returns : goal.returns
returns c =
    halves_are c.args.mark c.args.text.now c.split_once.result
    (split_once_first c.args.mark c.args.text.now c.split_once.result c.split_once.ensures.cases c.requires)
