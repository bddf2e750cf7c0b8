use Rattle.std.proofs.lemmas.Str.Pattern.{strip_prefix_char}
use Rattle.zoo_config.proofs.Parts.{after_is}
use Rattle.zoo_config.proofs.address.after_mark.Goals as goal

pub returns : goal.returns
returns c =
    after_is c.args.mark c.args.text.now c.strip_prefix.result
    (strip_prefix_char c.args.mark c.args.text.now c.strip_prefix.result c.strip_prefix.ensures.cases c.requires)
