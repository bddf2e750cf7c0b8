use Rattle.std.proofs.Common.{lit<}
use Rattle.std.proofs.lemmas.Str.Pattern.{strip_suffix_char}
use Rattle.zoo_config.proofs.Fronts.{front_is}
use Rattle.zoo_config.proofs.form.line_front.Goals as goal

pub returns : goal.returns
returns c =
    front_is c.args.text.now c.strip_suffix.result
    (strip_suffix_char 92 c.args.text.now c.strip_suffix.result c.strip_suffix.ensures.cases (lit< tt))
