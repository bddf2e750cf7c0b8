use Rattle.std.proofs.Common.{◌∙◌, sym, ap}
use Rattle.std.specs.Str.{bytes_eq}
use Rattle.pairs.specs.declared.text_key.KeyQuery.{KeyQuery}
use Rattle.names.specs.Names.{number_among}
use Rattle.names.proofs.Places.{position-map}
use Rattle.names.proofs.Names.find.Goals as goal

pub returns : goal.returns
returns c =
    c.get_index_of.ensures.index
    ∙ sym (position-map (bytes_eq c.args.text.now) (λ (key : KeyQuery). key.0.now) c.self.inside.set.keys)
    ∙ ap (λ names. number_among names c.args.text.now) c.self.view_is
