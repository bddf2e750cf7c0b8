use Rattle.std.proofs.Common.{◌∙◌, sym, ap}
use Rattle.std.specs.List.{position_or_len}
use Rattle.std.specs.Str.{bytes_eq}
use Rattle.pairs.specs.declared.text_key.KeyQuery.{KeyQuery}
use Rattle.names.specs.Names.{with_new_name}
use Rattle.names.specs.Inner.View.{key_texts}
use Rattle.names.proofs.Places.{names-insert, position_or_len-map}
use Rattle.names.proofs.Names.number.Goals as goal

pub returns-clause-names : goal.returns-clause-names
returns-clause-names c =
    ap key_texts c.in_ok-number.ensures.keys
    ∙ names-insert c.self.inside.set.keys (record { 0 = c.args.text })
    ∙ ap (λ names. with_new_name names c.args.text.now) c.self.view_is

pub returns-clause-number : goal.returns-clause-number
returns-clause-number c =
    c.in_ok-number.ensures.index
    ∙ sym (position_or_len-map (bytes_eq c.args.text.now) (λ (key : KeyQuery). key.0.now) c.self.inside.set.keys)
    ∙ ap (position_or_len (bytes_eq c.args.text.now)) c.self.view_is
