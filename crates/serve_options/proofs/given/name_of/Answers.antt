use Rattle.std.proofs.Common.{◌≡◌, ◌<◌, ap, ◌∙◌, arith}
use Rattle.std.proofs.lemmas.Bool.{false≢true}
use Rattle.std.proofs.lemmas.List.{get_or_default}
use Rattle.std.proofs.lemmas.Slice.Eq.{bytes_eq-Decides}
use Rattle.serve_options.specs.Rows.{option_word}
use Rattle.serve_options.specs.Places.{name_place}
use Rattle.serve_options.specs.declared.row.TheConstants.{NAMES}
use Rattle.serve_options.proofs.Names.{name_at, one_more, place_below}
use Rattle.serve_options.proofs.given.name_of.Goals as goal

-- All names were compared.
pub returns-clause-unknown : goal.returns-clause-unknown
returns-clause-unknown c =
    λ name e.
    let below : name_place name < 32 = place_below name in
    c.loop-name.invariant (name_place name) name (omega arith) (ap option_word (name_at name) ∙ e)

-- This name, too, is another one.
pub loop-name-preserved : goal.loop-name-preserved
loop-name-preserved c =
    one_more NAMES c.args.word.now c.loop-name.name-index c.loop-name.invariant (
    λ name e.
    let is : c.row.result.word.now ≡ c.args.word.now = c.row.ensures.word
    ∙ ap option_word (get_or_default NAMES c.loop-name.name-index _ name c.loop-name-test.true) ∙ e in
    false≢true (c.if-eq.ensures ∙ (bytes_eq-Decides c.row.result.word.now c.args.word.now).1 is)
    )
