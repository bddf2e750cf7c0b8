use Rattle.std.proofs.Common.{drop, ap, ◌∙◌, arith}
use Rattle.std.proofs.lemmas.List.{drop_at}
use Rattle.ephemerals.specs.Orders.{sorted_names}
use Rattle.client_records.specs.Fields.{names_format}
use Rattle.read_processor.proofs.Writing.{names_writable}
use Rattle.read_processor.proofs.body.Body.of_names.Goals as goal

pub put_names-requires : goal.put_names-requires
put_names-requires c =
    names_writable (sorted_names c.args.texts.now) (omega (arith, c.requires.within, c.requires.whole))

pub returns : goal.returns
returns c =
    let text = names_format.written (sorted_names c.args.texts.now) in
    ap (drop 20) c.in_ok-put_names.ensures ∙ drop_at c.in_ok-bytes.bytes.items text 20 c.in_ok-bytes.ensures
