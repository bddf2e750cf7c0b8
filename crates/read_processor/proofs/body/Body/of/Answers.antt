use Rattle.std.proofs.Common.{List, ℕ, drop, Some, sym, ap, ◌∙◌, arith}
use Rattle.std.proofs.lemmas.List.{drop_at}
use Rattle.read_processor.proofs.Filling.{fits}
use Rattle.read_processor.proofs.body.Body.of.Goals as goal

pub returns : goal.returns
returns g c =
    let text = g.T.WriteRecord.format.written c.args.response.now in
    let is = ap (drop 20) c.in_ok-write.ensures ∙ drop_at c.in_ok-bytes.bytes.items text 20 c.in_ok-bytes.ensures in
    ap (λ (l : List ℕ). Some l) is
    ∙ sym (fits text (omega (arith, c.written_len-length.ensures, c.if-length-gt-BODY_LIMIT.false)))
