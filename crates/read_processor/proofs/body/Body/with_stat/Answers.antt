use Rattle.std.proofs.Common.{◌++◌, ap, ◌∙◌, drop}
use Rattle.std.proofs.lemmas.List.{drop-append-le}
use Rattle.jute.specs.Records.{stat_format}
use Rattle.read_processor.proofs.body.Body.with_stat.Goals as goal

pub returns : goal.returns
returns c =
    let numbers = stat_format.written c.args.numbers.now in
    ap (drop 20) c.in_ok-write.ensures ∙ drop-append-le 20 c.self.inside.bytes.items numbers c.self.invariant.0
    ∙ ap (λ b. b ++ numbers) c.self.view_is
