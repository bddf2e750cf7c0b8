use Rattle.std.proofs.Common.{rules, ◌≡◌, Some, sym, ap, ◌∙◌, to_z, of_z, w64}
use Rattle.snapshot_codec.specs.Written.{key_of}
use Rattle.snapshot_codec.proofs.Tables.{looked, key_found}
use Rattle.snapshot_codec.proofs.key_table.KeyTable.key.Goals as goal

pub returns : goal.returns
returns c = λ lists t.
    let list = c.in-Some.list.now in
    let key = c.in-Some-get.key.now in
    let same : to_z w64 (of_z w64 key) ≡ key = search rules in
    same
    ∙ key_found c.args.dialect lists list key c.in-Some.ensures.not_open
    (sym (looked c.args.dialect c.args.self.now lists list c.as_slice.result.now (Some key) t c.in_ok-bytes.ensures.1
    (c.as_slice.ensures.value ∙ c.in_ok-bytes.ensures.0) c.in-Some-get.ensures.value))
    ∙ ap (key_of lists) c.in-Some.ensures.entries
