use Rattle.std.proofs.Common.{Bool, refl, sym, ap, ◌∙◌}
use Rattle.std.proofs.lemmas.Result.{err_from_is_err_and}
use Rattle.jute.specs.Loading.{load_from, unless_last}
use Rattle.snapshot_codec.specs.Made.{image_load}
use Rattle.snapshot_codec.proofs.Reading.{hidden, less, loads_part, value_refused}
use Rattle.snapshot_codec.proofs.image.load_next.Goals as goal

pub returns-in_err-read_part : goal.returns-in_err-read_part
returns-in_err-read_part c =
    let p = err_from_is_err_and c.from_residual.result c.from_residual.ensures.1 in
    rw (p.1, p.2) (value_refused c.args.dialect c.args.phase.now c.read_part.new.phase c.args.loader.now.made
    c.args.reader.now
    c.read_part.new.reader c.in_err-read_part.field-0.0 c.args.loader.now c.in_err-read_part.ensures)

pub returns-in-None : goal.returns-in-None
returns-in-None c =
    let r = rw c.in-None.is at c.in_ok-read_part.ensures in
    let phase = c.args.phase.now in
    let next = c.read_part.new.phase in
    let made = c.args.loader.now.made in
    let old = c.args.reader.now in
    let new = c.read_part.new.reader in (
      hidden c.args.dialect phase next made old new r
          ∙ ap (λ (b : Bool). unless_last b made new (load_from (image_load c.args.dialect) next made new))
          (sym c.requires),
      less c.args.dialect phase next made old new _ r,
    )

pub returns-in-Some : goal.returns-in-Some
returns-in-Some c =
    let r = rw c.in-Some.is at c.in_ok-read_part.ensures in
    loads_part c.args.dialect c.args.phase.now c.read_part.new.phase c.args.loader.now.made c.args.reader.now
    c.read_part.new.reader
    c.part.result c.in-Some.part c.args.loader.now c.part.new.self r c.part.ensures refl
