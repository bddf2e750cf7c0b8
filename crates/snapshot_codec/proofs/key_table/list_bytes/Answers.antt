use Rattle.std.proofs.Common.{rules, Some}
use Rattle.snapshot_codec.specs.Writes.{FitsList}
use Rattle.snapshot_codec.proofs.Formats.{list_sound, list_writable}
use Rattle.snapshot_codec.proofs.key_table.list_bytes.Goals as goal

pub put_items-requires : goal.put_items-requires
put_items-requires c =
    let fits : FitsList c.args.dialect c.args.list.now = c.fits_list.ensures.0 (search rules) in
    list_writable c.args.dialect c.args.list.now ((list_sound c.args.dialect).writable (Some c.args.list.now) fits).1
