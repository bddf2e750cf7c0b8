use Rattle.std.proofs.Common.{◌↔◌, drop}
use Rattle.std.specs.List.{AllByRecursion}
use Rattle.jute.specs.Owned.{acl_in}
use Rattle.snapshot_codec.proofs.fits.fits_entries.Given as goal

abbrev pub invariant-loop-entry : goal.invariant-loop-entry
invariant-loop-entry l =
    AllByRecursion (acl_in l.surrogates).Fits (drop l.entry-index l.list)
    ↔ AllByRecursion (acl_in l.surrogates).Fits l.list
