use Rattle.std.proofs.Common.{◌≡◌, ◌++◌, drop}
use Rattle.std.specs.List.{flat_map}
use Rattle.txn_codec.specs.Endings.{listed_path}
use Rattle.txn_codec.proofs.ending.paths_among.Given as goal

abbrev pub invariant-loop-text : goal.invariant-loop-text
invariant-loop-text l =
    l.paths.items ++ flat_map listed_path (drop l.text-index l.texts) ≡ flat_map listed_path l.texts
