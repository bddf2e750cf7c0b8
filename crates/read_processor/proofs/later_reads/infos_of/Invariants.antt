use Rattle.std.proofs.Common.{◌≡◌, ◌++◌, drop, map}
use Rattle.permissions.specs.Digests.{client_info_of}
use Rattle.read_processor.proofs.later_reads.infos_of.Given as goal

abbrev pub invariant-loop-id : goal.invariant-loop-id
invariant-loop-id l = l.infos.items ++ map client_info_of (drop l.id-index l.ids) ≡ map client_info_of l.ids
