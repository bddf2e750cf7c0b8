use Rattle.std.proofs.Common.{◌≡◌, drop}
use Rattle.data_tree.specs.Meaning.{with_names, ended_paths}
use Rattle.based_tree.proofs.saved.ended_paths.Given as goal

abbrev pub invariant-loop-path : goal.invariant-loop-path
invariant-loop-path l = with_names l.paths (drop l.path-index l.listed) ≡ ended_paths l.header.client_id l.listed l.tree
