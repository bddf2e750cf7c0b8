use Rattle.std.proofs.Common.{[]}
use Rattle.snapshot_codec.specs.Written.{lists_from, key_of}
use Rattle.snapshot_codec.specs.Writes.{shown_rows, node_bytes, FitsNode}
use Rattle.snapshot_codec.proofs.Behind.{Left}
use Rattle.snapshot_codec.proofs.Written.{AllKeyed}
use Rattle.snapshot_codec.proofs.writer.put_nodes.Given as goal

abbrev pub invariant-loop-path : goal.invariant-loop-path
invariant-loop-path l =
    let walked = shown_rows l.rows.entries in
    let lists = lists_from [] walked in
    (goal.iterator-loop-path).can_next l.path-iterator
    × (goal.iterator-loop-path).is_finite l.path-iterator
    × Left (λ e. node_bytes e.0 e.1 (key_of lists e.1.acl)) (λ e. FitsNode l.dialect e.0 e.1 (key_of lists e.1.acl))
    l.fn.out.items walked l.out.items (shown_rows l.path-iterator)
    × AllKeyed lists (shown_rows l.path-iterator)
