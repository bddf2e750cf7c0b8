use Rattle.std.proofs.Common.{rules, to_z, of_z, w64, ◌≡◌, ◌++◌, [], ℤ, refl, sym, ap, subst, ◌∙◌}
use Rattle.std.proofs.lemmas.Result.{err_from_is_err_and}
use Rattle.snapshot_codec.specs.Written.{lists_from, key_of}
use Rattle.snapshot_codec.specs.Writes.{shown_rows, node_bytes, FitsNode, nodes_bytes, FitNodes}
use Rattle.snapshot_codec.proofs.Behind.{Left, begins, wrote}
use Rattle.snapshot_codec.proofs.Tables.{key_err}
use Rattle.snapshot_codec.proofs.Written.{AllKeyed, all_keyed, keyed_head}
use Rattle.snapshot_codec.proofs.writer.put_nodes.Goals as goal

pub loop-path-init : goal.loop-path-init
loop-path-init c =
    let walked = shown_rows c.args.rows.now.entries in
    let lists = lists_from [] walked in
    let same : shown_rows c.into_iter-path-iterator.result ≡ walked =
    ap shown_rows c.into_iter-path-iterator.ensures.into_iter_gives.0 in (
      tt,
      tt,
      begins (λ e. node_bytes e.0 e.1 (key_of lists e.1.acl))
          (λ e. FitsNode c.args.dialect e.0 e.1 (key_of lists e.1.acl))
          c.args.out.now.items walked c.args.out.now.items (shown_rows c.into_iter-path-iterator.result) refl same,
      subst (AllKeyed lists) (sym same) (all_keyed walked []),
    )

pub returns-in_err-key : goal.returns-in_err-key
returns-in_err-key c =
    let walked = shown_rows c.args.rows.now.entries in
    let lists = lists_from [] walked in
    let node = c.in-Some.node.now.now in
    let p = err_from_is_err_and c.from_residual.result c.from_residual.ensures.1 in
    rw (p.1, p.2) (key_err c.args.dialect c.in_err-key.field-0.0 c.args.table.now lists node.acl
    (nodes_bytes lists walked)
    c.args.out.now.items c.loop-path.out.items (FitNodes c.args.dialect lists walked) c.requires
    (keyed_head lists (c.in-Some.path.now.text.now, node) (shown_rows c.next.new.self)
    (subst (λ r. AllKeyed lists (shown_rows r)) c.in-Some.ensures.steps c.loop-path.invariant.3)).0
    (c.in_err-key.ensures lists c.requires))

pub loop-path-preserved : goal.loop-path-preserved
loop-path-preserved c =
    let walked = shown_rows c.args.rows.now.entries in
    let lists = lists_from [] walked in
    let path = c.in-Some.path.now.text.now in
    let node = c.in-Some.node.now.now in
    let now = c.loop-path.out.items in
    let own : to_z w64 (of_z w64 c.in_ok-key.key) ≡ c.in_ok-key.key = search rules in
    let keyed = own ∙ c.in_ok-key.ensures lists c.requires in (
      tt,
      tt,
      wrote (λ e. node_bytes e.0 e.1 (key_of lists e.1.acl))
          (λ e. FitsNode c.args.dialect e.0 e.1 (key_of lists e.1.acl))
          c.args.out.now.items walked now c.put_node.new.out.items (path, node) (shown_rows c.next.new.self)
          (c.in_ok-put_node.ensures.0 ∙ ap (λ (k : ℤ). now ++ node_bytes path node k) keyed)
          (subst (λ (k : ℤ). FitsNode c.args.dialect path node k) keyed c.in_ok-put_node.ensures.1)
          (subst (λ r. Left (λ e. node_bytes e.0 e.1 (key_of lists e.1.acl))
          (λ e. FitsNode c.args.dialect e.0 e.1 (key_of lists e.1.acl)) c.args.out.now.items walked now (shown_rows r))
          c.in-Some.ensures.steps c.loop-path.invariant.2),
      (keyed_head lists (path, node) (shown_rows c.next.new.self)
          (subst (λ r. AllKeyed lists (shown_rows r)) c.in-Some.ensures.steps c.loop-path.invariant.3)).1,
    )
