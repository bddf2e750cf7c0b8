use Rattle.std.proofs.Common.{◌≡◌, List, sym, ap, subst, ◌∙◌}
use Rattle.std.specs.FinMap as finmap
use Rattle.std.specs.List.{IsDistinct}
use Rattle.std.specs.Map.{keys_of}
use Rattle.std.specs.Ordering.{eq_by_cmp}
use Rattle.ephemerals.specs.Orders.{Bytes, path_cmp}
use Rattle.node_map.specs.declared.node.Node.{Node}
use Rattle.snapshot_codec.specs.Written.{walk_cmp}
use Rattle.snapshot_codec.specs.Writes.{shown_rows}
use Rattle.snapshot_codec.proofs.DepthFirst.{SoFar, begins, takes, ends}
use Rattle.snapshot_codec.proofs.Tables.{seen-insert}
use Rattle.snapshot_codec.proofs.depth_first.depth_first.Goals as goal

pub loop-path-init : goal.loop-path-init
loop-path-init c = (
  tt,
  tt,
  begins c.args.tree.now.nodes (shown_rows c.new-rows.result.entries) c.into_iter-path-iterator.result
      (ap shown_rows c.new-rows.ensures.empty)
      (ap (λ (es : List (Bytes × Node)). finmap.from_entries {R = path_cmp} es)
      c.into_iter-path-iterator.ensures.into_iter_gives
      ∙ c.nodes-path-items.ensures.nodes)
      (subst (λ (es : List (Bytes × Node)). IsDistinct (eq_by_cmp path_cmp) (keys_of es))
      (sym c.into_iter-path-iterator.ensures.into_iter_gives) c.nodes-path-items.ensures.once),
)

pub loop-path-preserved : goal.loop-path-preserved
loop-path-preserved c =
    let nodes = c.args.tree.now.nodes in
    let path = c.in-Some.path.now in
    let node = c.in-Some.node.now in
    let rows = shown_rows c.loop-path.rows.entries in
    let added : shown_rows c.insert.new.self.entries ≡ finmap.put walk_cmp path node rows =
    ap shown_rows c.in_ok-insert.ensures.entries
    ∙ seen-insert walk_cmp (λ p. p.text.now) (λ n. n.now) c.loop-path.rows.entries _ _
    ∙ ap (λ (p : Bytes). finmap.put walk_cmp p node rows) c.as_str.ensures in (
      tt,
      tt,
      subst (λ (r : List (Bytes × Node)). SoFar nodes r c.next.new.self) (sym added)
          (takes nodes rows c.next.new.self (path, node)
          (subst (SoFar nodes rows) c.in-Some.ensures.steps c.loop-path.invariant.2)),
    )

pub returns : goal.returns
returns c =
    let nodes = c.args.tree.now.nodes in
    let rows = shown_rows c.loop-path.rows.entries in
    ends nodes rows (subst (SoFar nodes rows) c.in-None.ensures.steps.0 c.loop-path.invariant.2)
