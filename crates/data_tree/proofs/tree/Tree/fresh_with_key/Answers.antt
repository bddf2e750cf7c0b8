use Rattle.std.proofs.Common.{◌∙◌, codes}
use Rattle.std.specs.FinMap as finmap
use Rattle.data_tree.proofs.tree.Tree.fresh_with_key.Goals as goal

pub returns : goal.returns
returns c =
    let one =
    c.in_ok-insert.ensures.ok
    ∙ (λ i. finmap.insert (c.with_key-nodes.ensures i) (codes "/") (c.in_ok-with_child.ensures i)) in
    let two =
    c.in_ok-insert-2.ensures.ok
    ∙ (λ i. finmap.insert (one i) (codes "/zookeeper") (c.in_ok-with_child-2.ensures i)) in
    let three =
    c.in_ok-insert-3.ensures.ok
    ∙ (λ i. finmap.insert (two i) (codes "/zookeeper/quota") (c.in_ok-childless.ensures i)) in
    λ i. record { nodes = three i; pairs = c.keyed.ensures i; sessions = c.new.ensures i }
