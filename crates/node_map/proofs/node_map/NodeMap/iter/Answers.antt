use Rattle.std.proofs.Common.{List, ap, sym, subst, ◌∙◌}
use Rattle.std.specs.FinMap as finmap
use Rattle.std.specs.List.{IsDistinct}
use Rattle.std.specs.List.Sorted.{IsPermutation}
use Rattle.std.specs.Map.{keys_of}
use Rattle.std.specs.Ordering.{eq_by_cmp}
use Rattle.std.proofs.lemmas.List.Sorted.{IsPermutation-sym}
use Rattle.ephemerals.specs.Orders.{Bytes, path_cmp}
use Rattle.pairs.proofs.Hashed.{map_of, distinct}
use Rattle.node_map.specs.Nodes.{Nodes}
use Rattle.node_map.specs.declared.node.Node.{Node}
use Rattle.node_map.proofs.HashedNodes.{entries_are}
use Rattle.node_map.proofs.node_map.NodeMap.iter.Goals as goal

pub returns-clause-entries : goal.returns-clause-entries
returns-clause-entries c =
    let all = c.self.inside.map.entries in
    let inside : IsPermutation (finmap.entries (map_of all)) all =
    IsPermutation-sym all (finmap.entries (map_of all)) (entries_are all (distinct _ c.iter.ensures.unique)) in
    subst (λ (nodes : Nodes). IsPermutation (finmap.entries nodes) c.iter.result) c.self.view_is
    (subst (λ (es : List (Bytes × Node)). IsPermutation (finmap.entries (map_of all)) es)
    (sym c.iter.ensures.rest) inside)

pub returns-clause-nodes : goal.returns-clause-nodes
returns-clause-nodes c = ap (λ es. map_of es) c.iter.ensures.rest ∙ c.self.view_is

pub returns-clause-once : goal.returns-clause-once
returns-clause-once c =
    subst (λ (es : List (Bytes × Node)). IsDistinct (eq_by_cmp path_cmp) (keys_of es)) (sym c.iter.ensures.rest)
    (distinct _ c.iter.ensures.unique)
