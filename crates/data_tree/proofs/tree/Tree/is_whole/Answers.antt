use Rattle.std.proofs.Common.{rules, ◌≡◌, ◌↔◌, Bool, true, IsTrue, subst, codes}
use Rattle.node_map.specs.Agreement.{has_node, AreNamed, AreLinked, AreOwned}
use Rattle.data_tree.specs.State.{State}
use Rattle.data_tree.specs.Whole.{IsWhole}
use Rattle.data_tree.proofs.Placing.{each_ok}
use Rattle.data_tree.proofs.tree.Tree.is_whole.Goals as goal

-- Where everything else is valid, the links between nodes and names decide.
whole_by_links : (s : State) → has_node s.nodes (codes "/") ≡ true → AreNamed s.nodes → AreOwned s.nodes s.pairs
    → (linked : Bool) → (IsTrue linked ↔ AreLinked s.nodes) → (IsTrue linked ↔ IsWhole s)
whole_by_links s root named owners linked links = (
  (λ is. record { root = root; named = named; links = links.0 is; owners = owners }),
  (λ whole. links.1 whole.links),
)

pub returns : goal.returns
returns c =
    let root : has_node c.args.self.now.nodes (codes "/") ≡ true = search rules in
    let are_named : IsTrue c.are_named.result = search rules in
    let are_owned : IsTrue c.are_owned.result = search rules in
    let named : AreNamed c.args.self.now.nodes =
    subst (λ (s : State). AreNamed s.nodes) c.self.view_is (c.are_named.ensures.0 are_named) in
    let owners : AreOwned c.args.self.now.nodes c.args.self.now.pairs =
    subst (λ (s : State). AreOwned s.nodes s.pairs) c.self.view_is (c.are_owned.ensures.0 are_owned) in
    each_ok c.are_linked.result
    (λ linked links. whole_by_links c.args.self.now root named owners linked
    (subst (λ (s : State). IsTrue linked ↔ AreLinked s.nodes) c.self.view_is links)) c.are_linked.ensures
