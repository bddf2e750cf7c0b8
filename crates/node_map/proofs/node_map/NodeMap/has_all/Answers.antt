use Rattle.std.proofs.Common.{◌≡◌, true, sym, subst}
use Rattle.paths_and_acls.specs.Paths.{child_of}
use Rattle.ephemerals.specs.Orders.{Bytes}
use Rattle.node_map.specs.Agreement.{has_node}
use Rattle.node_map.specs.Children.{HasItsChildren}
use Rattle.node_map.proofs.Deciding.{Decides}
use Rattle.node_map.proofs.Links.{all_texts}
use Rattle.node_map.proofs.node_map.NodeMap.has_all.Goals as goal

pub loop-name-init : goal.loop-name-init
loop-name-init c = (
  tt,
  tt,
  subst
      (λ ks. Decides
      (λ (k : Bytes). has_node c.args.self.now (child_of c.args.path.now k) ≡ true)
      (HasItsChildren c.args.self.now c.args.path.now c.args.names.now) ks)
      (sym c.into_iter-name-iterator.ensures.into_iter_gives)
      (all_texts (λ name. has_node c.args.self.now (child_of c.args.path.now name) ≡ true) c.args.names.now
      c.iter-name-items.result c.iter-name-items.ensures.members),
)
