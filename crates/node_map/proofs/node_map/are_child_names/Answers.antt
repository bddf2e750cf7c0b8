use Rattle.std.proofs.Common.{◌≡◌, true, sym, subst}
use Rattle.ephemerals.specs.Orders.{Bytes}
use Rattle.node_map.specs.Agreement.{is_child_name, AreChildNames}
use Rattle.node_map.proofs.Deciding.{Decides}
use Rattle.node_map.proofs.Links.{all_texts}
use Rattle.node_map.proofs.node_map.are_child_names.Goals as goal

pub loop-name-init : goal.loop-name-init
loop-name-init c = (
  tt,
  tt,
  subst
      (λ ks. Decides (λ (k : Bytes). is_child_name k ≡ true) (AreChildNames c.args.names.now) ks)
      (sym c.into_iter-name-iterator.ensures.into_iter_gives)
      (all_texts (λ name. is_child_name name ≡ true) c.args.names.now c.iter-name-items.result
      c.iter-name-items.ensures.members),
)
