-- Counts that were worked out by hand, of a create with any numbers in its header.
use Rattle.std.specs.Prelude.{pos, negsuc, [], ◌∷◌, Some, None, false, codes}
use Rattle.ephemerals.specs.Orders.{Bytes}
use Rattle.settings.specs.declared.dialect.Dialect.TheVariants.{Zk34}
use Rattle.txn_codec.specs.declared.txn.Create.{Create}
use Rattle.txn_codec.specs.declared.txn.Owner.TheVariants.{Nobody}
use Rattle.txn_codec.specs.declared.txn.Txn.{Txn}
use Rattle.txn_codec.specs.declared.txn.TxnHeader.{TxnHeader}
use Rattle.txn_codec.specs.declared.txn.Operation.TheVariants as op
use Rattle.txn_codec.specs.declared.txn.Body.TheVariants as body
use Rattle.audit.specs.Audit.{IsCounted, IsFirstUnclean}

abbrev pub path_a : Bytes
path_a = codes "/a"

abbrev pub create_of_a : Create
create_of_a = record {
  path = path_a;
  bytes = None;
  acl = None;
  owner = Nobody;
  asks_stat = false;
  parent_cversion = negsuc 0;
}

abbrev pub txn_creating_a : TxnHeader → Txn
txn_creating_a header = record { header = record header { rules = Zk34 }; body = body.Single (op.Create create_of_a) }

pub record WorkedCounts (h : TxnHeader) : Type 0 where
  -- After a create of /a: the new node, its parent, another node, and a missing one.
  pub made : IsCounted (txn_creating_a h ∷ []) path_a (Some (pos 0, h.zxid))
  pub parent : IsCounted (txn_creating_a h ∷ []) (codes "/") (Some (pos 0, h.zxid))
  pub other : IsCounted (txn_creating_a h ∷ []) (codes "/zookeeper") (Some (negsuc 0, pos 0))
  pub missing : IsCounted (txn_creating_a h ∷ []) (codes "/q") None
  -- The second create of /a fails.
  pub twice : IsFirstUnclean (txn_creating_a h ∷ txn_creating_a h ∷ []) 1

abbrev pub CountsAreWorked : Type 0
CountsAreWorked = (h : TxnHeader) → WorkedCounts h
