-- Transactions that are gathered: the log has them, and they are applied to the tree later.
use Rattle.std.specs.Prelude.{◌≡◌, Bool, true, false, List, [], ◌∷◌, ◌++◌, Option, Some, None, Result, Ok, Err}
use Rattle.values.specs.declared.fault.NoMemory.{NoMemory}
use Rattle.values.specs.declared.fault.ReadError.{ReadError}
use Rattle.values.specs.declared.fault.ReadError.TheVariants as errors
use Rattle.txn_codec.specs.declared.txn.Txn.{Txn}
use Rattle.data_tree.specs.State.{State}
use Rattle.snapshot_codec.specs.Made.{Loading}
use Rattle.quorum_packet.specs.Kinds.{kind_of}
use Rattle.quorum_packet.specs.declared.item.Item.{Item}
use Rattle.quorum_packet.specs.declared.item.Item.TheVariants as item
use Rattle.quorum_packet.specs.declared.kind.PacketKind.{PacketKind}
use Rattle.quorum_packet.specs.declared.kind.PacketKind.TheVariants as kinds
use Rattle.learner_sync.specs.Learner.{Learner}
use Rattle.learner_sync.specs.Learn.{LearnerStep, learn_item}
pub use Rattle.based_tree.specs.Based.{AppliesTxns}
use Rattle.replica.specs.Replica.{Replica}
use Rattle.replica.specs.Taking.{no_effect, apply_to_tree, take_item}

-- Packets of these kinds may append a transaction to the log, and do nothing else.
abbrev pub is_kind_of_txns : Option PacketKind → Bool
is_kind_of_txns (Some kinds.Inform) = true
is_kind_of_txns (Some kinds.Proposal) = true
is_kind_of_txns (Some kinds.Commit) = true
is_kind_of_txns kind = false

abbrev pub brings_txns : Item → Bool
brings_txns (item.Packet p) = is_kind_of_txns (kind_of p.kind)
brings_txns (item.Part p) = false

-- The transaction, if there is one.
abbrev pub optional_txn : Option Txn → List Txn
optional_txn None = []
optional_txn (Some t) = t ∷ []

-- Whatever the tree is, all that the item does is what the learner learns, and the transaction that the log has gained,
-- if it has gained one: `with_outcome` of the transaction's outcome and of the tree after it.
pub record IsGathered (r : Replica) (i : Item) (learnt : Learner) : Type 0 where
  pub gained : Option Txn
  pub log : learnt.log ≡ r.learner.log ++ optional_txn gained
  pub taken : (loading : Loading) (tree : State) → take_item loading (record r { tree = tree }) i
      ≡ Ok (apply_to_tree (no_effect loading (record r { learner = learnt; tree = tree })) gained)

abbrev pub TransactionsAreGathered : Type 0
TransactionsAreGathered =
    (r : Replica) (i : Item) (x : LearnerStep) → brings_txns i ≡ true → learn_item r.learner i ≡ Ok x
    → IsGathered r i x.after

-- An item was gathered. Or it is refused for its fault, whatever the tree is, or an allocation is; then the replica is
-- as it was.
abbrev pub Gathers : Result (Unit {0}) ReadError → Item → Replica → Replica → Type 0
Gathers (Ok u) i old new = IsGathered old i new.learner × (new ≡ record old { learner = new.learner })
Gathers (Err (errors.Fault e)) i old new =
    ((loading : Loading) (tree : State) → take_item loading (record old { tree = tree }) i ≡ Err e) × (new ≡ old)
Gathers (Err errors.NoMemory) i old new = new ≡ old
