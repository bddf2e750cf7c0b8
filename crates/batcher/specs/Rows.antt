-- Cuts that were worked out by hand, of transactions with any headers.
use Rattle.std.specs.Prelude.{◌≡◌, ℕ, pos, negsuc, List, [], ◌∷◌, None, false, codes}
use Rattle.std.specs.FinSet as set
use Rattle.ephemerals.specs.Orders.{Bytes}
use Rattle.txn_codec.specs.declared.txn.Txn.{Txn}
use Rattle.txn_codec.specs.declared.txn.Owner.TheVariants.{Nobody}
use Rattle.txn_codec.specs.declared.txn.TxnHeader.{TxnHeader}
use Rattle.txn_codec.specs.declared.txn.Operation.{Operation}
use Rattle.txn_codec.specs.declared.txn.Operation.TheVariants as op
use Rattle.txn_codec.specs.declared.txn.Body.{Body}
use Rattle.txn_codec.specs.declared.txn.Body.TheVariants as body
use Rattle.batcher.specs.Class.{TxnGroup}
use Rattle.batcher.specs.Limits.{LimitNumbers, limit_numbers}
use Rattle.batcher.specs.Cut.{cut, groups_of}

abbrev pub create_operation : List ℕ → Operation
create_operation path =
    op.Create (
    record {
      path = path;
      bytes = None;
      acl = None;
      owner = Nobody;
      asks_stat = false;
      parent_cversion = negsuc 0;
    }
    )

abbrev pub txn_with : TxnHeader → Body → Txn
txn_with header body = record { header = header; body = body }

abbrev pub create_txn_of : TxnHeader → List ℕ → Txn
create_txn_of header path = txn_with header (body.Single (create_operation path))

abbrev pub group_row : List ℕ → List Bytes → TxnGroup
group_row members paths = record { members = members; paths = set.from_list paths }

-- 4 workers, 256 transactions, 64 groups.
abbrev pub usual_limits : LimitNumbers
usual_limits = limit_numbers 4 256 64

-- The batch is cut from the list, and has these groups.
pub record IsCutInto (limits : LimitNumbers) (txns batch : List Txn) (groups : List TxnGroup) : Type 0 where
  pub cut_is : cut limits txns ≡ batch
  pub groups_are : groups_of batch ≡ groups

abbrev pub path_a : Bytes
path_a = codes "/a"

abbrev pub path_b : Bytes
path_b = codes "/b"

abbrev pub path_a_x : Bytes
path_a_x = codes "/a/x"

abbrev pub path_a_y : Bytes
path_a_y = codes "/a/y"

abbrev pub path_b_y : Bytes
path_b_y = codes "/b/y"

abbrev pub path_b_z : Bytes
path_b_z = codes "/b/z"

abbrev pub path_a_p : Bytes
path_a_p = codes "/a/p"

abbrev pub path_b_q : Bytes
path_b_q = codes "/b/q"

abbrev pub two_creates_txn : TxnHeader → Txn
two_creates_txn h = txn_with h (body.Multi (create_operation path_a_p ∷ create_operation path_b_q ∷ []))

abbrev pub close_session_txn : TxnHeader → Txn
close_session_txn h = txn_with h (body.CloseSession [])

abbrev pub new_session_txn : TxnHeader → Txn
new_session_txn h = txn_with h (body.CreateSession (pos 5000))

pub record WorkedCuts (h : TxnHeader) : Type 0 where
  pub nothing : IsCutInto usual_limits [] [] []
  pub two_groups :
      let all = create_txn_of h path_a_x ∷ create_txn_of h path_a_y ∷ create_txn_of h path_b_z ∷ [] in
      IsCutInto usual_limits all all (group_row (0 ∷ 1 ∷ []) (path_a_x ∷ path_a ∷ path_a_y ∷ path_a ∷ []) ∷ group_row
      (2 ∷ []) (path_b_z ∷ path_b ∷ []) ∷ [])
  -- A multi that meets two groups begins the next batch.
  pub meets_two :
      let front = create_txn_of h path_a_x ∷ create_txn_of h path_b_y ∷ [] in
      IsCutInto usual_limits (create_txn_of h path_a_x ∷ create_txn_of h path_b_y ∷ two_creates_txn h ∷ []) front
      (group_row (0 ∷ []) (path_a_x ∷ path_a ∷ []) ∷ group_row (1 ∷ []) (path_b_y ∷ path_b ∷ []) ∷ [])
  pub behind_it : IsCutInto usual_limits (two_creates_txn h ∷ []) (two_creates_txn h ∷ [])
      (group_row (0 ∷ []) (path_a_p ∷ path_a ∷ path_b_q ∷ path_b ∷ []) ∷ [])
  pub barrier_in_front : IsCutInto usual_limits (close_session_txn h ∷ create_txn_of h path_a_x ∷ [])
      (close_session_txn h ∷ []) []
  pub barrier_behind :
      IsCutInto usual_limits (create_txn_of h path_a_x ∷ close_session_txn h ∷ []) (create_txn_of h path_a_x ∷ [])
      (group_row (0 ∷ []) (path_a_x ∷ path_a ∷ []) ∷ [])
  -- A transaction without a path opens the first group, or joins the group opened last.
  pub no_path :
      let all = new_session_txn h ∷ create_txn_of h path_a_x ∷ new_session_txn h ∷ [] in
      IsCutInto usual_limits all all (group_row (0 ∷ []) [] ∷ group_row (1 ∷ 2 ∷ []) (path_a_x ∷ path_a ∷ []) ∷ [])
  pub one_transaction :
      IsCutInto (limit_numbers 1 1 256) (create_txn_of h path_a_x ∷ create_txn_of h path_a_y ∷ [])
      (create_txn_of h path_a_x ∷ [])
      (group_row (0 ∷ []) (path_a_x ∷ path_a ∷ []) ∷ [])
  pub one_group :
      IsCutInto (limit_numbers 1 4096 1) (create_txn_of h path_a_x ∷ create_txn_of h path_b_y ∷ [])
      (create_txn_of h path_a_x ∷ [])
      (group_row (0 ∷ []) (path_a_x ∷ path_a ∷ []) ∷ [])

abbrev pub CutsAreWorked : Type 0
CutsAreWorked = (h : TxnHeader) → WorkedCuts h
