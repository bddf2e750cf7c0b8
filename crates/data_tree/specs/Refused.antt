-- What a transaction leaves after a refused allocation.
use Rattle.std.specs.Prelude.{◌≡◌, ℕ, List, Bool, true, false, take}
use Rattle.txn_codec.specs.declared.txn.TxnHeader.{TxnHeader}
use Rattle.txn_codec.specs.declared.txn.Operation.{Operation}
use Rattle.txn_codec.specs.declared.txn.Body.{Body}
use Rattle.txn_codec.specs.declared.txn.Body.TheVariants as body
use Rattle.data_tree.specs.State.{State}
use Rattle.txn_codec.specs.Row.{has_error}
use Rattle.data_tree.specs.Meaning.{of_parts}

-- A prefix of the parts was applied.
abbrev pub IsAfterFront : TxnHeader → List Operation → State → State → Type 0
IsAfterFront header parts old new = (n : ℕ) × (new ≡ (of_parts header (take n parts) old).state)

-- A multi with an error part has changed nothing, any other has applied a prefix of its parts.
abbrev pub IsPartlyDone : Bool → TxnHeader → List Operation → State → State → Type 0
IsPartlyDone true header parts old new = new ≡ old
IsPartlyDone false header parts old new = IsAfterFront header parts old new

-- Nothing is claimed about a closeSession. Any other transaction that isn't a multi has changed nothing.
abbrev pub IsLeftByRefused : TxnHeader → Body → State → State → Type 0
IsLeftByRefused header (body.Single operation) old new = new ≡ old
IsLeftByRefused header (body.SetAcl body) old new = new ≡ old
IsLeftByRefused header (body.Multi parts) old new = IsPartlyDone (has_error parts) header parts old new
IsLeftByRefused header (body.CreateSession timeout) old new = new ≡ old
IsLeftByRefused header (body.CloseSession listed) old new = Unit {0}
