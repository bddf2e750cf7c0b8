-- The field that a refusal of a transaction names.
use Rattle.std.specs.Prelude.{◌≡◌, ◌≢◌, ◌⊎◌, ℕ, List, []}
use Rattle.values.specs.declared.fault.Fault.{Fault}
use Rattle.values.specs.declared.fault.Fault.TheVariants.{TrailingBytes}
use Rattle.values.specs.declared.fault.ReadError.{ReadError}
use Rattle.values.specs.declared.fault.ReadError.TheVariants as errors
use Rattle.jute.specs.Format.{SpellsFront}
use Rattle.txn_codec.specs.declared.txn.Txn.{Txn}
use Rattle.settings.specs.declared.dialect.Dialect.{Dialect}
use Rattle.settings.specs.declared.dialect.Dialect.TheVariants.{Zk34}
use Rattle.txn_codec.specs.Spelling.{txn_in}

-- Bytes follow a transaction: every field is spelled, and no transaction is spelled by all of the bytes. (A create that
-- ends within its last field isn't such a case: that field isn't spelled.)
pub record HasTrailing (dialect : Dialect) (bytes : List ℕ) : Type 0 where
  pub behind : SpellsFront (txn_in dialect) (λ t rest. rest ≢ []) bytes
  pub fine : (e : Fault) → (txn_in dialect).against e bytes → ⊥
  pub none : (t : Txn) → (txn_in dialect).Spells t bytes → ⊥

-- A field isn't spelled, and those before it are; or bytes follow the transaction.
abbrev pub AgainstIn : Dialect → Fault → List ℕ → Type 0
AgainstIn dialect e bytes = (txn_in dialect).against e bytes ⊎ ((e ≡ TrailingBytes) × HasTrailing dialect bytes)

-- The same in ZooKeeper 3.4.
abbrev pub AgainstTxn : Fault → List ℕ → Type 0
AgainstTxn = AgainstIn Zk34

-- A claim about a fault, and none about a refused allocation.
abbrev pub IfFault : ReadError → (Fault → Type 0) → Type 0
IfFault errors.NoMemory Says = Unit {0}
IfFault (errors.Fault e) Says = Says e
