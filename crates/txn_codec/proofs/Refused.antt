-- A transaction is refused as its header or its body is.
use Rattle.std.proofs.Common.{◌≡◌, ℕ, List, Ok, refl}
use Rattle.settings.specs.Dialects.{reads_of}
use Rattle.settings.specs.declared.dialect.Dialect.{Dialect}
use Rattle.values.specs.declared.fault.ReadError.{ReadError}
use Rattle.values.specs.declared.fault.ReadError.TheVariants as errors
use Rattle.jute.specs.Reads.{IsFailureOf}
use Rattle.jute.specs.Sums.{whole_value}
use Rattle.txn_codec.specs.Spelling.{header_in, body_in, txn_in, value_of_whole}
use Rattle.txn_codec.specs.declared.txn.TxnHeader.{TxnHeader}

pub header_refused : (dialect : Dialect) (e : ReadError) (bytes : List ℕ)
    → IsFailureOf e ((header_in dialect).read bytes) → IsFailureOf e ((txn_in dialect).read bytes)
header_refused dialect errors.NoMemory bytes h = tt
header_refused dialect (errors.Fault d) bytes h = rw h refl

pub body_refused : (dialect : Dialect) (e : ReadError) (bytes rest : List ℕ) (header : TxnHeader)
    → (header_in dialect).read bytes ≡ Ok (header, rest) → IsFailureOf e ((body_in (reads_of dialect)).read rest)
    → IsFailureOf e ((txn_in dialect).read bytes)
body_refused dialect errors.NoMemory bytes rest header is h = tt
body_refused dialect (errors.Fault d) bytes rest header is h = rw is (rw h refl)

pub txn_refused : (dialect : Dialect) (e : ReadError) (bytes : List ℕ) → IsFailureOf e ((txn_in dialect).read bytes)
    → IsFailureOf e (value_of_whole (txn_in dialect) bytes)
unfolding whole_value
txn_refused dialect errors.NoMemory bytes h = tt
txn_refused dialect (errors.Fault d) bytes h = rw h refl
