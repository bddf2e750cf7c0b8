-- The numbers of the faults, and their words.
use Rattle.std.specs.Prelude.{ℕ, List, codes}
use Rattle.values.specs.declared.fault.Fault.{Fault}
use Rattle.values.specs.declared.fault.Fault.TheVariants.{Short, BadLength, BadText, BadPath, BadTxnType, TrailingBytes, OutOfOrder, CommitMismatch, CannotTruncate, BadImage, EpochTooSmall, UnexpectedPacket}

abbrev pub fault_number : Fault → ℕ
fault_number Short = 1
fault_number BadLength = 2
fault_number BadText = 3
fault_number BadPath = 4
fault_number BadTxnType = 5
fault_number TrailingBytes = 6
fault_number OutOfOrder = 7
fault_number CommitMismatch = 8
fault_number CannotTruncate = 9
fault_number BadImage = 10
fault_number EpochTooSmall = 11
fault_number UnexpectedPacket = 12

abbrev pub fault_word : Fault → List ℕ
fault_word Short = codes "Short"
fault_word BadLength = codes "BadLength"
fault_word BadText = codes "BadText"
fault_word BadPath = codes "BadPath"
fault_word BadTxnType = codes "BadTxnType"
fault_word TrailingBytes = codes "TrailingBytes"
fault_word OutOfOrder = codes "OutOfOrder"
fault_word CommitMismatch = codes "CommitMismatch"
fault_word CannotTruncate = codes "CannotTruncate"
fault_word BadImage = codes "BadImage"
fault_word EpochTooSmall = codes "EpochTooSmall"
fault_word UnexpectedPacket = codes "UnexpectedPacket"
