-- A zxid numbers a transaction: its upper 32 bits are an epoch, its lower 32 a counter. Zxids and epochs are signed.
use Rattle.std.specs.Prelude.{ℤ, pos, ◌*ℤ◌, ◌^◌}
use Rattle.std.specs.Int.{int_div_euclid}

abbrev pub zxids_per_epoch : ℤ
zxids_per_epoch = pos (2 ^ 32)

-- The quotient, rounded down.
abbrev pub epoch_of : ℤ → ℤ
epoch_of zxid = int_div_euclid zxid zxids_per_epoch

-- The zxid at which an epoch begins.
abbrev pub first_zxid : ℤ → ℤ
first_zxid epoch = epoch *ℤ zxids_per_epoch
