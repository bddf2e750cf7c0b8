use Rattle.std.proofs.Common.{◌≡◌, ◌<◌, drop, IfSome}
use Rattle.values.specs.Hex.{without_blanks, bytes_of_digits}
use Rattle.replay_script.proofs.Digits.{bytes_behind, onto}
use Rattle.replay_script.proofs.hex.read_hex.Given as goal

abbrev pub invariant-loop-byte : goal.invariant-loop-byte
invariant-loop-byte l =
    record {
      small : IfSome l.high (λ h. h < 16);
      same : onto l.bytes.items (bytes_behind l.high (without_blanks (drop l.byte-index l.text))) ≡ bytes_of_digits
          (without_blanks l.text);
    }
