use Rattle.std.proofs.Common.{◌≡◌, ◌++◌, drop, string_bytes}
use Rattle.zoo_config.specs.Form.{latin_text}
use Rattle.zoo_config.proofs.form.latin_text.Given as goal

abbrev pub invariant-loop-byte : goal.invariant-loop-byte
invariant-loop-byte l = string_bytes l.text ++ latin_text (drop l.byte-index l.bytes) ≡ latin_text l.bytes
