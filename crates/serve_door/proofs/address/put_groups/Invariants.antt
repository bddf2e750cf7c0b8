use Rattle.std.proofs.Common.{◌≡◌, ◌++◌, ◌<◌, true, false, string_bytes, take}
use Rattle.serve_door.specs.Addresses.{groups_text}
use Rattle.serve_door.proofs.address.put_groups.Given as goal

abbrev pub invariant-loop-group : goal.invariant-loop-group
invariant-loop-group l =
    (l.group-index ≡ 0 → l.is_first ≡ true) × (0 < l.group-index → l.is_first ≡ false)
    × (string_bytes l.text ≡ string_bytes l.fn.text ++ groups_text (take l.group-index l.group-items))
