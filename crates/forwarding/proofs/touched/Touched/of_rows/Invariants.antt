use Rattle.std.proofs.Common.{◌≡◌, ℤ, map, take}
use Rattle.std.specs.FinSet as set
use Rattle.forwarding.proofs.touched.Touched.of_rows.Given as goal

abbrev pub invariant-loop-session : goal.invariant-loop-session
invariant-loop-session l =
    l.touched ≡ set.from_list (map (λ (row : ℤ × ℤ). row.0) (take l.session-index l.rows))
