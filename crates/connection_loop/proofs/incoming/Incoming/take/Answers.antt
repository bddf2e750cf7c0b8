use Rattle.std.proofs.Common.{◌≡◌, ◌+◌, ◌-◌, ◌≤◌, length, ap, ◌∙◌, arith, drop, List, ℕ, length-take}
use Rattle.connection_loop.proofs.Buffers.{slice_range-add}
use Rattle.connection_loop.specs.Incoming.{Unsent}
use Rattle.connection_loop.proofs.incoming.Incoming.take.Goals as goal

-- The rest of equal bytes is equal.
with_piece_taken : (u v : Unsent) (bytes : List ℕ) (len missing : ℕ) → u ≡ v → bytes ≡ drop len u.bytes
    → record { bytes = bytes; missing = missing; cutting = u.cutting }
    ≡ record v { bytes = drop len v.bytes; missing = missing }
with_piece_taken u v bytes len missing same rest =
    let left = rest ∙ ap (λ (w : Unsent). drop len w.bytes) same in
    λ i. record { bytes = left i; missing = missing; cutting = (same i).cutting }

pub returns-clause-rest : goal.returns-clause-rest
returns-clause-rest c =
    let w = c.self.inside in
    let held = ap (λ (u : Unsent). length u.bytes) c.self.view_is in
    let most = length-take (w.end - w.start) (drop w.start w.buffer.items) in
    let within : w.start + c.args.piece.len ≤ w.end = omega (arith, most, held) in
    let rest = slice_range-add w.buffer.items w.start w.end c.args.piece.len within in
    with_piece_taken _ c.args.self.now _ c.args.piece.len c.args.piece.missing c.self.view_is rest
