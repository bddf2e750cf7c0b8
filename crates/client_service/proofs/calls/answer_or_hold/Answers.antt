use Rattle.std.proofs.Common.{rules, ◌≡◌, w32, to_z, of_z}
use Rattle.client_service.proofs.calls.answer_or_hold.Goals as goal

pub returns-then-idle : goal.returns-then-idle
returns-then-idle c =
    let same : to_z w32 (of_z w32 c.args.xid) ≡ c.args.xid = search rules in
    rw (← c.requires.idle, c.if-idle.true) (rw same at c.answer_local.ensures)
