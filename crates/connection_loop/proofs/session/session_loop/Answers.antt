use Rattle.std.proofs.Common.{List, ℕ, sym, subst}
use Rattle.std.specs.Io.KnownBytes.{Appends}
use Rattle.intake.specs.declared.port.PortEnd.{PortEnd}
use Rattle.connection_loop.specs.Conversations.{WritesBack, IsRefusal}
use Rattle.connection_loop.specs.Inner.{Talk}
use Rattle.connection_loop.proofs.session.session_loop.Goals as goal

pub returns-clause-written : goal.returns-clause-written
returns-clause-written g c =
    let Written = λ (bytes : List ℕ). (x : g.row.W.Denot) × g.W.Close.closed x
    × Appends (g.W.Write.contents c.args.writer) (g.W.Write.contents x) bytes in
    subst (λ (p : PortEnd). WritesBack (IsRefusal c.args.limits.words) Written c.args.port p) (sym c.finish.ensures)
    (subst (λ (t : Talk). WritesBack (IsRefusal t.words) Written t.port c.converse-port.result.port)
    c.new-session.ensures c.converse-port.ensures.written)
