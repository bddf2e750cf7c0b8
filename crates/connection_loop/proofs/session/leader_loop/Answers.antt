use Rattle.std.proofs.Common.{List, ℕ, subst}
use Rattle.std.specs.Io.KnownBytes.{Appends}
use Rattle.connection_loop.specs.Conversations.{WritesBack, IsRefusal}
use Rattle.connection_loop.specs.Inner.{Talk}
use Rattle.connection_loop.proofs.Conversing.{writes_outputs}
use Rattle.connection_loop.proofs.session.leader_loop.Goals as goal

pub returns-clause-written : goal.returns-clause-written
returns-clause-written g c =
    let Written = λ (bytes : List ℕ). (x : g.row.W.Denot) × g.W.Close.closed x
    × Appends (g.W.Write.contents c.args.writer) (g.W.Write.contents x) bytes in
    writes_outputs c.none-limits.result.words Written c.args.port c.converse.result.port c.none-limits.ensures.words
    (subst (λ (t : Talk). WritesBack (IsRefusal t.words) Written t.port c.converse.result.port)
    c.new-session.ensures c.converse.ensures.written)
