use Rattle.std.proofs.Common.{List, ℕ, sym, subst, refl}
use Rattle.std.specs.Io.KnownBytes.{Appends}
use Rattle.intake.specs.declared.port.PortEnd.{PortEnd}
use Rattle.connection_loop.specs.Conversations.{SendsOn, WritesBack, IsRefusal}
use Rattle.connection_loop.specs.Inner.{talk_of}
use Rattle.connection_loop.proofs.Conversing.{sends_on, writes_back, ends_as}
use Rattle.connection_loop.proofs.session.converse.Goals as goal

pub returns-clause-sent : goal.returns-clause-sent
returns-clause-sent g c =
    let Abandoned = (x : g.row.R.Denot) × g.R.Rest.abandoned x in
    let ends = ends_as _ Abandoned _ _ c.end.ensures (λ a. (c.end.new.reader, a)) in
    subst (λ (p : PortEnd). SendsOn c.args.address (g.R.Read.remaining c.args.reader) Abandoned c.args.session.port p)
    (sym c.finish.ensures)
    (sends_on c.args.address Abandoned (talk_of c.args.session) (talk_of c.run.new.self) (talk_of c.end.new.self) _ _ _ _
    c.run.ensures ends c.requires.none c.requires.new)

pub returns-clause-written : goal.returns-clause-written
returns-clause-written g c =
    let Written = λ (bytes : List ℕ). (x : g.row.W.Denot) × g.W.Close.closed x
    × Appends (g.W.Write.contents c.args.writer) (g.W.Write.contents x) bytes in
    let words = c.args.session.limits.words in
    subst (λ (p : PortEnd). WritesBack (IsRefusal words) Written c.args.session.port p) (sym c.finish.ensures)
    (writes_back c.args.address _ Written words (talk_of c.args.session) (talk_of c.run.new.self)
    (talk_of c.end.new.self) _ _ _ _ c.run.ensures c.end.ensures c.requires.unwritten refl
    (c.run.new.writer, c.close.ensures, c.run.ensures.passes.appended))
