use Rattle.std.proofs.Common.{◌≤◌, length, refl, sym, ◌∙◌, arith}
use Rattle.serve_clients.proofs.Brought.{no_bytes, gives_first, gives_some, nothing_left, nothing_first}
use Rattle.serve_clients.proofs.counted.CountedReader.read_next.Goals as goal

pub returns-then-is_waiting-clause-bytes : goal.returns-then-is_waiting-clause-bytes
returns-then-is_waiting-clause-bytes g c =
    let first = c.args.self.now.first in
    let left = g.R.Read.remaining c.args.self.now.reader in
    let within : c.give.result ≤ length first.bytes = omega (arith, c.give.ensures.count) in (
      gives_first first c.give.new.self left c.give.result c.args.buf.now c.give.new.buf c.give.ensures.rest
          c.give.ensures.given within,
      λ none room. gives_some first c.give.result c.args.buf.now c.give.new.buf (c.is_waiting.ensures.0 c.if-is_waiting.true)
          c.give.ensures.count c.give.ensures.given none room _,
    )

pub returns-then-is_last-clause-bytes : goal.returns-then-is_last-clause-bytes
returns-then-is_last-clause-bytes g c =
    let first = c.args.self.now.first in
    let left = g.R.Read.remaining c.args.self.now.reader in
    let none = no_bytes c.is_waiting.result first.bytes c.is_waiting.ensures c.if-is_waiting.false in
    let ends = nothing_left first left none (sym c.is_last.ensures ∙ c.if-is_last.true) in
    rw ends (refl, λ _ _. refl)

pub returns-clause-bytes : goal.returns-clause-bytes
returns-clause-bytes g c =
    let first = c.args.self.now.first in
    let none = no_bytes c.is_waiting.result first.bytes c.is_waiting.ensures c.if-is_waiting.false in
    let more = sym c.is_last.ensures ∙ c.if-is_last.false in
    rw (
      nothing_first first (g.R.Read.remaining c.args.self.now.reader) none more,
      nothing_first first (g.R.Read.remaining c.read.new.self) none more,
    ) c.read.ensures.bytes
