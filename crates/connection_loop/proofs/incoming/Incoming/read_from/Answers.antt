use Rattle.std.proofs.Common.{length, take, drop, refl, sym, ap, ◌∙◌, ◌-◌, arith, subst}
use Rattle.std.proofs.lemmas.List.{take_at, drop_at}
use Rattle.std.proofs.lemmas.Result.{err_from_is_err_and}
use Rattle.std.specs.Io.KnownBytes.{Consumes}
use Rattle.connection_loop.specs.Incoming.{Unsent}
use Rattle.connection_loop.proofs.Buffers.{read_behind, kept_before}
use Rattle.connection_loop.proofs.incoming.Incoming.read_from.Goals as goal

pub returns-in_err-count-clause-err : goal.returns-in_err-count-clause-err
returns-in_err-count-clause-err g c =
    let old = c.args.self.now.bytes in
    let moved = c.make_room-self-inside.new.buffer.items in
    let held = c.make_room-self-inside.ensures.waiting ∙ ap (λ (u : Unsent). u.bytes) c.self.view_is in
    let all = kept_before moved _ c.resize.new.self.items c.deref_mut.result.now c.read.new.buf old
    c.make_room-self-inside.result (c.self.inside.end - c.self.inside.start) c.len_to_read-room.result c.resize.new.self.len held
    (omega arith) (omega arith) c.in_ok-resize.ensures.items c.deref_mut.ensures.value (omega arith) (omega arith) in
    let failed = err_from_is_err_and c.from_residual-in_err-count.result c.from_residual-in_err-count.ensures.1 in
    rw failed.1 all

pub returns-clause-kept : goal.returns-clause-kept
returns-clause-kept g c =
    let old = c.args.self.now.bytes in
    let moved = c.make_room-self-inside.new.buffer.items in
    let held = c.make_room-self-inside.ensures.waiting ∙ ap (λ (u : Unsent). u.bytes) c.self.view_is in
    let all = read_behind moved _ c.resize.new.self.items c.deref_mut.result.now c.read.new.buf old
    c.make_room-self-inside.result (c.self.inside.end - c.self.inside.start) c.len_to_read-room.result c.resize.new.self.len
    c.in_ok-count.count held (omega arith) (omega arith) c.in_ok-resize.ensures.items c.deref_mut.ensures.value
    (omega arith) (omega arith) c.in_ok-count.ensures.bound.0 in
    ap (take (length old)) all ∙ take_at old _ _ refl

pub returns-clause-read : goal.returns-clause-read
returns-clause-read g c =
    let old = c.args.self.now.bytes in
    let moved = c.make_room-self-inside.new.buffer.items in
    let held = c.make_room-self-inside.ensures.waiting ∙ ap (λ (u : Unsent). u.bytes) c.self.view_is in
    let all = read_behind moved _ c.resize.new.self.items c.deref_mut.result.now c.read.new.buf old
    c.make_room-self-inside.result (c.self.inside.end - c.self.inside.start) c.len_to_read-room.result c.resize.new.self.len
    c.in_ok-count.count held (omega arith) (omega arith) c.in_ok-resize.ensures.items c.deref_mut.ensures.value
    (omega arith) (omega arith) c.in_ok-count.ensures.bound.0 in
    subst (Consumes (g.R.Read.remaining c.args.reader.now) (g.R.Read.remaining c.read.new.self))
    (sym (ap (drop (length old)) all ∙ drop_at old _ _ refl)) c.in_ok-count.ensures.bytes.0
