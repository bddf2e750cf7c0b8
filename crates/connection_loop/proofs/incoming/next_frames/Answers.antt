use Rattle.std.proofs.Common.{◌≡◌, ◌<◌, length, true, ap, sym, ◌∙◌, arith}
use Rattle.connection_loop.specs.Frames.{whole_frames_length, frames_going}
use Rattle.connection_loop.specs.Incoming.{first_frame_length, may_begin}
use Rattle.connection_loop.proofs.LongFrames.{first_is_longer, may_begin_open}
use Rattle.connection_loop.proofs.incoming.next_frames.Goals.{then-waiting-lt-READ_LEN-via-then-waiting-lt-READ_LEN, then-waiting-lt-READ_LEN-via-else-waiting-lt-READ_LEN+then-missing-eq0, then-waiting-lt-READ_LEN-via-else-waiting-lt-READ_LEN+else-missing-eq0+then-not-may_begin}
use Rattle.connection_loop.proofs.incoming.next_frames.Goals as goal

pub returns-then-waiting-lt-READ_LEN-clause-full : goal.returns-then-waiting-lt-READ_LEN-clause-full
returns-then-waiting-lt-READ_LEN-clause-full c full some all =
    let bytes = c.args.waiting.now in
    let whole : whole_frames_length (frames_going c.args.dialect c.args.most c.args.gate bytes) bytes ≡ 0 =
    ap (λ m. whole_frames_length m bytes) (sym c.frames_going-frames.ensures.going) ∙ sym c.whole_frames-len.ensures
    ∙ omega (arith, c.if-len-gt0.false) in
    let longer : length bytes < first_frame_length bytes =
    first_is_longer c.args.dialect c.args.most c.args.gate bytes (λ i. (c.type_inv.waiting i).fits)
    (omega (arith, full)) some all whole in
    let begins : may_begin c.args.dialect c.args.most c.args.gate bytes ≡ true =
    may_begin_open c.args.dialect c.args.most c.args.gate bytes some all in
    elim c.then-waiting-lt-READ_LEN.branch [
      | then-waiting-lt-READ_LEN-via-then-waiting-lt-READ_LEN w ↦
          absurd (omega (arith, full, w.if-waiting-lt-READ_LEN.true))
      | then-waiting-lt-READ_LEN-via-else-waiting-lt-READ_LEN+then-missing-eq0 w ↦
          absurd (omega (arith, longer, w.if-missing-eq0.true, c.frame_len.ensures, c.saturating_sub-missing.ensures))
      | then-waiting-lt-READ_LEN-via-else-waiting-lt-READ_LEN+else-missing-eq0+then-not-may_begin w ↦
          sym w.if-not-may_begin.true ∙ w.may_begin.ensures ∙ begins
    ]
