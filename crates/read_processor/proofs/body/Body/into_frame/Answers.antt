use Rattle.std.proofs.Common.{◌≡◌, ◌+◌, ◌≤◌, List, ℕ, length, ap, sym, ◌∙◌, arith}
use Rattle.jute.specs.Frame.{frame_bytes}
use Rattle.read_processor.specs.Limits.{body_limit}
use Rattle.read_processor.specs.Reply.{with_header}
use Rattle.read_processor.proofs.Filling.{filled_whole}
use Rattle.read_processor.proofs.body.Body.into_frame.Goals as goal

pub returns : goal.returns
returns c =
    let bytes = c.self.inside.bytes in
    let all : length bytes.items ≡ bytes.len =
    ap (λ (l : List ℕ). length l) (sym c.deref_mut.ensures.value) ∙ c.deref_mut.ensures.len in
    let room : 20 ≤ bytes.len = omega (arith, all, c.self.invariant.0) in
    let small : bytes.len ≤ 20 + body_limit = omega (arith, all, c.self.invariant.1) in
    let written = rw (c.len.ensures, c.deref_mut.ensures.value) at c.fill.ensures in
    filled_whole c.args.header.now bytes.items c.fill.new.bytes bytes.len all room small written c.from_vec.ensures
    ∙ ap (λ (b : List ℕ). frame_bytes (with_header c.args.header.now b)) c.self.view_is
