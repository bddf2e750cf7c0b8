use Rattle.std.proofs.Common.{◌≡◌, ℕ, List, w32, to_z, of_z, refl, sym, ap, ◌∙◌, rules}
use Rattle.jute.specs.Records.{request_header}
use Rattle.client_frames.specs.Call.{call_after_header}
use Rattle.client_frames.proofs.call.read_call.Goals as goal

pub returns : goal.returns
returns c =
    let header = c.in_ok-header.header in
    let xid : to_z w32 (of_z w32 header.xid) ≡ header.xid = search rules in
    let kind : to_z w32 (of_z w32 header.kind) ≡ header.kind = search rules in
    let read = ap (λ (bytes : List ℕ). request_header.read bytes) (sym c.new-reader.ensures) ∙ c.in_ok-header.ensures in
    ap (call_after_header c.args.dialect) read ∙ rw (c.in_ok-body.ensures, c.from_code-kind.ensures, kind, xid) refl
