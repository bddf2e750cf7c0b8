-- A frame with a request has the bytes of a header.
use Rattle.std.proofs.Common.{◌≡◌, ℕ, ℤ, ◌≤◌, false, List, length, drop, Ok, Err, Result, refl, ap, ◌∙◌, arith}
use Rattle.std.specs.Prelude.{nat_lt}
use Rattle.std.specs.Int.{w32, cast_signed}
use Rattle.std.proofs.lemmas.Bool.{ltb-false, le-ltb}
use Rattle.std.proofs.lemmas.List.{length-drop}
use Rattle.byteorder.specs.Endian.{big_number}
use Rattle.settings.specs.declared.dialect.Dialect.{Dialect}
use Rattle.values.specs.declared.fault.Fault.{Fault}
use Rattle.values.specs.declared.fault.Fault.TheVariants.{Short}
use Rattle.jute.specs.Format.{int, pair_of}
use Rattle.jute.specs.Records.{request_header}
use Rattle.jute.specs.declared.message.RequestHeader.{RequestHeader}
use Rattle.jute.proofs.Public.{bind_ok, guard_ok}
use Rattle.client_frames.specs.declared.call.Call.{Call}
use Rattle.client_frames.specs.Call.{call_after_header, call_in}
use Rattle.client_service.specs.Serve.{header_len}

header_read : (dialect : Dialect) (r : Result (RequestHeader × List ℕ) Fault) (c : Call)
    → call_after_header dialect r ≡ Ok c → (x : RequestHeader × List ℕ) × (r ≡ Ok x)
header_read dialect (Ok x) c e = (x, refl)
header_read dialect (Err f) c e = absurd cc

-- An int that is read takes four bytes.
int_taken : (bytes : List ℕ) (x : ℤ × List ℕ) → int.read bytes ≡ Ok x
    → (nat_lt (length bytes) 4 ≡ false) × (drop 4 bytes ≡ x.1)
int_taken bytes x e =
    let g = guard_ok (nat_lt (length bytes) 4) Short (cast_signed w32 (big_number 4 bytes), drop 4 bytes) x e in
    (g.0, ap (λ (p : ℤ × List ℕ). p.1) g.1)

pub has_header : (dialect : Dialect) (frame : List ℕ) (c : Call) → call_in dialect frame ≡ Ok c
    → nat_lt (length frame) header_len ≡ false
unfolding request_header
has_header dialect frame c e =
    let h = header_read dialect (request_header.read frame) c e in
    let p = bind_ok ((pair_of int int).read frame) _ h.0 h.1 in
    let a = bind_ok (int.read frame) _ p.0 p.1 in
    let b = bind_ok (int.read a.0.1) _ p.0 a.2 in
    let first = int_taken frame a.0 a.1 in
    let second = int_taken a.0.1 b.0 b.1 in
    let long : 4 ≤ length frame = ltb-false _ _ first.0 in
    let longer : 4 ≤ length (drop 4 frame) =
    ltb-false _ _ (ap (λ (bytes : List ℕ). nat_lt (length bytes) 4) first.1 ∙ second.0) in
    le-ltb (length frame) 8 (omega (arith, long, longer, length-drop 4 frame))
