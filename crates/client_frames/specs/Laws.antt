-- What holds of every frame that is forwarded.
use Rattle.std.specs.Prelude.{◌≡◌, ◌≢◌, ℕ, List, Ok}
use Rattle.settings.specs.declared.dialect.Dialect.{Dialect}
use Rattle.jute.specs.declared.message.RequestHeader.{RequestHeader}
use Rattle.jute.specs.Records.{request_header}
use Rattle.client_records.specs.declared.kind.RequestKind.TheVariants.{Check}
use Rattle.client_records.specs.Kinds.{code_of}
use Rattle.forwarding.specs.declared.request.WriteKind.{WriteKind}
use Rattle.forwarding.specs.Queue.{write_number}
use Rattle.client_frames.specs.declared.call.Call.{Call}
use Rattle.client_frames.specs.declared.call.CallBody.TheVariants.{Forward}
use Rattle.client_frames.specs.Call.{call_in}

-- A frame that is forwarded as a write has that write's type, and no write has the type of a check.
pub record ForwardedByType : Type 0 where
  pub same_type : (dialect : Dialect) (frame rest : List ℕ) (header : RequestHeader) (call : Call) (write : WriteKind)
      → request_header.read frame ≡ Ok (header, rest) → call_in dialect frame ≡ Ok call
      → call.body ≡ Forward write → header.kind ≡ write_number write
  pub no_check : (write : WriteKind) → write_number write ≢ code_of Check
