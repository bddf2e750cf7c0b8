-- The first frame of a connection, and its answer (zookeeper.jute, ConnectRequest and ConnectResponse).
use Rattle.std.specs.Prelude.{ℕ, pos, List, [], ◌∷◌, ◌++◌, length, Some, Result, Ok, Err, Bool, true, false, nat_lt}
use Rattle.values.specs.declared.fault.Fault.{Fault}
use Rattle.jute.specs.Frame.{frame_bytes}
use Rattle.client_records.specs.declared.connect.ConnectRequest.{ConnectRequest}
use Rattle.client_records.specs.declared.connect.ConnectResponse.{ConnectResponse}
use Rattle.client_records.specs.Requests.{connect_request}
use Rattle.client_records.specs.Responses.{connect_response}
use Rattle.sessions.specs.declared.request.SessionRequest.{SessionRequest}
use Rattle.sessions.specs.declared.request.SessionResponse.{SessionResponse}
use Rattle.client_frames.specs.declared.connecting.Connecting.{Connecting}

-- A byte may follow the request; with it newer clients say that they accept a read-only server.
abbrev pub connecting_after_request : Result (ConnectRequest × List ℕ) Fault → Result Connecting Fault
connecting_after_request (Ok x) = Ok (record { request = x.0; has_byte = nat_lt 0 (length x.1) })
connecting_after_request (Err e) = Err e

abbrev pub connecting_in : List ℕ → Result Connecting Fault
connecting_in frame = connecting_after_request (connect_request.read frame)

abbrev pub session_request_of : ConnectRequest → SessionRequest
session_request_of r = record { time_out = r.time_out; session_id = r.session_id; password = r.passwd }

-- The protocol version is 0.
abbrev pub response_of : SessionResponse → ConnectResponse
response_of r =
    record { protocol_version = pos 0; time_out = r.time_out; session_id = r.session_id; passwd = Some r.password }

-- The answer has the byte exactly if the request had one. It is 0, since this server isn't read-only.
abbrev pub read_only_byte : Bool → List ℕ
read_only_byte true = 0 ∷ []
read_only_byte false = []

abbrev pub answer_to_connect : SessionResponse → Bool → List ℕ
answer_to_connect r has_byte = frame_bytes (connect_response.written (response_of r) ++ read_only_byte has_byte)
