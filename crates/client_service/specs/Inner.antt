-- The contracts of the private functions. No public contract cites this.
use Rattle.std.specs.Prelude.{◌≡◌, ℕ, ℤ, List, [], Result, Ok, Err, Option, Some, None, Bool, true, length, drop, ◌<◌, ◌≤◌, if◌then◌else◌}
use Rattle.std.specs.Borrow.{Bor}
use Rattle.std.specs.Option.{unwrap_or}
use Rattle.values.specs.declared.fault.Fault.{Fault}
use Rattle.sessions.specs.Sessions.{session_of_connection}
use Rattle.four_letter.specs.declared.word.Word.{Word}
use Rattle.client_frames.specs.declared.call.Call.{Call}
use Rattle.client_frames.specs.declared.call.CallBody.TheVariants as bodies
use Rattle.client_frames.specs.declared.call.LocalCall.TheVariants as locals
use Rattle.forwarding.specs.Pending.{is_idle}
use Rattle.jute.specs.Stream.{place_at, items_in, with_first, no_items}
use Rattle.world.specs.World.{World}
use Rattle.world.specs.Steps.{StepResult, no_output}
use Rattle.world.specs.Clients.{heard_connection, is_heard, rest_at, with_rest}
use Rattle.client_service.specs.Serve.{call_of, frames_of_client, client_frame_limit, tell_word}
use Rattle.world.specs.Sending.{close_client}
use Rattle.client_service.specs.Runs.{AskedRead}
use Rattle.client_service.specs.declared.request.SessionCall.{SessionCall}

-- The first frame and the bytes that it takes; or no frame is complete; or its length is out of bounds.
abbrev pub IsFirstFrame : Result (Option (Bor (List ℕ) × ℕ)) Fault → List ℕ → Type 0
IsFirstFrame (Ok (Some f)) bytes =
    (items_in frames_of_client (place_at tt bytes)
    ≡ with_first f.0.now (items_in frames_of_client (place_at tt (drop f.1 bytes)))) × (0 < f.1)
    × (f.1 ≤ length bytes)
    × (length f.0.now ≤ client_frame_limit)
IsFirstFrame (Ok None) bytes = items_in frames_of_client (place_at tt bytes) ≡ no_items (place_at tt bytes)
IsFirstFrame (Err e) bytes = items_in frames_of_client (place_at tt bytes)
    ≡ no_items (record { phase = tt; unread = Err e })

-- The waiting bytes of a connection; none if it isn't heard.
abbrev pub waiting_bytes : ℕ → World → List ℕ
waiting_bytes n w = unwrap_or (rest_at (heard_connection n w.clients)) []

abbrev pub world_with_rest : ℕ → List ℕ → World → World
world_with_rest n rest w = record w {
  clients = record w.clients {
    connections = with_rest w.clients.connections n (heard_connection n w.clients) rest;
  };
}

abbrev pub stage_with_rest : ℕ → List ℕ → StepResult World → StepResult World
stage_with_rest n rest h = record { outputs = h.outputs; after = world_with_rest n rest h.after }

-- What a frame asks in the session of its connection: it is a call, or its header can't be read.
abbrev pub call_of_session : Result Call Fault → Option ℤ → Option SessionCall
call_of_session read None = None
call_of_session read (Some session) = Some (record { session = session; read = read })

abbrev pub session_call : ℕ → World → List ℕ → Option SessionCall
session_call n w frame = call_of_session (call_of w frame) (session_of_connection w.clients.sessions n)

abbrev pub read_of_session : Option SessionCall → Option (Result Call Fault)
read_of_session None = None
read_of_session (Some asked) = Some asked.read

-- A read that is asked for in a session, of a connection that has no request that waits.
pub record IsReadIn (n : ℕ) (w : World) (request : Option SessionCall) (read : AskedRead) : Type 0 where
  pub idle : is_idle w.clients.pending n ≡ true
  pub asked : read_of_session request
      ≡ Some (Ok (record { xid = read.xid; body = bodies.Local (locals.Read read.request) }))
  pub number : read.number ≡ n

-- ---- after the reads that wait were answered, which may have closed the connection

abbrev pub close_if_heard : ℕ → World → StepResult World
close_if_heard n w = if is_heard n w.clients then close_client n w else no_output w

abbrev pub tell_if_heard : Bool → ℕ → Word → World → StepResult World
tell_if_heard serving n word w = if is_heard n w.clients then tell_word serving n w word else no_output w
