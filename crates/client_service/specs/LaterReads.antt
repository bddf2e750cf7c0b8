-- Answers to what later clients alone ask for, and to what can't be read.
use Rattle.std.specs.Prelude.{ℕ, ℤ, pos, negsuc, List, Option, Some, None}
use Rattle.std.specs.Option.{unwrap_or}
use Rattle.jute.specs.declared.codes.TheConstants.{BAD_ARGUMENTS}
use Rattle.settings.specs.declared.dialect.Dialect.{Dialect}
use Rattle.settings.specs.declared.dialect.Dialect.TheVariants.{Zk34, Zk38}
use Rattle.client_records.specs.declared.codes.TheConstants.{MARSHALLING_ERROR, UNIMPLEMENTED}
use Rattle.sessions.specs.Sessions.{session_of_connection, ids_of}
use Rattle.read_processor.specs.Look.{without_body}
use Rattle.client_records.specs.declared.multi.ReadPart.{ReadPart}
use Rattle.read_processor.specs.MultiReads.{look_at_parts}
use Rattle.read_processor.specs.LaterReads.{look_at_ephemerals, look_below, look_at_ids, look_of_sasl}
use Rattle.read_processor.specs.Reply.{reply_frame}
use Rattle.world.specs.World.{World}
use Rattle.world.specs.Steps.{StepResult}
use Rattle.world.specs.Sending.{close_client, send_or_close, send_last, send_reply}

-- Each part is read with the ids of the connection.
abbrev pub answer_multi_read : ℕ → World → ℤ → List ReadPart → StepResult World
answer_multi_read n w xid parts = send_reply n w xid (look_at_parts w.replica.tree (ids_of w.clients.sessions n) parts)

-- The session is 0, which owns nothing, if the connection has none.
abbrev pub answer_ephemerals : ℕ → World → ℤ → Option (List ℕ) → StepResult World
answer_ephemerals n w xid prefix =
    let session = unwrap_or (session_of_connection w.clients.sessions n) (pos 0) in
    send_reply n w xid (look_at_ephemerals w.replica.tree session prefix)

abbrev pub answer_below : ℕ → World → ℤ → Option (List ℕ) → StepResult World
answer_below n w xid path = send_reply n w xid (look_below w.replica.tree (ids_of w.clients.sessions n) path)

abbrev pub answer_who_am_i : ℕ → World → ℤ → StepResult World
answer_who_am_i n w xid = send_reply n w xid (look_at_ids (ids_of w.clients.sessions n))

-- The reply to a sasl has the zxid 0. A null token closes the connection.
abbrev pub answer_sasl : ℕ → World → ℤ → Option (List ℕ) → StepResult World
answer_sasl n w xid None = close_client n w
answer_sasl n w xid (Some token) = send_or_close n w (reply_frame xid (pos 0) look_of_sasl)

-- ---- what can't be read, and what isn't known

-- The error of a request whose body can't be read.
abbrev pub unreadable_error : Dialect → ℤ
unreadable_error Zk34 = BAD_ARGUMENTS
unreadable_error Zk38 = MARSHALLING_ERROR

abbrev pub answer_unreadable : ℕ → World → ℤ → StepResult World
answer_unreadable n w xid = send_reply n w xid (without_body (unreadable_error w.settings.dialect))

-- The zxid in the reply to a request that isn't known: for later clients -1.
abbrev pub unknown_zxid : Dialect → ℤ → ℤ
unknown_zxid Zk34 last_zxid = last_zxid
unknown_zxid Zk38 last_zxid = negsuc 0

-- The connection is closed after it.
abbrev pub answer_unknown : ℕ → World → ℤ → StepResult World
answer_unknown n w xid =
    send_last n w
    (reply_frame xid (unknown_zxid w.settings.dialect w.replica.learner.last_zxid) (without_body UNIMPLEMENTED))
