-- Reads that wait for their answers: a run of reads, with nothing else to be done between them.
use Rattle.std.specs.Prelude.{Result, Err, ◌≡◌, ℕ, ℤ, List, [], ◌∷◌, ◌++◌, map, Some, Ok, Bool, true, false, if◌then◌else◌}
use Rattle.jute.specs.Stream.{Items, with_first}
use Rattle.sessions.specs.Sessions.{session_of_connection, ids_of}
use Rattle.read_processor.specs.declared.request.Request.{Request}
use Rattle.read_processor.specs.declared.shown.Look.{Look}
use Rattle.read_processor.specs.Look.{look_at_state}
use Rattle.read_processor.specs.Watch.{watch_of}
use Rattle.client_frames.specs.declared.call.CallBody.TheVariants as bodies
use Rattle.client_frames.specs.declared.call.LocalCall.TheVariants as locals
use Rattle.forwarding.specs.Pending.{is_idle}
use Rattle.values.specs.Gains.{Gains}
use Rattle.values.specs.declared.fault.NoMemory.{NoMemory}
use Rattle.world.specs.declared.output.Output.{Output}
use Rattle.world.specs.World.{World}
use Rattle.world.specs.Results.{SoFar}
use Rattle.world.specs.Steps.{StepResult, no_output, and_then, fold_steps}
use Rattle.world.specs.Clients.{is_open, is_heard}
use Rattle.client_service.specs.Serve.{call_of, with_watch_if, answer_read, touch_client, serve_frame, serve_all, wait_at}
use Rattle.world.specs.Sending.{with_watches, send_reply}

-- A read that a connection asked for, with the xid of its reply.
pub record AskedRead : Type 0 where
  pub number : ℕ
  pub xid : ℤ
  pub request : Request

-- A read is answered at the present state, if its connection is open by then. Its frame touches the session.
abbrev pub answer_asked : World → AskedRead → StepResult World
answer_asked w a =
    if is_open a.number w.clients then answer_read a.number (touch_client a.number w) a.xid a.request else no_output w

-- All are answered, in the order in which they were asked.
abbrev pub answer_all_asked : List AskedRead → World → StepResult World
answer_all_asked asked w = fold_steps (λ (w : World). false) answer_asked w asked

-- A frame is served after them, if its connection is still heard.
abbrev pub serve_if_heard : Bool → ℕ → List ℕ → World → StepResult World
serve_if_heard serving n frame w = if is_heard n w.clients then serve_frame serving n w frame else no_output w

-- A step was made but for the answers to the reads that wait now; or an allocation was refused.
abbrev pub MeetsOwing : Result (Unit {0}) NoMemory → List Output → StepResult World → List Output → List AskedRead
    → World → Type 0
MeetsOwing (Ok u) old whole new asked after = SoFar old whole new (answer_all_asked asked after)
MeetsOwing (Err e) old whole new asked after = Gains old whole.outputs new

-- The same of a stage: the reads that waited are answered, and then a step is made on what they leave.
abbrev pub MakesOwing : Result (Unit {0}) NoMemory → StepResult World → List AskedRead → (World → StepResult World)
    → StepResult World → List AskedRead → Type 0
MakesOwing result old asked step new left =
    MeetsOwing result old.outputs (and_then (answer_all_asked asked old.after) step) new.outputs left new.after

-- ---- what they show is looked up first

-- What a read shows of a world.
abbrev pub look_asked : World → AskedRead → Look
look_asked w a = look_at_state w.replica.tree (ids_of w.clients.sessions a.number) a.request

-- A read that shows this leaves its watch and is answered, if its connection is open.
abbrev pub show_asked : World → AskedRead → Look → StepResult World
show_asked w a seen =
    if is_open a.number w.clients
    then send_reply a.number
    (with_watches (touch_client a.number w) (with_watch_if a.number w.clients.watches (watch_of a.request seen.error)))
    a.xid seen
    else no_output w

abbrev pub show_all_asked : List AskedRead → List Look → World → StepResult World
show_all_asked [] looks w = no_output w
show_all_asked (a ∷ asked) [] w = no_output w
show_all_asked (a ∷ asked) (seen ∷ looks) w = and_then (show_asked w a seen) (show_all_asked asked looks)

-- ---- laws

-- Reads that wait are answered as if each had been answered when it was asked.
pub record RunsAreReads : Type 0 where
  -- What all of them show may be looked up before the first is answered.
  pub looks : (asked : List AskedRead) (w : World)
      → answer_all_asked asked w ≡ show_all_asked asked (map (look_asked w) asked) w
  -- The bytes of a frame that isn't complete may be kept before or after.
  pub rests : (asked : List AskedRead) (n : ℕ) (rest : List ℕ) (w : World)
      → and_then (wait_at n (Ok rest) w) (answer_all_asked asked)
      ≡ and_then (answer_all_asked asked w) (wait_at n (Ok rest))
  -- The read of a frame may wait with those asked before it, where no other request of its connection waits.
  pub waits :
      (serving : Bool) (asked : List AskedRead) (w : World) (n : ℕ) (session : ℤ) (frame : List ℕ)
      (others : Items (Unit {0}) (List ℕ)) (xid : ℤ) (r : Request)
      → is_heard n w.clients ≡ true
      → session_of_connection w.clients.sessions n ≡ Some session
      → is_idle w.clients.pending n ≡ true
      → call_of w frame ≡ Ok (record { xid = xid; body = bodies.Local (locals.Read r) })
      → and_then (answer_all_asked asked w) (λ u. serve_all serving n u (with_first frame others))
      ≡ and_then (answer_all_asked (asked ++ record { number = n; xid = xid; request = r } ∷ []) w)
      (λ u. serve_all serving n u others)
