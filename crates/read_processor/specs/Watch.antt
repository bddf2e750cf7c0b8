-- The watches that clients ask for: the one that a read leaves (ZooKeeper Programmer's Guide, "Watches"), and the one of
-- an addWatch, which isn't used up; and those that they look for and remove.
use Rattle.std.specs.Prelude.{ℕ, ℤ, pos, List, Option, Some, None, Bool, ◌||◌, ◌&&◌, if◌then◌else◌}
use Rattle.std.specs.Option.{option_map}
use Rattle.std.specs.Ordering.{int_eq}
use Rattle.settings.specs.Dialects.{reads_of}
use Rattle.settings.specs.declared.dialect.Dialect.{Dialect}
use Rattle.jute.specs.declared.codes.TheConstants.{NO_NODE}
use Rattle.client_records.specs.declared.codes.TheConstants.{OK, PERSISTENT, RECURSIVE}
use Rattle.client_records.specs.Responses.{error_response}
use Rattle.client_records.specs.declared.request.AddWatch.{AddWatch}
use Rattle.client_records.specs.declared.request.PathAndKind.{PathAndKind}
use Rattle.watch_manager.specs.declared.kind.WatchKind.{WatchKind}
use Rattle.watch_manager.specs.declared.kind.WatchKind.TheVariants as kinds
use Rattle.watch_manager.specs.declared.mode.WatchMode.{WatchMode}
use Rattle.watch_manager.specs.declared.mode.WatchMode.TheVariants.{Persistent, Recursive}
use Rattle.read_processor.specs.Kinds.{read_row}
use Rattle.read_processor.specs.Look.{is_request_path, shown_look, without_body}
use Rattle.read_processor.specs.declared.kinds.ReadRow.{ReadRow}
use Rattle.read_processor.specs.declared.kinds.WatchTable.{WatchTable}
use Rattle.read_processor.specs.declared.kinds.WatchTable.TheVariants as tables
use Rattle.read_processor.specs.declared.request.Request.{Request}
use Rattle.read_processor.specs.declared.shown.Look.{Look}
use Rattle.read_processor.specs.declared.watch.SoughtWatch.{SoughtWatch}
use Rattle.read_processor.specs.declared.watch.Watch.{Watch}
use Rattle.read_processor.specs.declared.watch.Watch.TheVariants.{Data, Child, Lasting, LastingAlone}

abbrev pub watch_in : WatchTable → List ℕ → Watch
watch_in tables.Data path = Data path
watch_in tables.Child path = Child path

-- The watch at the path, if the request asks for one.
abbrev pub asked_watch : WatchTable → Request → Option Watch
asked_watch table r = if r.watch then option_map (watch_in table) r.path else None

-- After an answer with this error: a watch is left on a node that was read, and of some kinds also on a missing one.
abbrev pub leaves_watch : ReadRow → ℤ → Bool
leaves_watch row error = int_eq error OK || (row.watches_missing && int_eq error NO_NODE)

abbrev pub watch_with : ReadRow → Option WatchTable → Request → ℤ → Option Watch
watch_with row None r error = None
watch_with row (Some table) r error = if leaves_watch row error then asked_watch table r else None

abbrev pub watch_of : Request → ℤ → Option Watch
watch_of r error = watch_with (read_row r.kind) (read_row r.kind).watch r error

-- ---- addWatch

-- The mode that has this number (AddWatchMode of ZooKeeper 3.6).
abbrev pub mode_of_number : ℤ → Option WatchMode
mode_of_number number =
    if int_eq number PERSISTENT then Some Persistent
    else if int_eq number RECURSIVE then Some Recursive
    else None

-- Later clients may have watches of both modes on a path.
abbrev pub lasting_watch : Dialect → List ℕ → WatchMode → Watch
lasting_watch dialect path mode =
    if (reads_of dialect).later_requests then Lasting path mode else LastingAlone path mode

-- Later clients may watch any path, others one that may be read.
abbrev pub lasting_watch_at : Dialect → Option (List ℕ) → Option WatchMode → Option Watch
lasting_watch_at dialect None mode = None
lasting_watch_at dialect (Some path) mode =
    if (reads_of dialect).later_requests || is_request_path path
    then option_map (lasting_watch dialect path) mode
    else None

-- The watch to add. There is none where no mode has the number.
abbrev pub watch_to_add : Dialect → AddWatch → Option Watch
watch_to_add dialect asked = lasting_watch_at dialect asked.path (mode_of_number asked.mode)

-- Later clients are told the error again in a body (ErrorResponse of zookeeper.jute).
abbrev pub look_of_added : Dialect → Look
look_of_added dialect =
    if (reads_of dialect).later_requests
    then shown_look (error_response.written (record { err = OK }))
    else without_body OK

-- ---- checkWatches and removeWatches

-- The kind that has this number (Watcher.WatcherType of ZooKeeper).
abbrev pub kind_of_number : ℤ → Option WatchKind
kind_of_number number =
    if int_eq number (pos 1) then Some kinds.Child
    else if int_eq number (pos 2) then Some kinds.Data
    else if int_eq number (pos 3) then Some kinds.Any
    else if int_eq number (pos 4) then Some kinds.Persistent
    else if int_eq number (pos 5) then Some kinds.Recursive
    else None

abbrev pub sought_at : Option (List ℕ) → Option WatchKind → Option SoughtWatch
sought_at None kind = None
sought_at (Some path) kind = option_map (λ k. record { path = path; kind = k }) kind

-- The watch that is looked for, on any path. There is none where no kind has the number.
abbrev pub watch_sought : PathAndKind → Option SoughtWatch
watch_sought asked = sought_at asked.path (kind_of_number asked.kind)
