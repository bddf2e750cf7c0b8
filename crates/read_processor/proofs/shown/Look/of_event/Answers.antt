use Rattle.std.proofs.Common.{◌≡◌, ℕ, ◌+◌, ◌≤◌, ◌<◌, ◌^◌, List, length, Option, Some, None, refl, pos, sym, ap, arith}
use Rattle.std.proofs.lemmas.List.{length-append}
use Rattle.jute.specs.Format.{buffer, number_bytes}
use Rattle.node_map.specs.Stats.{length_or_zero}
use Rattle.client_records.specs.Responses.{watcher_event}
use Rattle.read_processor.specs.Limits.{body_limit}
use Rattle.client_records.specs.declared.event.WatcherEvent.{WatcherEvent}
use Rattle.client_records.specs.declared.codes.TheConstants.{SYNC_CONNECTED}
use Rattle.watch_manager.specs.Events.{event_number}
use Rattle.read_processor.specs.declared.shown.Look.{Look}
use Rattle.read_processor.specs.Events.{event_body}
use Rattle.read_processor.proofs.Filling.{too_long}
use Rattle.read_processor.proofs.shown.Look.of_event.Goals as goal

event_length : (r : WatcherEvent) → length (watcher_event.written r) ≡ 12 + length_or_zero r.path
unfolding watcher_event number_bytes
event_length r = by r.path
  where
    by : (path : Option (List ℕ))
        → length (watcher_event.written (record r { path = path })) ≡ 12 + length_or_zero path
    by None = refl
    by (Some path) = simp length-append (omega arith)

event_writable : (r : WatcherEvent) → length_or_zero r.path ≤ body_limit → watcher_event.Writable r
unfolding watcher_event
event_writable r le = (tt, (tt, by r.path le))
  where
    by : (path : Option (List ℕ)) → length_or_zero path ≤ body_limit → buffer.Writable path
    by None le = tt
    by (Some path) le = omega (arith, le)

event_small : (r : WatcherEvent) → length_or_zero r.path ≤ body_limit → length (watcher_event.written r) < 2 ^ 63
event_small r le = omega (arith, event_length r, le)

pub returns-then-path-gt-BODY_LIMIT : goal.returns-then-path-gt-BODY_LIMIT
returns-then-path-gt-BODY_LIMIT c =
    let event = c.args.event.now in
    let shown : WatcherEvent = record {
      kind = event_number event.kind;
      state = SYNC_CONNECTED;
      path = Some event.path;
    } in
    let long = rw c.as_str-path.ensures at c.if-path-gt-BODY_LIMIT.true in
    let no_body : Option (List ℕ) → Look = λ body. record { error = pos 0; body = body } in
    ap no_body (sym (too_long (event_body event) (omega (arith, event_length shown, long))))

pub of-requires-clause-writable : goal.of-requires-clause-writable
of-requires-clause-writable c = event_writable _ (rw c.new.ensures (omega (arith, c.if-path-gt-BODY_LIMIT.false)))

pub of-requires-clause-small : goal.of-requires-clause-small
of-requires-clause-small c = event_small _ (rw c.new.ensures (omega (arith, c.if-path-gt-BODY_LIMIT.false)))
