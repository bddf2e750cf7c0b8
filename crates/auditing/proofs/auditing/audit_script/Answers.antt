use Rattle.std.proofs.Common.{subst, ap, ◌∙◌}
use Rattle.replay.specs.Replay.{machine_of}
use Rattle.auditing.specs.Auditing.{fed_events, log_after, AuditsLog}
use Rattle.auditing.proofs.auditing.audit_script.Goals as goal

pub returns : goal.returns
returns c =
    let are_events = c.as_slice-2.ensures.value ∙ c.in_ok-events.ensures ∙ ap fed_events c.as_slice.ensures in
    subst (λ events. AuditsLog (log_after (machine_of c.args.script) events) c.args.path.now c.feed.result) are_events
    (c.feed.ensures (machine_of c.args.script) c.in_ok-engine.ensures)
