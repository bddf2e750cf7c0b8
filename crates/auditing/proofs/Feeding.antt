-- From feeding an engine to the audit of its log.
use Rattle.std.proofs.Common.{◌≡◌, ℕ, ℤ, List, [], append-nil, Option, Some, Result, Ok, Err, sym, subst, inl, inr, true≢false}
use Rattle.std.specs.Prelude.{IsOk, ◌≢◌}
use Rattle.std.specs.Io.KnownBytes.{Keeps}
use Rattle.ephemerals.specs.Orders.{Bytes}
use Rattle.learner_sync.specs.Learn.{whole_log}
use Rattle.observer_core.specs.declared.engine.Stop.{Stop}
use Rattle.observer_core.specs.declared.event.Event.{Event}
use Rattle.world.specs.declared.output.Output.{Output}
use Rattle.observer_core.specs.Machine.{Machine}
use Rattle.observer_core.specs.Plays.{PlaysEvents}
use Rattle.observer_core.specs.Play.{play}
use Rattle.replay.specs.Lines.{count_line}
use Rattle.replay.specs.declared.ending.Ending.{Ending}
use Rattle.replay.specs.declared.ending.Ending.TheVariants as endings
use Rattle.replay.proofs.Printing.{keeps_both, appends_kept, part_kept, part_of_more}
use Rattle.replay.specs.Writing.{WritesPart}
use Rattle.auditing.specs.Auditing.{log_after, AuditsLog, EndsAudit}
use Rattle.auditing.specs.declared.auditing.Uncounted.{Uncounted}
use Rattle.auditing.specs.declared.auditing.Uncounted.TheVariants.{NotClean, NoMemory}

-- If no allocation was refused, the machine is the one that is left.
left_is : (fed : Result (Unit {0}) Stop) (m : Machine) (events : List Event) (old outputs : List Output)
    (after : Option Machine) → IsOk fed → PlaysEvents fed (Some m) events old outputs after
    → after ≡ Some (play m events).after
left_is (Ok u) m events old outputs after ok p = p.1
left_is (Err e) m events old outputs after ok p = absurd (true≢false (sym ok))

pub fed_audits : (fed : Result (Unit {0}) Stop) (engine : Option Machine) (m : Machine) (events : List Event)
    (old outputs : List Output) (after : Option Machine) (path : Bytes) (r : Result (Option (ℤ × ℤ)) Uncounted)
    → engine ≡ Some m → PlaysEvents fed engine events old outputs after → (r ≢ Err NoMemory → IsOk fed)
    → ((n : Machine) → after ≡ Some n → AuditsLog (whole_log n.world.replica.learner) path r)
    → AuditsLog (log_after m events) path r
fed_audits fed engine m events old outputs after path (Ok found) is p ok audits =
    audits (play m events).after
    (left_is fed m events old outputs after (ok (λ e. cc))
    (subst (λ e. PlaysEvents fed e events old outputs after) is p))
fed_audits fed engine m events old outputs after path (Err NotClean) is p ok audits =
    audits (play m events).after
    (left_is fed m events old outputs after (ok (λ e. cc))
    (subst (λ e. PlaysEvents fed e events old outputs after) is p))
fed_audits fed engine m events old outputs after path (Err NoMemory) is p ok audits = tt

-- ---- flushing keeps the output

pub ends_kept : (ending : Ending) (text : List ℕ) (path : Bytes) (a b c : Option (List ℕ))
    → EndsAudit ending text path a b
    → Keeps b c → EndsAudit ending text path a c
ends_kept endings.Done text path a b c p q = (p.0, p.1, p.2, p.3, appends_kept a b c (count_line p.1.0 p.1.1) p.4 q)
ends_kept (endings.BadLine number) text path a b c p q = (p.0, keeps_both a b c p.1 q)
ends_kept endings.Failed text path a b c p q =
    elim p as (λ _. EndsAudit endings.Failed text path a c) [
      | inl same ↦ inl (keeps_both a b c same q)
      | inr found ↦ inr (found.0, found.1, found.2, found.3, part_kept a b c found.4 q)
    ]
ends_kept endings.NoMemory text path a b c p q = keeps_both a b c p q
ends_kept endings.NotClean text path a b c p q = (p.0, p.1, p.2, keeps_both a b c p.3 q)
ends_kept endings.NoNode text path a b c p q = (p.0, p.1, p.2, keeps_both a b c p.3 q)

-- An audit whose last flush failed.
pub flush_failed : (ending : Ending) (text : List ℕ) (path : Bytes) (a b c : Option (List ℕ))
    → EndsAudit ending text path a b
    → Keeps b c → EndsAudit endings.Failed text path a c
flush_failed endings.Done text path a b c p q =
    let line = count_line p.1.0 p.1.1 in
    inr (
      p.0,
      p.1,
      p.2,
      p.3,
      subst (WritesPart a c) (append-nil line) (part_of_more line [] (appends_kept a b c line p.4 q)),
    )
flush_failed (endings.BadLine number) text path a b c p q = inl (keeps_both a b c p.1 q)
flush_failed endings.Failed text path a b c p q = ends_kept endings.Failed text path a b c p q
flush_failed endings.NoMemory text path a b c p q = inl (keeps_both a b c p q)
flush_failed endings.NotClean text path a b c p q = inl (keeps_both a b c p.3 q)
flush_failed endings.NoNode text path a b c p q = inl (keeps_both a b c p.3 q)
