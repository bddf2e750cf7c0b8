use Rattle.std.proofs.Common.{sym, ap, ◌∙◌, subst, T, eqb→eq}
use Rattle.watch_manager.specs.Watches.{fire}
use Rattle.std.proofs.lemmas.List.{nil_from_length}
use Rattle.watch_manager.proofs.Silent.{silent}
use Rattle.watch_manager.proofs.Unwatched.{no_events, none_left}
use Rattle.watch_manager.proofs.watches.Watches.fire.Goals as goal

pub returns-then-is_empty-clause-events : goal.returns-then-is_empty-clause-events
returns-then-is_empty-clause-events c =
    c.new.ensures.items
    ∙ sym (ap (λ w. (fire w c.args.triggers.now).events) (c.is_empty.ensures.0 c.if-is_empty.true)
    ∙ no_events c.args.triggers.now)

pub returns-then-is_empty-clause-left : goal.returns-then-is_empty-clause-left
returns-then-is_empty-clause-left c =
    let none = c.is_empty.ensures.0 c.if-is_empty.true in
    none ∙ none_left c.args.triggers.now ∙ sym (ap (λ w. (fire w c.args.triggers.now).left) none)

pub returns-then-is_empty-2-clause-left : goal.returns-then-is_empty-2-clause-left
returns-then-is_empty-2-clause-left c =
    let empty = nil_from_length c.in_ok-events.events.items (sym c.in_ok-events.events.ok.0
    ∙ eqb→eq c.in_ok-events.events.len 0 (subst T (sym c.if-is_empty-2.true ∙ c.is_empty-2.ensures) tt)) in
    silent c.args.self.now c.args.triggers.now (sym c.in_ok-events.ensures ∙ empty)
