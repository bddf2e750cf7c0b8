use Rattle.std.proofs.Common.{◌||◌, ap, sym, ◌∙◌}
use Rattle.std.specs.Cmp.{nat_cmp_total}
use Rattle.std.specs.FinSet as set
use Rattle.watch_manager.proofs.telling.is_told.Goals as goal

pub returns-then-contains : goal.returns-then-contains
returns-then-contains c =
    c.if-contains.true
    ∙ sym (set.contains-union nat_cmp_total c.args.watchers.now c.args.lasting.now c.args.connection
    ∙ ap (λ b. b || set.contains c.args.lasting.now c.args.connection) (sym c.contains.ensures ∙ c.if-contains.true))

pub returns-else-contains : goal.returns-else-contains
returns-else-contains c =
    c.contains-else-contains.ensures
    ∙ sym (set.contains-union nat_cmp_total c.args.watchers.now c.args.lasting.now c.args.connection
    ∙ ap (λ b. b || set.contains c.args.lasting.now c.args.connection) (sym c.contains.ensures ∙ c.if-contains.false))
