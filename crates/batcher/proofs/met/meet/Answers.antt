use Rattle.std.proofs.Common.{sym, ap, subst, ◌∙◌}
use Rattle.names.specs.Names.{number_among}
use Rattle.batcher.specs.Inner.Owners.{AreNumbered}
use Rattle.batcher.proofs.Numbered.{all_numbered, numbered_push}
use Rattle.batcher.proofs.met.meet.Goals as goal

pub returns-in_ok-push-in-None-clause-numbered : goal.returns-in_ok-push-in-None-clause-numbered
returns-in_ok-push-in-None-clause-numbered c =
    let names = c.number.new.self.names in
    let old = c.args.unowned.now.items in
    subst (AreNumbered names) (sym c.in_ok-push-in-None.ensures.items)
    (numbered_push names old _
    (all_numbered c.args.owners.now c.number.new.self c.in_ok-number.ensures.kept old c.requires.numbered)
    (ap (number_among names) c.new.ensures ∙ c.in_ok-number.ensures.number))

pub returns-in-Some-clause-numbered : goal.returns-in-Some-clause-numbered
returns-in-Some-clause-numbered c =
    all_numbered c.args.owners.now c.number.new.self c.in_ok-number.ensures.kept c.args.unowned.now.items
    c.requires.numbered
