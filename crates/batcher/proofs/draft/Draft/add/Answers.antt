use Rattle.std.proofs.Common.{sym, ap, ◌∙◌}
use Rattle.batcher.specs.declared.draft.Draft.{Draft}
use Rattle.batcher.specs.Inner.Joining.{with_member}
use Rattle.batcher.specs.Inner.Owners.{paths_of}
use Rattle.batcher.proofs.Drafting.{gained, txns_more, count_in}
use Rattle.batcher.proofs.draft.Draft.add.Goals as goal

pub returns : goal.returns
returns c =
    let old = c.args.self.now in
    let new : Draft = record {
      txns = c.push-2.new.self;
      numbers = c.push.new.self;
      owners = c.own.new.self;
      groups = c.add_to.new.groups;
    } in
    let paths = paths_of c.args.unowned.now in
    let done =
    gained old new c.args.group c.args.txn.now paths c.requires.draft c.requires.group c.requires.unowned
    c.in_ok-push.ensures.items (txns_more old new c.args.txn c.in_ok-push-2.ensures.items) c.own.ensures.beside
    c.own.ensures.owners
    (c.in_ok-add_to.ensures
    ∙ ap (λ place. with_member old.groups.items c.args.group place paths)
    (c.len.ensures ∙ old.txns.ok.0 ∙ sym (count_in old))) in
    record { draft = done.draft; taken = done.taken }
