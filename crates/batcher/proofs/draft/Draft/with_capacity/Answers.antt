use Rattle.batcher.specs.declared.draft.Draft.{Draft}
use Rattle.batcher.proofs.Drafting.{no_draft}
use Rattle.batcher.proofs.draft.Draft.with_capacity.Goals as goal

pub returns-clause-draft : goal.returns-clause-draft
returns-clause-draft c =
    let draft : Draft = record {
      txns = c.in_ok-with_capacity.field-0;
      numbers = c.in_ok-with_capacity-2.field-0;
      owners = c.keyed.result;
      groups = c.new.result;
    } in
    no_draft draft c.in_ok-with_capacity.ensures.items c.in_ok-with_capacity-2.ensures.items c.keyed.ensures.beside
    c.keyed.ensures.none c.new.ensures.items
