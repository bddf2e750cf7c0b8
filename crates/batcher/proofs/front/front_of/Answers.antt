use Rattle.std.proofs.Common.{◌∙◌, ap, sym, arith}
use Rattle.batcher.specs.Cut.{is_batch, groups_of}
use Rattle.batcher.proofs.Drafting.{nothing_but_barrier, front_is, is_front}
use Rattle.batcher.proofs.Taking.{alone}
use Rattle.batcher.proofs.front.front_of.Goals as goal

pub returns-then-count-eq0-clause-front : goal.returns-then-count-eq0-clause-front
returns-then-count-eq0-clause-front c =
    let barrier =
    nothing_but_barrier c.args.limits.now c.args.txns.now c.in_ok-draft.draft c.in_ok-draft.ensures.draft
    c.in_ok-draft.ensures.taken c.in_ok-draft.ensures.limits c.len-count.result
    (c.len-count.ensures ∙ c.in_ok-draft.draft.txns.ok.0) c.if-count-eq0.true in
    let is = alone c.args.limits.now c.args.txns.now c.min.result c.min.ensures barrier in
    record {
      within = omega arith;
      groups = c.new.ensures.items ∙ is.no_groups ∙ sym (ap groups_of is.taken);
      batch = ap is_batch is.taken ∙ is.allowed;
    }

pub returns-then-count-eq0-clause-cut : goal.returns-then-count-eq0-clause-cut
returns-then-count-eq0-clause-cut c =
    let barrier =
    nothing_but_barrier c.args.limits.now c.args.txns.now c.in_ok-draft.draft c.in_ok-draft.ensures.draft
    c.in_ok-draft.ensures.taken c.in_ok-draft.ensures.limits c.len-count.result
    (c.len-count.ensures ∙ c.in_ok-draft.draft.txns.ok.0) c.if-count-eq0.true in
    (alone c.args.limits.now c.args.txns.now c.min.result c.min.ensures barrier).taken

pub returns-clause-front : goal.returns-clause-front
returns-clause-front c =
    is_front c.args.limits.now c.args.txns.now c.in_ok-draft.draft c.in_ok-draft.ensures.draft
    c.in_ok-draft.ensures.taken c.in_ok-draft.ensures.limits c.len-count.result
    (c.len-count.ensures ∙ c.in_ok-draft.draft.txns.ok.0) c.if-count-eq0.false

pub returns-clause-cut : goal.returns-clause-cut
returns-clause-cut c =
    front_is c.args.limits.now c.args.txns.now c.in_ok-draft.draft c.in_ok-draft.ensures.draft
    c.in_ok-draft.ensures.taken c.in_ok-draft.ensures.limits c.len-count.result
    (c.len-count.ensures ∙ c.in_ok-draft.draft.txns.ok.0) c.if-count-eq0.false
