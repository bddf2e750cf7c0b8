use Rattle.std.proofs.Common.{◌≡◌, refl, sym, ap, ◌∙◌, ◌++◌, ◌∷◌, [], arith, length}
use Rattle.batcher.proofs.Drafting.{full_takes_none, without_group, past_the_last, into_group}
use Rattle.batcher.proofs.draft.Draft.take.Goals as goal

pub returns-then-len-batch-clause-taken : goal.returns-then-len-batch-clause-taken
returns-then-len-batch-clause-taken c =
    let long : c.len.result ≡ length c.args.self.now.txns.items = c.len.ensures ∙ c.args.self.now.txns.ok.0 in
    let most = c.batch.ensures.batch in
    (full_takes_none c.args.limits.now c.args.self.now c.requires.draft c.args.txn.now (omega arith), refl)

pub returns-in-None-clause-taken : goal.returns-in-None-clause-taken
returns-in-None-clause-taken c =
    let long : c.len.result ≡ length c.args.self.now.txns.items = c.len.ensures ∙ c.args.self.now.txns.ok.0 in
    let most = c.batch.ensures.batch in (
      without_group c.args.limits.now c.args.self.now c.requires.draft c.args.txn.now (omega arith)
          (sym c.in_ok-is_barrier.ensures ∙ c.if-branch.false) c.args.paths.now c.requires.paths
          (sym c.in_ok-group_for.ensures.group ∙ c.in-None.is),
      c.in_ok-group_for.ensures.taken,
    )

pub returns-then-group-groups-clause-taken : goal.returns-then-group-groups-clause-taken
returns-then-group-groups-clause-taken c =
    let long : c.len.result ≡ length c.args.self.now.txns.items = c.len.ensures ∙ c.args.self.now.txns.ok.0 in
    let most = c.batch.ensures.batch in
    let groups = c.groups.ensures.groups in (
      past_the_last c.args.limits.now c.args.self.now c.requires.draft c.args.txn.now (omega arith)
          (sym c.in_ok-is_barrier.ensures ∙ c.if-branch.false) c.args.paths.now c.requires.paths c.in-Some.group
          (sym c.in_ok-group_for.ensures.group ∙ c.in-Some.is) (omega arith),
      c.in_ok-group_for.ensures.taken,
    )

pub returns-clause-taken : goal.returns-clause-taken
returns-clause-taken c =
    let long : c.len.result ≡ length c.args.self.now.txns.items = c.len.ensures ∙ c.args.self.now.txns.ok.0 in
    let most = c.batch.ensures.batch in
    let groups = c.groups.ensures.groups in (
      c.in-Some.group,
      (
        into_group c.args.limits.now c.args.self.now c.requires.draft c.args.txn.now (omega arith)
            (sym c.in_ok-is_barrier.ensures ∙ c.if-branch.false) c.args.paths.now c.requires.paths c.in-Some.group
            (sym c.in_ok-group_for.ensures.group ∙ c.in-Some.is) (omega arith),
        c.in_ok-add-in-Some.ensures.taken ∙ ap (λ ts. ts ++ (c.in-Some.group, c.args.txn.now) ∷ []) c.in_ok-group_for.ensures.taken,
      ),
    )
