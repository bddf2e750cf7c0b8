use Rattle.std.proofs.Common.{ap, sym, ◌∙◌, ◌-◌, Some}
use Rattle.batcher.specs.Inner.Joining.{met_group}
use Rattle.batcher.proofs.Drafting.{for_no_path, for_paths, numbered_draft, unowned_as_before}
use Rattle.batcher.proofs.draft.Draft.group_for.Goals as goal

pub returns-then-is_empty-clause-draft : goal.returns-then-is_empty-clause-draft
returns-then-is_empty-clause-draft c =
    numbered_draft c.args.self.now c.met_by.new.owners c.requires c.in_ok-met.ensures.kept

pub returns-then-is_empty-clause-group : goal.returns-then-is_empty-clause-group
returns-then-is_empty-clause-group c =
    ap Some (c.saturating_sub.ensures ∙ ap (λ n. n - 1) (c.len.ensures ∙ c.args.self.now.groups.ok.0))
    ∙ sym (for_no_path c.args.self.now c.requires c.args.paths.now (sym c.is_empty.ensures ∙ c.if-is_empty.true))

pub returns-then-is_empty-clause-unowned : goal.returns-then-is_empty-clause-unowned
returns-then-is_empty-clause-unowned c =
    c.in_ok-met.ensures.unowned
    ∙ unowned_as_before c.args.self.now.owners c.met_by.new.owners c.args.paths.now c.in_ok-met.ensures.kept

pub returns-clause-draft : goal.returns-clause-draft
returns-clause-draft c =
    numbered_draft c.args.self.now c.met_by.new.owners c.requires c.in_ok-met.ensures.kept

pub returns-clause-group : goal.returns-clause-group
returns-clause-group c =
    c.met_group.ensures
    ∙ (λ i. met_group ((c.len-2.ensures ∙ c.args.self.now.groups.ok.0) i) (c.in_ok-met.ensures.met i))
    ∙ for_paths c.args.self.now c.requires c.args.paths.now (sym c.is_empty.ensures ∙ c.if-is_empty.false)

pub returns-clause-unowned : goal.returns-clause-unowned
returns-clause-unowned c =
    c.in_ok-met.ensures.unowned
    ∙ unowned_as_before c.args.self.now.owners c.met_by.new.owners c.args.paths.now c.in_ok-met.ensures.kept
