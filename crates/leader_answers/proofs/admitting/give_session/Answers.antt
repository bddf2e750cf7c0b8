use Rattle.std.proofs.Common.{ap, ◌∙◌}
use Rattle.std.specs.FinMap as finmap
use Rattle.sessions.specs.State.{SessionTable}
use Rattle.leader_answers.proofs.Admission.{closed_has_none}
use Rattle.leader_answers.proofs.admitting.give_session.Goals as goal

pub admit-requires : goal.admit-requires
admit-requires c =
    ap (λ (s : SessionTable). finmap.get s.connections c.args.number) c.close.ensures ∙ closed_has_none _ c.args.number
