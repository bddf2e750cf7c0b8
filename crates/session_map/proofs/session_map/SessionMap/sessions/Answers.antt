use Rattle.std.proofs.Common.{ap, sym, ◌∙◌}
use Rattle.std.specs.Prelude.{is_some}
use Rattle.std.specs.Cmp.{int_cmp_total}
use Rattle.std.proofs.lemmas.Map.Lookups.{exact_signed}
use Rattle.std.specs.FinMap as finmap
use Rattle.values.proofs.Keyed.{get-map_of}
use Rattle.session_map.proofs.session_map.SessionMap.sessions.Goals as goal

pub returns-clause-members : goal.returns-clause-members
returns-clause-members c session =
    sym (c.keys.ensures.has session)
    ∙ ap is_some (sym (get-map_of int_cmp_total exact_signed c.self.inside.map session))
    ∙ ap (λ s. finmap.contains_key s session) c.self.view_is
