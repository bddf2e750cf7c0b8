use Rattle.std.proofs.Common.{ap, sym, subst, ◌∙◌, ℤ, w64, to_z, of_z}
use Rattle.std.proofs.lemmas.Int.{to_z-of_z}
use Rattle.forwarding.specs.Agreement.{PendingAgrees}
use Rattle.forwarding.specs.State.{PendingTable}
use Rattle.forwarding.specs.Pending.{connecting_to}
use Rattle.forwarding.proofs.Dropping.{none_waits}
use Rattle.forwarding.proofs.table.Pending.connecting.Goals as goal

-- src/table.rt:124:5
pub returns-clause-only : goal.returns-clause-only
returns-clause-only c =
    let session = to_z w64 (of_z w64 c.args.session) in
    none_waits c.args.self.now c.args.session (subst PendingAgrees c.self.view_is c.self.invariant) c.get.result
    (sym (c.get.ensures ∙ ap (λ (s : PendingTable). connecting_to s session) c.self.view_is
    ∙ ap (λ (key : ℤ). connecting_to c.args.self.now key) (to_z-of_z w64 c.args.session c.ranges.session)))
