use Rattle.std.proofs.Common.{◌++◌, ap, sym, ◌∙◌, append-nil, append_assoc, w64, rules}
use Rattle.std.specs.FinMap as finmap
use Rattle.std.proofs.lemmas.Int.{to_z-of_z}
use Rattle.four_letter.specs.Inner.Owners.{owner_if_any}
use Rattle.four_letter.proofs.Owning.{owner_lines, owner_lines-owners}
use Rattle.four_letter.proofs.dump.put_owners.Goals as goal
use mir.Val.{SFits}

pub loop-session-preserved : goal.loop-session-preserved
loop-session-preserved c =
    let out = c.loop-session.out.items in
    let pairs = c.args.ephemerals.now in
    let session = c.in-Some.session.now in
    let fits : SFits w64 session = search rules in
    let rest = owner_lines pairs c.next.new.self in (
      tt,
      tt,
      ap (λ o. o ++ rest) (c.in_ok-put_owner.ensures
          ∙ ap (λ z. out ++ owner_if_any pairs z) (to_z-of_z w64 session fits))
          ∙ append_assoc out (owner_if_any pairs session) rest
          ∙ ap (λ xs. out ++ owner_lines pairs xs) (sym c.in-Some.ensures.steps)
          ∙ c.loop-session.invariant.2,
    )

pub returns : goal.returns
returns c =
    let out = c.loop-session.out.items in
    let pairs = c.args.ephemerals.now in
    sym (append-nil out)
    ∙ ap (λ xs. out ++ owner_lines pairs xs) (sym c.in-None.ensures.steps.0)
    ∙ c.loop-session.invariant.2
    ∙ ap (λ t. c.args.out.now.items ++ t) (owner_lines-owners pairs (finmap.entries c.args.timeouts.now))
