use Rattle.std.proofs.Common.{◌≡◌, ◌<◌, ◌-◌, length, get_or, [], sym, ap, subst, ◌∙◌, arith}
use Rattle.std.specs.Ordering.{is_lt}
use Rattle.ephemerals.specs.Orders.{Bytes, path_cmp}
use Rattle.ephemerals.specs.Inner.Runs.{ends_below}
use Rattle.ephemerals.proofs.JoinedRuns.{ends_below_is}
use Rattle.ephemerals.proofs.run.Run.ends_below.Goals as goal

pub returns-in-Some : goal.returns-in-Some
returns-in-Some c =
    let text = c.args.text.now in
    let run = c.deref.result.now in
    let some : 0 < length run = c.in-Some.ensures.item.3.0 in
    let last : c.in-Some.last.now ≡ get_or run (length run - 1) [] = c.in-Some.ensures.item.3.1 [] in
    c.is_lt.ensures
    ∙ ap is_lt (c.cmp.ensures ∙ ap (λ (t : Bytes). path_cmp t text) (c.as_str.ensures ∙ last))
    ∙ sym (ends_below_is text run [] some)
    ∙ ap (ends_below text) (c.deref.ensures.value ∙ c.self.view_is)
