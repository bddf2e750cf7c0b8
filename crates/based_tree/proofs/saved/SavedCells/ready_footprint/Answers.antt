use Rattle.std.proofs.Common.{◌≡◌, rules, subst}
use Rattle.std.proofs.lemmas.Result.{on_ok_weaker}
use Rattle.txn_codec.specs.Row.{footprint_of_body}
use Rattle.based_tree.specs.Inner.{AreSaved, is_quiet}
use Rattle.based_tree.proofs.Changes.{ready_if_saved}
use Rattle.based_tree.proofs.saved.SavedCells.ready_footprint.Goals as goal

pub returns-clause-here : goal.returns-clause-here
returns-clause-here c =
    let txn = c.args.txn.now in
    let same : c.as_slice.result.now ≡ footprint_of_body txn.body = search rules in
    on_ok_weaker c.save_all.result
    (λ here.
    ready_if_saved (footprint_of_body txn.body) (is_quiet txn.body) txn.header.zxid c.save_all.new.self c.args.tree.now
    (subst (λ ps. AreSaved ps c.save_all.new.self) same here))
    c.save_all.ensures.here
