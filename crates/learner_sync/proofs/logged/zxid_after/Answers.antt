use Rattle.std.proofs.Common.{rules, sym, ◌∙◌, w64}
use Rattle.std.proofs.lemmas.Int.{to_z-of_z}
use mir.Val.{SFits}
use Rattle.learner_sync.proofs.Zxids.{zxid-last}
use Rattle.learner_sync.proofs.logged.zxid_after.Goals as goal

pub returns-in-Some : goal.returns-in-Some
returns-in-Some c =
    let txn = c.in-Some.txn.now in
    let fits : SFits w64 txn.header.zxid = search rules in
    to_z-of_z w64 txn.header.zxid fits ∙ sym (zxid-last c.args.zxid c.args.log.now txn c.in-Some.ensures.value)
