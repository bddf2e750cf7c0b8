use Rattle.std.proofs.Common.{◌≡◌, IfOk, IsTrue, subst}
use Rattle.txn_codec.specs.declared.txn.Body.{Body}
use Rattle.txn_codec.specs.declared.txn.Body.TheVariants as body
use Rattle.data_tree.specs.Meaning.{TxnEffect, effect_of_body}
use Rattle.audit.specs.Count.{count_after_triggers}
use Rattle.audit.proofs.Parts.{multi_ok}
use Rattle.audit.proofs.taking.take_body.Goals as goal

pub returns-in-Multi-clause-state : goal.returns-in-Multi-clause-state
returns-in-Multi-clause-state c =
    let parts = c.as_slice.ensures in
    let variant = c.in-Multi.is in
    let is : body.Multi c.as_slice.result.now ≡ c.args.txn.now.body = cc in
    subst
    (λ (b : Body). IfOk c.take_parts.result
    (λ clean. IsTrue clean → c.take_parts.new.tree ≡ (effect_of_body c.args.txn.now.header b c.args.tree.now).state))
    is
    (multi_ok (λ (m : TxnEffect). c.take_parts.new.tree ≡ m.state) c.args.txn.now.header c.as_slice.result.now
    c.args.tree.now c.take_parts.result c.take_parts.ensures.clean c.take_parts.ensures.state)

pub returns-in-Multi-clause-count : goal.returns-in-Multi-clause-count
returns-in-Multi-clause-count c =
    let parts = c.as_slice.ensures in
    let variant = c.in-Multi.is in
    let is : body.Multi c.as_slice.result.now ≡ c.args.txn.now.body = cc in
    subst
    (λ (b : Body). IfOk c.take_parts.result
    (λ clean. IsTrue clean → c.take_parts.new.count
    ≡ count_after_triggers c.args.path.now c.args.count.now c.args.txn.now.header.zxid
    (effect_of_body c.args.txn.now.header b c.args.tree.now).triggers))
    is
    (multi_ok
    (λ (m : TxnEffect). c.take_parts.new.count
    ≡ count_after_triggers c.args.path.now c.args.count.now c.args.txn.now.header.zxid m.triggers)
    c.args.txn.now.header c.as_slice.result.now c.args.tree.now c.take_parts.result c.take_parts.ensures.clean
    c.take_parts.ensures.count)
