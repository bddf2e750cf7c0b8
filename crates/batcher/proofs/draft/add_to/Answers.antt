use Rattle.std.proofs.Common.{◌∙◌, ◌≡◌, ap, arith, length}
use Rattle.batcher.specs.Inner.Joining.{with_txn_at}
use Rattle.batcher.specs.Inner.Owners.{paths_of}
use Rattle.batcher.proofs.Drafting.{put_within, put_behind}
use Rattle.batcher.proofs.draft.add_to.Goals as goal

pub returns-then-group-len : goal.returns-then-group-len
returns-then-group-len c =
    let long : c.len.result ≡ length c.args.groups.now.items = c.len.ensures ∙ c.args.groups.now.ok.0 in
    put_within c.add.result c.args.groups.now.items c.args.group c.args.place (paths_of c.args.paths.now) c.index_mut.result.now
    c.add.new.self (omega arith) c.index_mut.ensures.value c.add.ensures

pub returns : goal.returns
returns c =
    let long : c.len.result ≡ length c.args.groups.now.items = c.len.ensures ∙ c.args.groups.now.ok.0 in
    c.in_ok-push.ensures.items
    ∙ put_behind c.args.groups.now.items c.args.group c.args.place (paths_of c.args.paths.now) c.add-2.new.self (omega arith)
    (c.in_ok-add.ensures ∙ ap (λ class. with_txn_at class c.args.place (paths_of c.args.paths.now)) c.new-opened.ensures)
