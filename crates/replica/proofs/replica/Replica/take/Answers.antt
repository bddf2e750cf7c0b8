use Rattle.quorum_packet.specs.Lending.{owned_item}
use Rattle.replica.proofs.Carrying.{item-alone, item-taken, replies-written, news-answerable}
use Rattle.replica.proofs.replica.Replica.take.Goals as goal

pub carry_out_all-requires : goal.carry_out_all-requires
carry_out_all-requires c =
    item-alone c.acts.ensures c.args.loader.now c.args.self.now (owned_item c.args.item) c.in_ok-acts.acts
    c.learn.new.self c.in_ok-acts.ensures.0 c.in_ok-acts.ensures.1

pub returns-clause-takes : goal.returns-clause-takes
returns-clause-takes c =
    item-taken c.acts.ensures c.args.loader.now c.args.self.now (owned_item c.args.item) c.in_ok-acts.acts
    c.learn.new.self c.in_ok-acts.ensures.0 c.in_ok-acts.ensures.1 c.carry_out_all.result c.carry_out_all.new.loader
    c.carry_out_all.new.self c.carry_out_all.ensures

pub returns-clause-writable : goal.returns-clause-writable
returns-clause-writable c w =
    let i = owned_item c.args.item in
    let taken =
    item-taken c.acts.ensures c.args.loader.now c.args.self.now i c.in_ok-acts.acts c.learn.new.self
    c.in_ok-acts.ensures.0 c.in_ok-acts.ensures.1 c.carry_out_all.result c.carry_out_all.new.loader
    c.carry_out_all.new.self c.carry_out_all.ensures in
    replies-written c.acts.ensures c.args.loader.now c.args.self.now i c.carry_out_all.result
    c.carry_out_all.new.loader c.carry_out_all.new.self taken w

pub returns-clause-answerable : goal.returns-clause-answerable
returns-clause-answerable c w =
    let i = owned_item c.args.item in
    let taken =
    item-taken c.acts.ensures c.args.loader.now c.args.self.now i c.in_ok-acts.acts c.learn.new.self
    c.in_ok-acts.ensures.0 c.in_ok-acts.ensures.1 c.carry_out_all.result c.carry_out_all.new.loader
    c.carry_out_all.new.self c.carry_out_all.ensures in
    news-answerable c.acts.ensures c.args.loader.now c.args.self.now i c.carry_out_all.result
    c.carry_out_all.new.loader c.carry_out_all.new.self taken w
