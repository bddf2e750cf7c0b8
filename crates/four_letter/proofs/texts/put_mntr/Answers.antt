use Rattle.std.proofs.Common.{◌≡◌, ◌++◌, codes, ap, subst, ◌∙◌, OnOk}
use Rattle.std.specs.Prelude.{decimal}
use Rattle.four_letter.specs.Texts.{name_value_line, node_count}
use Rattle.four_letter.proofs.Lines.{more}
use Rattle.four_letter.proofs.texts.put_mntr.Goals as goal

pub returns : goal.returns
returns c =
    let f = c.args.figures.now in
    let old = c.args.out.now.items in
    let state = codes "zk_server_state\tobserver\n" in
    let connections = name_value_line (codes "zk_num_alive_connections\t") (decimal f.connections) in
    let nodes = name_value_line (codes "zk_znode_count\t") (decimal (node_count f)) in
    let watches = name_value_line (codes "zk_watch_count\t") (decimal f.watched.watches) in
    let pairs = name_value_line (codes "zk_ephemerals_count\t") (decimal f.pairs) in
    let first = c.put.new.out.items in
    let second = c.put_count.new.out.items in
    let third = c.put_count-2.new.out.items in
    let fourth = c.put_count-3.new.out.items in
    subst (λ text. OnOk c.put_count-4.result (c.put_count-4.new.out.items ≡ text))
    (more old fourth (state ++ connections ++ nodes ++ watches) pairs (c.in_ok-put_count-3.ensures
    ∙ more old third (state ++ connections ++ nodes) watches (c.in_ok-put_count-2.ensures
    ∙ ap (λ n. second ++ name_value_line (codes "zk_znode_count\t") (decimal n)) c.node_count.ensures
    ∙ more old second (state ++ connections) nodes (c.in_ok-put_count.ensures
    ∙ more old first state connections c.in_ok-put.ensures))))
    c.put_count-4.ensures
