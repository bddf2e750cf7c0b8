use Rattle.std.proofs.Common.{◌≡◌, ◌++◌, codes, ap, subst, ◌∙◌, w64, rules, OnOk}
use Rattle.std.specs.Prelude.{decimal}
use Rattle.std.proofs.lemmas.Int.{to_z-of_z}
use Rattle.four_letter.specs.Texts.{name_value_line, prefixed_hex, node_count}
use Rattle.four_letter.proofs.Lines.{more}
use Rattle.four_letter.proofs.texts.put_srvr.Goals as goal
use mir.Val.{SFits}

pub returns : goal.returns
returns c =
    let f = c.args.figures.now in
    let fits : SFits w64 f.last = search rules in
    let old = c.args.out.now.items in
    let connections = name_value_line (codes "Connections: ") (decimal f.connections) in
    let zxid = name_value_line (codes "Zxid: ") (prefixed_hex f.last) in
    let mode = codes "Mode: observer\n" in
    let first = c.put_count.new.out.items in
    let second = c.put_hex.new.out.items in
    let third = c.put.new.out.items in
    let nodes = name_value_line (codes "Node count: ") (decimal (node_count f)) in
    subst (λ text. OnOk c.put_count-2.result (c.put_count-2.new.out.items ≡ text))
    (ap (λ n. third ++ name_value_line (codes "Node count: ") (decimal n)) c.node_count.ensures
    ∙ more old third (connections ++ zxid ++ mode) nodes (c.in_ok-put.ensures
    ∙ more old second (connections ++ zxid) mode (c.in_ok-put_hex.ensures
    ∙ ap (λ z. first ++ name_value_line (codes "Zxid: ") (prefixed_hex z)) (to_z-of_z w64 f.last fits)
    ∙ more old first connections zxid c.in_ok-put_count.ensures)))
    c.put_count-2.ensures
