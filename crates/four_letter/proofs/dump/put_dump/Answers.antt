use Rattle.std.proofs.Common.{◌≡◌, ◌++◌, OnOk, length, ap, sym, subst, ◌∙◌, codes}
use Rattle.std.specs.List.{flat_map}
use Rattle.std.specs.FinMap as finmap
use Rattle.four_letter.specs.Dumped.{owning_sessions}
use Rattle.four_letter.specs.Texts.{counted_heading, timeout_line, owner_block}
use Rattle.four_letter.proofs.Lines.{more}
use Rattle.four_letter.proofs.dump.put_dump.Goals as goal

pub returns : goal.returns
returns c =
    let old = c.args.out.now.items in
    let timeouts = c.args.timeouts.now in
    let pairs = c.args.ephemerals.now in
    let title = codes "SessionTracker dump:\n" in
    let sessions = counted_heading (codes "Global Sessions") (finmap.len timeouts) in
    let lines = flat_map timeout_line (finmap.entries timeouts) in
    let ephemerals = codes "ephemeral nodes dump:\n" in
    let owners = owning_sessions timeouts pairs in
    let first = c.put.new.out.items in
    let second = c.put_heading.new.out.items in
    let third = c.put_timeouts.new.out.items in
    let fourth = c.put-2.new.out.items in
    let fifth = c.put_heading-2.new.out.items in
    subst (λ text. OnOk c.put_owners.result (c.put_owners.new.out.items ≡ text))
    (more old fifth (title ++ sessions ++ lines ++ ephemerals ++ counted_heading (codes "Sessions with Ephemerals ") (length owners))
    (flat_map (owner_block pairs) owners) (c.in_ok-put_heading-2.ensures
    ∙ ap (λ n. fourth ++ counted_heading (codes "Sessions with Ephemerals ") n) c.owner_count.ensures
    ∙ more old fourth (title ++ sessions ++ lines ++ ephemerals)
    (counted_heading (codes "Sessions with Ephemerals ") (length owners)) (c.in_ok-put-2.ensures
    ∙ more old third (title ++ sessions ++ lines) ephemerals (c.in_ok-put_timeouts.ensures
    ∙ more old second (title ++ sessions) lines (c.in_ok-put_heading.ensures
    ∙ ap (λ n. first ++ counted_heading (codes "Global Sessions") n) (c.len.ensures.value ∙ ap length c.iter.ensures.entries ∙ sym (finmap.len-entries timeouts))
    ∙ more old first title sessions c.in_ok-put.ensures)))))
    c.put_owners.ensures
