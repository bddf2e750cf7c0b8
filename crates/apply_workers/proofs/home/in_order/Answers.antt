use Rattle.std.proofs.Common.{rules, ◌≡◌, ◌<◌, ◌≤◌, [], All, sym, ap, subst, ◌∙◌, drop, length, get_or, arith, drop_of_length-le}
use Rattle.std.specs.Vec.Iter.{into_iter_items}
use Rattle.batcher.specs.Cut.{groups_of}
use Rattle.apply_workers.specs.Inner.{put_at, put_each_at}
use Rattle.apply_workers.proofs.Loops.{nothing_left, next_is}
use Rattle.apply_workers.proofs.CameHome.{put_no_share, put_length, one_share_more, all_placed, members_within}
use Rattle.apply_workers.proofs.home.in_order.Goals as goal

pub returns-in_default : goal.returns-in_default
returns-in_default c whole are =
    let at = c.loop-group in
    let empty : into_iter_items at.rest ≡ [] =
    nothing_left (into_iter_items at.rest) (sym at.invariant.len ∙ c.in_default.ensures.cases.0) in
    let count : length c.in_ok-all.all.items ≡ length c.args.batch.now = search rules in
    sym (put_no_share at.all.items (drop at.group-index (groups_of c.args.batch.now)))
    ∙ ap (λ xs. put_each_at at.all.items (drop at.group-index (groups_of c.args.batch.now)) xs) (sym empty)
    ∙ at.invariant.placed
    ∙ all_placed c.args.batch.now (search rules) c.requires.groups whole c.in_ok-all.all.items c.args.shares.items count
    are

pub put_at-requires : goal.put_at-requires
put_at-requires c =
    let at = c.loop-group in
    let l : at.group-index < length (groups_of c.args.batch.now) = search rules in
    let is : c.group-item.result ≡ get_or (groups_of c.args.batch.now) at.group-index c.group-item.result =
    search rules in
    let h = members_within c.args.batch.now at.group-index c.group-item.result l in
    subst (λ ms. All (λ p. p < length at.all.items) ms) (sym (c.members.ensures ∙ ap (λ g. g.members) is))
    (subst (λ n. All (λ p. p < n) (get_or (groups_of c.args.batch.now) at.group-index c.group-item.result).members)
    (sym at.invariant.count) h)

pub loop-group-preserved : goal.loop-group-preserved
loop-group-preserved c =
    let at = c.loop-group in
    let steps = c.in-Some.ensures.cases in
    let l : at.group-index < length (groups_of c.args.batch.now) = search rules in
    let is : c.group-item.result ≡ get_or (groups_of c.args.batch.now) at.group-index c.group-item.result =
    search rules in
    let put = c.put_at.ensures in
    let short = ap length steps.0 in
    let gone = steps.1 in
    let was = at.invariant.len in
    record {
      placed = one_share_more at.all.items c.put_at.new.all.items _ _ c.group-item.result _ _ _ _
          (next_is (groups_of c.args.batch.now) at.group-index c.group-item.result l is) steps.0
          (put ∙ ap (λ ms. put_at at.all.items ms c.in-Some.share) c.members.ensures)
          at.invariant.placed;
      count = ap length put ∙ put_length at.all.items c.members.result.now c.in-Some.share ∙ at.invariant.count;
      len = omega arith;
    }

pub returns : goal.returns
returns c whole are =
    let at = c.loop-group in
    let past : length (groups_of c.args.batch.now) ≤ at.group-index = search rules in
    let count : length c.in_ok-all.all.items ≡ length c.args.batch.now = search rules in
    sym (ap (λ cs. put_each_at at.all.items cs (into_iter_items at.rest))
    (drop_of_length-le (groups_of c.args.batch.now) past))
    ∙ at.invariant.placed
    ∙ all_placed c.args.batch.now (search rules) c.requires.groups whole c.in_ok-all.all.items c.args.shares.items count
    are
