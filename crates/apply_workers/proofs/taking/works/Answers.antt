use Rattle.std.proofs.Common.{rules, arith, ◌≡◌, ◌<◌, subst, sym, All, ap, map, length, length-append, ◌∙◌, get_or}
use Rattle.std.proofs.lemmas.List.{length-map}
use Rattle.std.specs.Vec.Iter.{into_iter_items}
use Rattle.batcher.specs.Cut.{groups_of}
use Rattle.apply_workers.specs.Works.{cells_of}
use Rattle.apply_workers.proofs.CameHome.{members_within}
use Rattle.apply_workers.proofs.taking.works.Goals as goal

pub invariant_of-push : goal.invariant_of-push
invariant_of-push c =
    let at = c.loop-cells in
    let inv = at.invariant in
    let group = c.index-groups-len.result in
    let all = ap length inv.cells in
    let both = length-append (map cells_of at.works.items) (into_iter_items at.cells-iterator) in
    let done = length-map at.works.items cells_of in
    let one = ap length c.in-Some.ensures.steps.0 in
    let count = c.requires in
    let here = c.len.ensures in
    let l : c.len.result < length (groups_of c.args.batch.now) = omega arith in
    let is : group ≡ get_or (groups_of c.args.batch.now) c.len.result group = search rules in
    let h = members_within c.args.batch.now c.len.result group l in
    record {
      within = subst (λ ms. All (λ p. p < length c.txns.result.now) ms)
          (sym (c.members.ensures ∙ ap (λ g. g.members) is))
          (subst (λ ts. All (λ p. p < length ts) (get_or (groups_of c.args.batch.now) c.len.result group).members)
          (sym c.txns.ensures.txns) h);
    }
