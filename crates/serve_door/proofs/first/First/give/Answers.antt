use Rattle.std.proofs.Common.{◌+◌, ◌-◌, ◌≤◌, ◌∙◌, ap, arith, drop, length, length-take}
use Rattle.serve_door.specs.Beginnings.{Beginning}
use Rattle.serve_door.proofs.Beginnings.{left_after}
use Rattle.serve_door.proofs.first.First.give.Goals as goal

pub returns-clause-rest : goal.returns-clause-rest
returns-clause-rest c =
    let f = c.self.inside in
    let count = c.min-count.result in
    let held = ap (λ (b : Beginning). length b.bytes) c.self.view_is in
    let most = length-take (f.len - f.at) (drop f.at f.bytes) in
    let given = ap length c.waiting.ensures in
    let inside : f.at + count ≤ f.len = omega (arith, most, held, given) in
    let same = left_after f.bytes f.at f.len count inside ∙ ap (λ (b : Beginning). drop count b.bytes) c.self.view_is in
    λ i. record { bytes = same i; is_last = (c.self.view_is i).is_last }
