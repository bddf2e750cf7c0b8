use Rattle.std.proofs.Common.{◌≡◌, map, drop}
use Rattle.zoo_config.specs.Keys.{is_one_of}
use Rattle.zoo_config.proofs.key.is_one_of.Given as goal

abbrev pub invariant-loop-one : goal.invariant-loop-one
invariant-loop-one l =
    is_one_of (map (λ one. one.now) l.all) l.text ≡ is_one_of (map (λ one. one.now) (drop l.one-index l.all)) l.text
