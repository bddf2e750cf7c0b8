use Rattle.std.proofs.Common.{◌≡◌, map, drop}
use Rattle.zoo_config.specs.Keys.{begins_as_one_of}
use Rattle.zoo_config.proofs.key.begins_as_one_of.Given as goal

abbrev pub invariant-loop-front : goal.invariant-loop-front
invariant-loop-front l =
    begins_as_one_of (map (λ front. front.now) l.fronts) l.text
    ≡ begins_as_one_of (map (λ front. front.now) (drop l.front-index l.fronts)) l.text
