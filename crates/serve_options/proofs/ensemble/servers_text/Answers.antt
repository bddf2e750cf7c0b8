use Rattle.std.proofs.Common.{rules, ◌≡◌, map, ap, subst, ◌∙◌}
use Rattle.std.specs.Prelude.{IfOk, string_bytes, option_map, codes}
use Rattle.std.specs.List.{join_by}
use Rattle.zoo_config.specs.Addresses.{address_spelling}
use Rattle.serve_options.specs.Ensemble.{tried_places}
use Rattle.serve_options.proofs.Joined.{join_map}
use Rattle.serve_options.proofs.ensemble.servers_text.Goals as goal

-- The bytes of the places are those that are tried.
pub returns : goal.returns
returns c =
    let places = c.as_slice.result.now in
    let master = option_map (λ port. port.now) c.args.master in
    let tried = tried_places master (map address_spelling c.args.addresses.now) in
    let same : map string_bytes places ≡ tried = search rules in
    subst (λ text. IfOk c.join.result (λ joined. string_bytes joined ≡ text))
    (join_map string_bytes (codes ",") places ∙ ap (join_by (λ place. place) (codes ",")) same)
    c.join.ensures.ok
