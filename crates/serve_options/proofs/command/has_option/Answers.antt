use Rattle.std.proofs.Common.{rules, tests, ◌≡◌, Bool, List, [], ◌∷◌, map, refl, ap, sym, ◌∙◌}
use Rattle.std.specs.Prelude.{string_bytes, ◌||◌}
use Rattle.std.specs.List.{list_any}
use Rattle.std.specs.Str.{bytes_eq}
use Rattle.std.proofs.lemmas.Iterator.{YieldsList-from_slice}
use Rattle.std.proofs.lemmas.Iterator.Search.{any_from_yields_List}
use Rattle.serve_options.proofs.command.has_option.Goals as goal

any_map : {X Y : Type 0} (test : X → Bool) (h : Y → X) (ys : List Y)
    → list_any test (map h ys) ≡ list_any (λ y. test (h y)) ys
any_map test h [] = refl
any_map test h (y ∷ ys) = ap (λ b. test (h y) || b) (any_map test h ys)

pub returns : goal.returns
returns c =
    any_from_yields_List (λ word. bytes_eq (string_bytes word) c.args.option.now) _ _ _ c.any.ensures.ran
    (YieldsList-from_slice c.args.words.now c.iter.ensures.rest)
    (λ x b q k. search (rules, tests))
    ∙ sym (any_map (λ word. bytes_eq word c.args.option.now) string_bytes c.args.words.now)
