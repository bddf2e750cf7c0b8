use Rattle.std.proofs.Common.{◌≡◌, suc, ◌==◌, Bool, true, false, [], ◌∷◌, length, Some, refl, sym, ap, ◌∙◌, arith}
use Rattle.std.specs.Cmp.{nat_cmp_total}
use Rattle.std.proofs.lemmas.Map.Lookups.{exact_unsigned}
use Rattle.std.proofs.lemmas.Bool.{eqb-true}
use Rattle.std.specs.FinMap as finmap
use Rattle.forwarding.specs.Queue.{RequestQueue}
use Rattle.forwarding.specs.Inner.{has_empty}
use Rattle.values.proofs.Keyed.{get-map_of}
use Rattle.forwarding.proofs.queues.Queues.has_empty.Goals as goal

pub returns-in-None : goal.returns-in-None
returns-in-None c = ap has_empty
    (c.in-None.ensures.value ∙ sym (get-map_of nat_cmp_total exact_unsigned c.self.inside.map c.args.number)
    ∙ ap (λ m. finmap.get m c.args.number) c.self.view_is)

is_empty : (q : RequestQueue) → (length q == 0) ≡ has_empty (Some q)
is_empty [] = refl
is_empty (r ∷ rest) = by (suc (length rest) == 0) refl
  where
    by : (b : Bool) → (suc (length rest) == 0) ≡ b → b ≡ false
    by true e = absurd (let f = eqb-true (suc (length rest)) 0 e in omega arith)
    by false e = refl

pub returns-in-Some : goal.returns-in-Some
returns-in-Some c =
    c.is_empty.ensures ∙ is_empty c.in-Some.queue.now
    ∙ ap has_empty
    (c.in-Some.ensures.value ∙ sym (get-map_of nat_cmp_total exact_unsigned c.self.inside.map c.args.number)
    ∙ ap (λ m. finmap.get m c.args.number) c.self.view_is)
