use Rattle.std.proofs.Common.{◌≡◌, Option, Some, None, OnSome, IsSome, ap, sym, subst, ◌∙◌, refl}
use Rattle.std.specs.Option.{option_copied_mut}
use Rattle.std.specs.Borrow.{MutBor}
use Rattle.std.specs.FinMap as finmap
use Rattle.pairs.proofs.Hashed.{map_of, get-hashed, map_of-insert}
use Rattle.node_map.proofs.node_map.NodeMap.get_mut.Goals as goal

-- What holds where a look-up finds a value holds where it borrows one.
on_some : {Y : Type 0} {P : Type 0} (r : Option (MutBor Y)) (x : Option Y) → option_copied_mut r ≡ x
    → (IsSome x → P) → OnSome r P
on_some None x e f = tt
on_some (Some m) x e f = f (subst IsSome e refl)

pub returns : goal.returns
returns c = (
  (
    refl,
    λ w. on_some c.get_mut.result _ c.get_mut.ensures.value
        (λ some. map_of-insert c.args.path.now c.self.inside.map (c.get_mut.follows.lender w) w
        ((c.get_mut.follows.holds w).3 some) ∙ ap (λ m. finmap.insert m c.args.path.now w) c.self.view_is),
    ap (λ m. map_of m.entries) c.get_mut.follows.holds-at-none ∙ c.self.view_is,
  ),
  c.get_mut.ensures.value
      ∙ sym (get-hashed c.self.inside.map.entries c.args.path.now)
      ∙ ap (λ m. finmap.get m c.args.path.now) c.self.view_is,
)
