use Rattle.std.proofs.Common.{ap, subst, refl}
use Rattle.std.specs.Prelude.{IsSome}
use Rattle.intake.specs.Links.{links_of}
use Rattle.world.proofs.NatMaps.{seen}
use Rattle.intake.proofs.Keeping.{written_over, none_there}
use Rattle.intake.proofs.Kept.{puts_kept_at, puts_kept_none, none_left}
use Rattle.intake.proofs.links.put_kept.Goals as goal

pub returns : goal.returns
returns c =
    let now = c.put_kept.new.self in
    let old = links_of c.args.map.now in
    let new = seen (c.get_mut.follows.lender now).entries in
    let w = written_over c.args.map.now (c.get_mut.follows.lender now) old c.args.number
    c.in-Some.link.now now
    refl c.in-Some.ensures.value
    ((c.get_mut.follows.holds now).3 (subst IsSome c.in-Some.ensures.value refl)) in
    record {
      puts = puts_kept_at old c.args.number c.in-Some.link.now now new w c.put_kept.ensures.outbox
          c.put_kept.ensures.inbox c.put_kept.ensures.slot c.put_kept.ensures.owes c.put_kept.ensures.full
          c.put_kept.ensures.none;
      none = none_left c.put_kept.result old c.args.number c.in-Some.link.now now new w c.put_kept.ensures.keeps;
    }

pub returns-in-None : goal.returns-in-None
returns-in-None c =
    let old = links_of c.args.map.now in
    let new = seen c.get_mut.follows.lender-at-none.entries in
    let none = puts_kept_none old new c.args.number (ap (λ m. seen m.entries) c.get_mut.follows.holds-at-none)
    (none_there c.args.map.now old c.args.number refl c.in-None.ensures.value) in
    record { puts = none.0; none = λ no. none.1 }
