use Rattle.std.proofs.Common.{◌≡◌, ◌<◌, ◌+◌, ◌-◌, ℕ, false, List, [], length, get_or, refl, ap, sym, ◌∙◌, subst, rules, arith}
use Rattle.std.proofs.lemmas.Grind.{get_or_default_zero}
use Rattle.intake.specs.Links.{links_of, kept_at, KeepersAreAmong}
use Rattle.intake.proofs.Keeping.{rests_same, rests_on}
use Rattle.intake.proofs.Kept.{IsDoneFrom, among_put, among_removed, done_removed, none_done, next_done, all_done}
use Rattle.intake.proofs.links.Links.put_all_kept.Goals as goal

pub loop-left-init : goal.loop-left-init
loop-left-init c = record {
  rests = rests_same (links_of c.self.inside.map);
  waits = λ n. refl;
  within = omega (arith, c.len-left.ensures);
  among = c.self.invariant;
  done = (let P : ℕ → Type 0 = λ left. IsDoneFrom left c.self.inside.keeping.items (links_of c.self.inside.map) in
      let long : length c.self.inside.keeping.items ≡ c.len-left.result = search rules in
      subst P long (none_done c.self.inside.keeping.items (links_of c.self.inside.map) c.self.invariant));
}

pub invariant_of-self : goal.invariant_of-self
invariant_of-self c = c.loop-left.invariant.among

pub index-requires : goal.index-requires
index-requires c = omega (arith, c.loop-left.invariant.within, c.loop-left-test.true)

pub loop-left-preserved : goal.loop-left-preserved
loop-left-preserved c =
    let old = links_of c.loop-left.self-inside.map in
    let new = links_of c.put_kept.new.map in
    let keeping = c.loop-left.self-inside.keeping.items in
    let held = c.loop-left.invariant in
    let puts = c.put_kept.ensures.puts in
    let left : ℕ = c.loop-left.left - 1 in
    let within : left < length keeping = search rules in
    let is : c.index.result.now ≡ get_or keeping left 0 =
    c.index.ensures ∙ get_or_default_zero keeping left c.index.result.now within in
    let more : left + 1 ≡ c.loop-left.left = omega (arith, c.loop-left-test.true) in
    let P : ℕ → Type 0 = λ n. IsDoneFrom n keeping old in
    record {
      rests = rests_on (links_of c.self.inside.map) old new held.rests puts.rests;
      waits = λ n. puts.waits n ∙ held.waits n;
      within = omega (arith, held.within);
      among = among_put keeping old new c.index.result.now puts.others puts.fewer held.among;
      done = next_done keeping left old new c.index.result.now within is puts.others puts.full
          (subst P (sym more) held.done);
    }

pub loop-left-preserved-then-not-branch : goal.loop-left-preserved-then-not-branch
loop-left-preserved-then-not-branch c =
    let old = links_of c.loop-left.self-inside.map in
    let new = links_of c.put_kept.new.map in
    let keeping = c.loop-left.self-inside.keeping.items in
    let held = c.loop-left.invariant in
    let puts = c.put_kept.ensures.puts in
    let left : ℕ = c.loop-left.left - 1 in
    let within : left < length keeping = search rules in
    let is : c.index.result.now ≡ get_or keeping left 0 =
    c.index.ensures ∙ get_or_default_zero keeping left c.index.result.now within in
    let removed : c.swap_remove.result ≡ get_or keeping left 0 =
    c.swap_remove.ensures.value ∙ get_or_default_zero keeping left c.swap_remove.result within in
    let more : left + 1 ≡ c.loop-left.left = omega (arith, c.loop-left-test.true) in
    let P : ℕ → Type 0 = λ n. IsDoneFrom n keeping old in
    let Q : List ℕ → Type 0 = λ l. KeepersAreAmong l new in
    let R : List ℕ → Type 0 = λ l. IsDoneFrom left l new in
    let no : c.in_ok-put_kept.field-0 ≡ false = search rules in
    let none : kept_at new c.swap_remove.result ≡ [] =
    ap (kept_at new) (removed ∙ sym is) ∙ c.in_ok-put_kept.ensures.none no in
    record {
      rests = rests_on (links_of c.self.inside.map) old new held.rests puts.rests;
      waits = λ n. puts.waits n ∙ held.waits n;
      within = omega (arith, held.within, c.swap_remove.ensures.len);
      among = subst Q (sym c.swap_remove.ensures.items)
          (among_removed keeping left c.swap_remove.result new within removed none
          (among_put keeping old new c.index.result.now puts.others puts.fewer held.among));
      done = subst R (sym c.swap_remove.ensures.items)
          (done_removed keeping left c.swap_remove.result new within
          (next_done keeping left old new c.index.result.now within is puts.others puts.full
          (subst P (sym more) held.done)));
    }

pub returns-clause-full : goal.returns-clause-full
returns-clause-full c = λ n.
    let P : ℕ → Type 0 = λ left. IsDoneFrom left c.loop-left.self-inside.keeping.items
    (links_of c.loop-left.self-inside.map) in
    let none : c.loop-left.left ≡ 0 = omega (arith, c.loop-left-test.false) in
    all_done c.loop-left.self-inside.keeping.items (links_of c.loop-left.self-inside.map)
    (subst P none c.loop-left.invariant.done) n
