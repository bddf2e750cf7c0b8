use Rattle.std.proofs.Common.{◌≡◌, rules, refl, subst, sym, ◌∙◌, List, IfOk, IfErr}
use Rattle.std.proofs.lemmas.Fn.{answers_by}
use Rattle.std.specs.List.Sorted.{IsStrictlySortedBy}
use Rattle.ephemerals.specs.Orders.{Bytes, path_cmp}
use Rattle.ephemerals.specs.Inner.Runs.{IsAt, IsGapFor}
use Rattle.ephemerals.proofs.Places.{searched}
use Rattle.ephemerals.proofs.run.Run.place.Goals as goal

pub returns : goal.returns
returns c =
    let facts = c.binary_search_by.ensures in
    let by_text = facts.position (λ (t : Bytes). path_cmp t c.args.text.now)
    (answers_by _ _ (λ f. f.0.now ≡ c.args.text.now) (λ f a r g called same. (search rules, search rules)) _ refl) in
    let is = c.deref.ensures.value ∙ c.self.view_is in
    let both = searched c.deref.result.now c.args.text.now (subst (IsStrictlySortedBy path_cmp) (sym is) c.requires) c.binary_search_by.result facts.bound by_text in
    record {
      found = subst (λ (texts : List Bytes). IfOk c.binary_search_by.result (IsAt c.args.text.now texts)) is both.0;
      absent = subst (λ (texts : List Bytes). IfErr c.binary_search_by.result (IsGapFor c.args.text.now texts)) is both.1;
    }
