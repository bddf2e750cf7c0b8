use Rattle.std.proofs.Common.{rules, ◌≡◌, ◌≤◌, List, ℕ, [], ◌∷◌, ◌++◌, ◌+◌, map, take, length, get_or, sym, ap, subst, ◌∙◌, arith}
use Rattle.std.proofs.lemmas.List.{take_more, take_all, map-append, length-map}
use Rattle.std.proofs.lemmas.List.Splits.{length-slice_split}
use Rattle.std.specs.Prelude.{◌==◌}
use Rattle.serve_options.specs.Words.{parts_of}
use Rattle.serve_options.specs.Values.{ArePlaces}
use Rattle.serve_options.specs.declared.value.Address.{Address}
use Rattle.serve_options.proofs.Places.{one_more, same_length}
use Rattle.serve_options.proofs.value.addresses_of.Goals as goal

-- The address of one part more.
pub loop-part-preserved : goal.loop-part-preserved
loop-part-preserved c =
    let pushed : c.push.new.self.items ≡ c.loop-part.addresses.items ++ c.in-Some.address ∷ [] = search rules in
    let parts = c.as_slice-part-items.result.now in
    let k = c.loop-part.part-index in
    let before = map (λ part. part.now) (take k parts) in
    let part = get_or parts k _ in
    let read : map (λ part. part.now) (take (k + 1) parts) ≡ before ++ part.now ∷ [] =
    ap (map (λ part. part.now)) (take_more parts k _ c.loop-part-test.true) ∙ map-append _ (take k parts) (part ∷ []) in
    subst (λ (texts : List (List ℕ)). ArePlaces texts c.push.new.self.items) (sym read)
    (subst (λ (addresses : List Address). ArePlaces (before ++ part.now ∷ []) addresses) (sym pushed)
    (one_more before c.loop-part.addresses.items part.now c.in-Some.address c.loop-part.invariant c.in-Some.ensures))

-- As many as there are parts.
pub returns-clause-length : goal.returns-clause-length
returns-clause-length c =
    let texts = parts_of c.args.text.now in
    let parts = c.as_slice-part-items.result.now in
    let addresses = c.loop-part.addresses.items in
    let all : parts ≡ c.in_ok-parts.parts.items = search rules in
    let read : map (λ part. part.now) (take c.loop-part.part-index parts) ≡ texts =
    ap (map (λ part. part.now)) (take_all c.loop-part.part-index parts c.loop-part-test.false ∙ all)
    ∙ c.in_ok-parts.ensures in
    let same : length texts ≡ length addresses =
    same_length texts addresses (subst (λ (l : List (List ℕ)). ArePlaces l addresses) read c.loop-part.invariant) in
    let few : length c.in_ok-parts.parts.items ≤ 64 = search rules in
    let long : length texts ≡ length c.in_ok-parts.parts.items =
    ap length (sym c.in_ok-parts.ensures) ∙ length-map c.in_ok-parts.parts.items _ in
    let one : 1 ≤ length texts = omega (arith, length-slice_split (λ letter. letter == 44) c.args.text.now) in
    search (rules, same, few, long, one)
