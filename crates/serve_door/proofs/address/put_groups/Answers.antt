use Rattle.std.proofs.Common.{◌≡◌, ℕ, suc, ◌+◌, ◌++◌, ◌∙◌, length, sym, ap, string_bytes, slice_index, append-nil, append_assoc, take, arith, refl}
use Rattle.std.proofs.lemmas.List.{take_all}
use Rattle.serve_door.specs.Addresses.{next_text, groups_text}
use Rattle.serve_door.proofs.Groups.{groups_more}
use Rattle.serve_door.proofs.address.put_groups.Goals as goal

pub loop-group-init : goal.loop-group-init
loop-group-init c =
    (λ _. refl, λ more. absurd (omega (arith, more)), sym (append-nil (string_bytes c.args.text.now)))

pub loop-group-preserved : goal.loop-group-preserved
loop-group-preserved c =
    let xs = c.segments-group-items.result in
    let i = c.loop-group.group-index in
    let before = string_bytes c.args.text.now in
    let next = next_text c.loop-group.is_first (slice_index xs i) in
    let all : length xs ≡ 8 = omega (arith, c.segments-group-items.type_inv) in
    let sum : suc i ≡ i + 1 = omega arith in (
      λ none. absurd (omega (arith, none)),
      λ _. refl,
      c.in_ok-put_next.ensures ∙ ap (λ l. l ++ next) c.loop-group.invariant.2
          ∙ append_assoc before (groups_text (take i xs)) next
          ∙ ap (λ l. before ++ l) (groups_more xs i c.loop-group.is_first (omega (arith, all, c.loop-group-test.true))
          c.loop-group.invariant.0 c.loop-group.invariant.1)
          ∙ ap (λ (n : ℕ). before ++ groups_text (take n xs)) sum,
    )

pub returns : goal.returns
returns c =
    let xs = c.segments-group-items.result in
    let all : length xs ≡ 8 = omega (arith, c.segments-group-items.type_inv) in
    c.loop-group.invariant.2
    ∙ ap (λ l. string_bytes c.args.text.now ++ groups_text l)
    (take_all c.loop-group.group-index xs (omega (arith, all, c.loop-group-test.false)) ∙ c.segments-group-items.ensures)
