use Rattle.std.proofs.Common.{◌≡◌, ℕ, ℤ, ◌+◌, ◌<◌, ◌≤◌, List, ◌∷◌, length, drop, get_or, drop-cons, add-one, Option, None, IfOk, w32, to_z, of_z, sym, ap, subst, ◌∙◌, arith, rules}
use Rattle.std.proofs.Math.ListN.{drop_of_length-le}
use Rattle.jute.specs.declared.owned.Id.{Id}
use Rattle.client_records.specs.declared.multi.ReadPart.{ReadPart}
use Rattle.data_tree.specs.State.{State}
use Rattle.read_processor.specs.Inner.Parts.{body_followed_by}
use Rattle.read_processor.specs.MultiReads.{look_at_part, part_shown, parts_shown, and_then_shown}
use Rattle.read_processor.specs.declared.shown.Look.{Look}
use Rattle.read_processor.proofs.Longer.{shown_after, none_after}
use Rattle.read_processor.proofs.multi_reads.body_of_parts.Goals as goal

left_is : (parts : List ReadPart) (i : ℕ) (part : ReadPart) → i < length parts → part ≡ get_or parts i part
    → drop i parts ≡ part ∷ drop (i + 1) parts
left_is parts i part lt is = drop-cons parts i part lt ∙ (λ j. sym is j ∷ drop (sym (add-one i) j) parts)

-- What is left shows the next part first.
next_shown : (s : State) (ids : List Id) (parts : List ReadPart) (i : ℕ) (part : ReadPart) → i < length parts
    → part ≡ get_or parts i part
    → parts_shown s ids (drop i parts)
    ≡ and_then_shown (part_shown part.kind (look_at_part s ids part)) (parts_shown s ids (drop (i + 1) parts))
unfolding parts_shown
next_shown s ids parts i part lt is = ap (parts_shown s ids) (left_is parts i part lt is)

pub returns-in_default : goal.returns-in_default
returns-in_default c =
    let s = c.args.tree.now in
    let ids = c.args.ids.now in
    let parts = c.args.parts.now in
    let part = c.part-item.result in
    let i = c.loop-part.part-index in
    let body = c.loop-part.body in
    let seen = c.in_ok-seen.seen in
    let lt : i < length parts = omega arith in
    let same : to_z w32 (of_z w32 seen.error) ≡ seen.error = search rules in
    let first = part_shown part.kind (look_at_part s ids part) in
    let others = parts_shown s ids (drop (i + 1) parts) in
    let shows : c.in_ok-longer.field-0 ≡ body_followed_by body first =
    c.in_ok-longer.ensures
    ∙ ap (λ (z : ℤ). body_followed_by body (part_shown part.kind (record { error = z; body = seen.body }))) same
    ∙ ap (λ (l : Look). body_followed_by body (part_shown part.kind l)) c.in_ok-seen.ensures in
    let none : body_followed_by body first ≡ None = sym shows ∙ search rules in
    sym (none_after body first others none)
    ∙ ap (body_followed_by body) (sym (next_shown s ids parts i part lt c.part-item.is))
    ∙ c.loop-part.invariant

pub loop-part-preserved : goal.loop-part-preserved
loop-part-preserved c =
    let s = c.args.tree.now in
    let ids = c.args.ids.now in
    let parts = c.args.parts.now in
    let part = c.part-item.result in
    let i = c.loop-part.part-index in
    let body = c.loop-part.body in
    let seen = c.in_ok-seen.seen in
    let lt : i < length parts = omega arith in
    let same : to_z w32 (of_z w32 seen.error) ≡ seen.error = search rules in
    let first = part_shown part.kind (look_at_part s ids part) in
    let others = parts_shown s ids (drop (i + 1) parts) in
    let shows : c.in_ok-longer.field-0 ≡ body_followed_by body first =
    c.in_ok-longer.ensures
    ∙ ap (λ (z : ℤ). body_followed_by body (part_shown part.kind (record { error = z; body = seen.body }))) same
    ∙ ap (λ (l : Look). body_followed_by body (part_shown part.kind l)) c.in_ok-seen.ensures in
    shown_after body c.in-Some.longer first others (sym shows ∙ c.in-Some.is)
    ∙ ap (body_followed_by body) (sym (next_shown s ids parts i part lt c.part-item.is))
    ∙ c.loop-part.invariant

pub returns : goal.returns
unfolding parts_shown
returns c =
    let s = c.args.tree.now in
    let ids = c.args.ids.now in
    let parts = c.args.parts.now in
    let body = c.loop-part.body in
    let past : length parts ≤ c.loop-part.part-index = omega arith in
    let whole = ap (λ (ps : List ReadPart). body_followed_by body (parts_shown s ids ps))
    (sym (drop_of_length-le parts past)) ∙ c.loop-part.invariant in
    subst (λ (x : Option (List ℕ)). IfOk c.with_end.result (λ b. b ≡ x)) whole c.with_end.ensures
