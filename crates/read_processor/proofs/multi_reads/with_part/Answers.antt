use Rattle.std.proofs.Common.{◌≡◌, ◌++◌, List, ℕ, ℤ, pos, false, w32, to_z, of_z, Option, Some, IfOk, refl, subst, ap, sym, ◌∙◌, rules}
use Rattle.std.specs.Ordering.{int_eq}
use Rattle.jute.specs.Format.{int}
use Rattle.client_records.specs.Multi.{multi_header}
use Rattle.read_processor.specs.Inner.Parts.{body_followed_by}
use Rattle.read_processor.specs.MultiReads.{header_of_error, part_shown}
use Rattle.read_processor.proofs.multi_reads.with_part.Goals as goal

pub returns-then-error-ne-OK : goal.returns-then-error-ne-OK
returns-then-error-ne-OK c =
    let same : to_z w32 (of_z w32 c.args.error) ≡ c.args.error = search rules in
    let fails : int_eq c.args.error (pos 0) ≡ false = search rules in
    let twice : ℤ → Option (List ℕ) = λ z. Some (multi_header.written (header_of_error z) ++ int.written z) in
    let shows : part_shown c.args.kind (record { error = c.args.error; body = c.args.shown.now }) ≡ twice c.args.error =
    rw fails refl in
    subst (λ (x : Option (List ℕ)). IfOk c.with_error.result (λ more. more ≡ body_followed_by c.args.body x))
    (ap twice same ∙ sym shows) c.with_error.ensures
