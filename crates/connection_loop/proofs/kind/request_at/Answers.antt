use Rattle.std.proofs.Common.{◌≡◌, ℕ, ◌≤◌, List, length, take, ℤ, None, if◌then◌else◌, ap, sym, ◌∙◌}
use Rattle.std.specs.Int.{w32, from_be_bytes, cast_signed}
use Rattle.std.proofs.lemmas.Bool.{le-ltb}
use Rattle.std.proofs.lemmas.Int.{to_z-of_z}
use Rattle.settings.specs.declared.dialect.Dialect.{Dialect}
use Rattle.client_records.specs.Kinds.{request_kind_in}
use Rattle.connection_loop.specs.Kinds.{request_at}
use Rattle.connection_loop.proofs.kind.request_at.Goals as goal

-- The type of four bytes and more.
at_least_four : (dialect : Dialect) (bytes : List ℕ) (code : ℤ) → 4 ≤ length bytes
    → code ≡ cast_signed w32 (from_be_bytes w32 (take 4 bytes))
    → request_kind_in dialect code ≡ request_at dialect bytes
unfolding request_at
at_least_four dialect bytes code enough is =
    let kind = request_kind_in dialect (cast_signed w32 (from_be_bytes w32 (take 4 bytes))) in
    ap (request_kind_in dialect) is ∙ sym (ap (λ b. if b then None else kind) (le-ltb (length bytes) 4 enough))

pub returns-in-Some : goal.returns-in-Some
returns-in-Some c =
    let front = c.in-Some.ensures.cases in
    let code = c.from_be_bytes.ensures ∙ ap (λ b. cast_signed w32 (from_be_bytes w32 b)) front.same in
    c.from_code.ensures ∙ at_least_four c.args.dialect c.args.bytes.now _ front.enough
    (to_z-of_z w32 _ (record { sfits = c.from_be_bytes.type_inv }) ∙ code)
