use Rattle.std.proofs.Common.{◌≡◌, ◌++◌, append_assoc, ap, refl, ◌∙◌}
use Rattle.server_words.specs.Texts.{line_at}
use Rattle.server_words.proofs.texts.put_client.Goals as goal

pub returns-in-Ok : goal.returns-in-Ok
returns-in-Ok c =
    let old = c.args.out.now.items in
    let client = c.args.client.now in
    let told : c.writeln.new.self.items ≡ old ++ line_at c.as_str-address.result.now client =
    c.in-Ok.ensures.bytes ∙ simp append_assoc refl in
    told ∙ ap (λ a. old ++ line_at a client) c.as_str-address.ensures
