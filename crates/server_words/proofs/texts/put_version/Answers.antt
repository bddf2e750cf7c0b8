use Rattle.std.proofs.Common.{◌≡◌, ◌++◌, append_assoc, ap, refl, ◌∙◌}
use Rattle.server_words.specs.Texts.{version_line}
use Rattle.server_words.proofs.texts.put_version.Goals as goal

pub returns-in-Ok : goal.returns-in-Ok
returns-in-Ok c =
    let old = c.args.out.now.items in
    let told : c.writeln.new.self.items ≡ old ++ version_line c.as_str-version.result.now =
    c.in-Ok.ensures.bytes ∙ simp append_assoc refl in
    told ∙ ap (λ v. old ++ version_line v) c.as_str-version.ensures
