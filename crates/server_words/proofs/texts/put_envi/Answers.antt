use Rattle.std.proofs.Common.{◌≡◌, ◌++◌, append_assoc, ap, refl, ◌∙◌}
use Rattle.server_words.specs.Texts.{envi_text}
use Rattle.server_words.proofs.texts.put_envi.Goals as goal

pub returns-in-Ok : goal.returns-in-Ok
returns-in-Ok c =
    let old = c.args.out.now.items in
    let told : c.write.new.self.items ≡ old ++ envi_text c.as_str-version.result.now =
    c.in-Ok.ensures.bytes ∙ simp append_assoc refl in
    told ∙ ap (λ v. old ++ envi_text v) c.as_str-version.ensures
