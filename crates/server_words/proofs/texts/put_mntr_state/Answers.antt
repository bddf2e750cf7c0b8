use Rattle.std.proofs.Common.{◌≡◌, ◌++◌, append_assoc, ap, refl, ◌∙◌}
use Rattle.server_words.specs.Texts.{mntr_state}
use Rattle.server_words.proofs.texts.put_mntr_state.Goals as goal

pub returns-in-Ok : goal.returns-in-Ok
returns-in-Ok c =
    let old = c.args.out.now.items in
    let told : c.write.new.self.items ≡ old ++ mntr_state c.as_str-version.result.now =
    c.in-Ok.ensures.bytes ∙ simp append_assoc refl in
    told ∙ ap (λ v. old ++ mntr_state v) c.as_str-version.ensures
