use Rattle.std.proofs.Common.{◌≡◌, [], ◌++◌, ap, ◌∙◌, take, w64}
use Rattle.std.proofs.lemmas.Int.{to_z-of_z}
use Rattle.sha1.specs.Sha1.{sha1}
use Rattle.sessions.specs.Credentials.{keyed_password, id_bytes}
use Rattle.sessions.proofs.credentials.keyed_password.Goals as goal

pub returns : goal.returns
unfolding keyed_password
returns c =
    let bytes : c.to_be_bytes.result ≡ id_bytes c.args.session =
    c.to_be_bytes.ensures ∙ ap id_bytes (to_z-of_z w64 c.args.session c.ranges.session) in
    c.copy_from_slice.ensures.after
    ∙ ap (take 16) (c.finalize-digest.ensures (c.as_slice.result.now ++ c.to_be_bytes.result)
    (c.update-2.ensures c.as_slice.result.now (c.update.ensures [] c.new-hasher.ensures))
    ∙ (λ i. sha1 (c.as_slice.ensures i ++ bytes i)))
