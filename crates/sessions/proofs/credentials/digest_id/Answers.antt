use Rattle.std.proofs.Common.{◌≡◌, ◌++◌, ap, ◌∙◌, string_bytes, append_assoc}
use Rattle.std.specs.Prelude.{codes}
use Rattle.sha1.specs.Sha1.{sha1}
use Rattle.base64.specs.Engines.{standard}
use Rattle.base64.specs.GeneralPurpose.{encode_of}
use Rattle.sessions.specs.Credentials.{user_of, digest_of}
use Rattle.sessions.proofs.credentials.digest_id.Goals as goal

pub returns : goal.returns
unfolding digest_of
returns c =
    let pushed : string_bytes c.push_str.new.self ≡ user_of c.args.text.now ++ codes ":" =
    c.in_ok-push_str.ensures.bytes ∙ (λ i. (c.in_ok-id.ensures.ok ∙ c.user_of.ensures) i ++ codes ":") in
    let hashed : c.digest.result ≡ sha1 c.args.text.now = c.digest.ensures ∙ ap sha1 c.as_bytes.ensures.value in
    let id : c.in_ok-new-2.field-0 ≡ digest_of c.args.text.now =
    c.in_ok-new-2.ensures ∙ c.as_bytes-2.ensures.value ∙ c.in_ok-encode_string.ensures.ok
    ∙ (λ i. pushed i ++ encode_of standard (hashed i))
    ∙ append_assoc (user_of c.args.text.now) (codes ":") (encode_of standard (sha1 c.args.text.now)) in
    λ i. record { scheme = c.in_ok-new.ensures i; id = id i }
