use Rattle.std.proofs.Common.{ap, ◌∙◌, arith, Some}
use Rattle.sessions.proofs.Texts.{shows_nothing, too_long, shows_text}
use Rattle.sessions.proofs.table.digest_text.Goals as goal

pub returns-then-bytes-gt-AUTH_LIMIT : goal.returns-then-bytes-gt-AUTH_LIMIT
returns-then-bytes-gt-AUTH_LIMIT c =
    rw (c.in-Some.is, c.in-Some-bytes.is)
    (too_long c.in-Some.scheme.now c.in-Some-bytes.bytes.now c.if-bytes-gt-AUTH_LIMIT.true)

pub returns-in-Err : goal.returns-in-Err
returns-in-Err c =
    rw (c.in-Some.is, c.in-Some-bytes.is)
    (shows_nothing c.in-Some.scheme.now c.in-Some-bytes.bytes.now c.in-Err.ensures.cases.0)

pub returns : goal.returns
returns c =
    rw (c.in-Some.is, c.in-Some-bytes.is)
    (ap (λ x. Some x) c.in-Ok.ensures.cases.0
    ∙ shows_text c.in-Some.scheme.now c.in-Some-bytes.bytes.now c.if-ne.ensures
    (omega (arith, c.if-bytes-gt-AUTH_LIMIT.false)) c.in-Ok.ensures.cases.1)
