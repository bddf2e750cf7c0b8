use Rattle.auditing.proofs.Feeding.{fed_audits}
use Rattle.auditing.proofs.auditing.feed.Goals as goal

pub returns : goal.returns
returns c =
    λ m is_engine.
    fed_audits c.feed_inline-fed.result _ m _ _ _ _ _ c.audit_fed.result is_engine c.feed_inline-fed.ensures
    c.audit_fed.ensures.fed c.audit_fed.ensures.audited
