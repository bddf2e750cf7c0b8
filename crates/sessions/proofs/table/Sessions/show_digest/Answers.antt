use Rattle.std.proofs.Common.{◌≡◌, ap, sym, ◌∙◌, subst}
use Rattle.sessions.specs.Sessions.{AuthResult, add_id}
use Rattle.sessions.specs.Agreement.{SessionsAgree}
use Rattle.sessions.proofs.Undone.{undone}
use Rattle.sessions.proofs.table.Sessions.show_digest.Goals as goal

pub returns-in-Err-clause-err : goal.returns-in-Err-clause-err
returns-in-Err-clause-err c =
    let after : (add_id c.args.self.now c.args.connection c.in_ok-super_id.field-0).after ≡ _ =
    ap (λ (x : AuthResult). x.after) c.in_ok-show.ensures.ok ∙ sym c.in-Err.ensures.err ∙ sym c.self.view_is in
    rw (c.keep_first.ensures, c.ids-count.ensures.ids) (undone c.args.self.now _ c.args.connection _ after)

pub invariant_of-self : goal.invariant_of-self
invariant_of-self c =
    let after : (add_id c.args.self.now c.args.connection c.in_ok-super_id.field-0).after ≡ _ =
    ap (λ (x : AuthResult). x.after) c.in_ok-show.ensures.ok ∙ sym c.in-Err.ensures.err ∙ sym c.self.view_is in
    rw (c.keep_first.ensures, c.ids-count.ensures.ids)
    (subst SessionsAgree (sym (undone c.args.self.now _ c.args.connection _ after)) c.is_super_digest.ensures.agrees)
