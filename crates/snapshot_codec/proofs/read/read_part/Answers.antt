use Rattle.std.proofs.Common.{Some, None, refl, ap, ◌∙◌}
use Rattle.std.proofs.lemmas.Result.{err_from_is_err_and}
use Rattle.snapshot_codec.specs.Parts.{Count, Path, Part, sessions_from, acls_from}
use Rattle.snapshot_codec.specs.declared.part.ImagePart.TheVariants as part
use Rattle.snapshot_codec.specs.declared.part.PartPhase.TheVariants.{SessionCount, Sessions, AclCount, Acls, Root, Nodes, Body, Signature}
use Rattle.snapshot_codec.proofs.Reading.{shown_as, refused_as}
use Rattle.snapshot_codec.proofs.read.read_part.Goals as goal

pub returns-in_ok-count-in-SessionCount : goal.returns-in_ok-count-in-SessionCount
returns-in_ok-count-in-SessionCount c =
    shown_as c.args.dialect SessionCount c.args.phase.now c.sessions_from.result
    (Count c.in_ok-count-in-SessionCount.count)
    c.args.reader.now c.read_count.new.reader None c.in-SessionCount.is c.in_ok-count-in-SessionCount.ensures
    c.sessions_from.ensures refl

pub returns-in_ok-session-in-Sessions : goal.returns-in_ok-session-in-Sessions
returns-in_ok-session-in-Sessions c =
    shown_as c.args.dialect (Sessions c.in-Sessions.left) c.args.phase.now c.sessions_from-in-Sessions.result
    (Part (part.Session c.in_ok-session-in-Sessions.session)) c.args.reader.now c.read_session.new.reader _
    c.in-Sessions.is c.in_ok-session-in-Sessions.ensures
    (c.sessions_from-in-Sessions.ensures ∙ ap sessions_from c.saturating_sub.ensures) refl

pub returns-in_ok-count-in-AclCount : goal.returns-in_ok-count-in-AclCount
returns-in_ok-count-in-AclCount c =
    shown_as c.args.dialect AclCount c.args.phase.now c.acls_from.result (Count c.in_ok-count-in-AclCount.count)
    c.args.reader.now c.read_count-in-AclCount.new.reader None c.in-AclCount.is c.in_ok-count-in-AclCount.ensures
    c.acls_from.ensures refl

pub returns-in_err-entry-in-Acls : goal.returns-in_err-entry-in-Acls
returns-in_err-entry-in-Acls c =
    let p = err_from_is_err_and c.from_residual-in_err-entry-in-Acls.result
    c.from_residual-in_err-entry-in-Acls.ensures.1 in
    rw (p.1, p.2) (refused_as c.args.dialect (Acls c.in-Acls.left) c.args.phase.now c.in_err-entry-in-Acls.field-0.0
    c.args.reader.now c.read_acl.new.reader c.in-Acls.is c.in_err-entry-in-Acls.ensures)

pub returns-in_ok-entry-in-Acls : goal.returns-in_ok-entry-in-Acls
returns-in_ok-entry-in-Acls c =
    shown_as c.args.dialect (Acls c.in-Acls.left) c.args.phase.now c.acls_from-in-Acls.result
    (Part (part.Acl c.in_ok-entry-in-Acls.entry)) c.args.reader.now c.read_acl.new.reader _
    c.in-Acls.is c.in_ok-entry-in-Acls.ensures
    (c.acls_from-in-Acls.ensures ∙ ap acls_from c.saturating_sub-in-Acls.ensures) refl

pub returns-in_ok-read_root-in-Root : goal.returns-in_ok-read_root-in-Root
returns-in_ok-read_root-in-Root c =
    shown_as c.args.dialect Root c.args.phase.now _
    (Path c.in_ok-read_root-in-Root.field-0) c.args.reader.now c.read_root.new.reader None
    c.in-Root.is c.in_ok-read_root-in-Root.ensures refl refl

pub returns-in_ok-read_signature-in-Signature : goal.returns-in_ok-read_signature-in-Signature
returns-in_ok-read_signature-in-Signature c =
    shown_as c.args.dialect Signature c.args.phase.now SessionCount (Part part.End) c.args.reader.now
    c.read_signature.new.reader
    (Some part.End)
    c.in-Signature.is c.in_ok-read_signature-in-Signature.ensures refl refl

pub returns-in-Some : goal.returns-in-Some
returns-in-Some c =
    shown_as c.args.dialect Nodes c.args.phase.now (Body c.in-Some.path)
    (Path c.in-Some.path) c.args.reader.now c.read_next.new.reader None
    c.in-Nodes.is (rw c.in-Some.is at c.in_ok-read_next-in-Nodes.ensures) refl refl
