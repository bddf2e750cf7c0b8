use Rattle.std.proofs.Common.{◌≡◌, Ok, sym, ap, ◌∙◌, refl}
use Rattle.std.proofs.lemmas.Result.{err_from_is_err_and}
use Rattle.snapshot_codec.specs.Parts.{Part}
use Rattle.snapshot_codec.specs.declared.part.ImagePart.TheVariants as part
use Rattle.snapshot_codec.specs.declared.part.PartPhase.TheVariants.{Body}
use Rattle.snapshot_codec.proofs.Reading.{shown_as, body_read, body_refused}
use Rattle.snapshot_codec.proofs.read.read_node.Goals as goal

pub returns-in_err-body : goal.returns-in_err-body
returns-in_err-body c = λ dialect.
    let p = err_from_is_err_and c.from_residual.result c.from_residual.ensures.1 in
    rw (p.1, p.2) (body_refused dialect c.requires.0 c.args.phase.now c.args.phase.now c.in_err-body.field-0.0
    c.args.reader.now
    c.read_body.new.reader c.requires.1 c.in_err-body.ensures refl)

pub returns-in-Body : goal.returns-in-Body
returns-in-Body c = λ dialect.
    let is : Body c.in-Body.path ≡ Body c.requires.0 = c.in-Body.ensures.value ∙ c.requires.1 in
    let same : c.in-Body.path ≡ c.requires.0 = cc in
    shown_as dialect (Body c.in-Body.path) c.args.phase.now c.replace.new.dest (Part (part.Node c.at.result))
    c.args.reader.now
    c.read_body.new.reader _ (sym c.in-Body.ensures.value)
    (body_read dialect c.in-Body.path
    (c.in_ok-body.body.bytes, (c.in_ok-body.body.acl, c.in_ok-body.body.stat)) c.args.reader.now
    c.read_body.new.reader c.in_ok-body.ensures ∙ ap (λ n. Ok (Part (part.Node n), c.read_body.new.reader))
    (sym c.at.ensures))
    c.in-Body.ensures.after refl
