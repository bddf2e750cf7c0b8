use Rattle.std.proofs.Common.{ap, ◌∙◌}
use Rattle.jute.specs.Format.{vector_at}
use Rattle.jute.specs.Owned.{acl_in}
use Rattle.paths_and_acls.proofs.OpenList.{open_read}
use Rattle.paths_and_acls.proofs.acl_field.AclField.read.Goals as goal

pub returns-in-Some : goal.returns-in-Some
returns-in-Some c =
    rw (c.open.ensures, c.new.ensures)
    (ap (vector_at (acl_in c.args.surrogates).read) (rw c.rest.ensures at c.in-Some.ensures)
    ∙ open_read c.args.surrogates c.in-Some.rest.now)
