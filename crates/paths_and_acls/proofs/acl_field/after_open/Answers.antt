use Rattle.std.proofs.Common.{Option, Some, None}
use Rattle.std.specs.Option.{MatchOption, IfSome}
use Rattle.std.proofs.lemmas.Bool.Decides.{Decides-eqb}
use Rattle.std.proofs.lemmas.Slice.Eq.{strip_prefix_is}
use Rattle.jute.specs.Format.{number_bytes}
use Rattle.jute.specs.Owned.{id_in, acl_in}
use Rattle.paths_and_acls.proofs.OpenList.{open_bytes}
use Rattle.paths_and_acls.proofs.acl_field.after_open.Goals as goal

if_some : {X : Type 0} (r : Option X) (P : Type 0) (Q : X → Type 0) → MatchOption r P Q → IfSome r Q
if_some None P Q m = tt
if_some (Some x) P Q m = m

pub returns : goal.returns
unfolding id_in acl_in number_bytes
returns c = if_some c.strip_prefix.result _ _
    (strip_prefix_is Decides-eqb c.args.bytes.now open_bytes c.strip_prefix.result c.strip_prefix.ensures.cases)
