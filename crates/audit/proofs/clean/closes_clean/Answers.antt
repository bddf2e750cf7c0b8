use Rattle.std.proofs.Common.{rules, ◌≡◌, ◌∙◌, to_z, of_z, w64, FitsSigned}
use Rattle.std.proofs.lemmas.Int.{to_z-of_z}
use Rattle.std.specs.FinMap as finmap
use Rattle.std.specs.FinSet as set
use Rattle.ephemerals.specs.Orders.{Bytes}
use Rattle.ephemerals.specs.Pairs.{paths_of_session}
use Rattle.audit.specs.Clean.{is_childless}
use Rattle.audit.proofs.Lists.{same_in_order}
use Rattle.audit.proofs.clean.closes_clean.Goals as goal

pub returns : goal.returns
returns c =
    let fits : FitsSigned w64 c.args.header.now.client_id = search rules in
    let id : to_z w64 (of_z w64 c.args.header.now.client_id) ≡ c.args.header.now.client_id =
    to_z-of_z w64 c.args.header.now.client_id fits in
    let owned : set.from_list c.paths_of.result.now ≡ paths_of_session c.args.header.now.client_id c.args.tree.now.pairs =
    c.paths_of.ensures.paths ∙ (λ i. paths_of_session (id i) (c.ephemerals.ensures i)) in
    c.are_childless.ensures
    ∙ same_in_order (λ (path : Bytes). is_childless (finmap.get c.args.tree.now.nodes path)) c.paths_of.result.now
    (paths_of_session c.args.header.now.client_id c.args.tree.now.pairs) owned
