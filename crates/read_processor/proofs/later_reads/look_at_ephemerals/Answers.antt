use Rattle.std.proofs.Common.{◌≡◌, [], pos, nat_eq, ap, ◌∙◌, to_z, of_z, w64}
use Rattle.std.specs.List.{filter, starts_with}
use Rattle.std.specs.Option.{unwrap_or}
use Rattle.std.proofs.lemmas.Int.{to_z-of_z}
use Rattle.ephemerals.specs.Orders.{sorted_names}
use Rattle.ephemerals.specs.Pairs.{paths_of_session}
use Rattle.client_records.specs.Fields.{names_format}
use Rattle.read_processor.specs.Limits.{fitting_body}
use Rattle.read_processor.specs.LaterReads.{ephemerals_of}
use Rattle.read_processor.proofs.later_reads.look_at_ephemerals.Goals as goal

pub returns : goal.returns
returns c =
    let id : to_z w64 (of_z w64 c.args.session) ≡ c.args.session = to_z-of_z w64 c.args.session c.ranges.session in
    let front = unwrap_or c.args.prefix.now [] in
    let found : c.in_ok-names.names.items ≡ ephemerals_of c.args.tree.now c.args.session c.args.prefix.now =
    c.in_ok-names.ensures
    ∙ (λ i. filter (λ path. starts_with nat_eq path (c.front_of.ensures i)) (sorted_names (c.in_ok-paths.ensures i)))
    ∙ (λ i. filter (λ path. starts_with nat_eq path front) (sorted_names (paths_of_session (id i) (c.ephemerals.ensures i)))) in
    λ i. record {
      error = pos 0;
      body = (c.in_ok-body.ensures ∙ ap (λ names. fitting_body (names_format.written names)) found) i;
    }
