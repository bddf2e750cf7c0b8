-- The results of a multi, one for each part, and their end (MultiResponse of ZooKeeper).
use Rattle.std.specs.Prelude.{ℕ, ℤ, pos, negsuc, List, [], ◌∷◌, ◌++◌, Option, Some, None, Bool, true, false, not, ◌||◌, if◌then◌else◌}
use Rattle.std.specs.Ordering.{int_eq}
use Rattle.jute.specs.Format.{int}
use Rattle.jute.specs.declared.codes.TheConstants.{NO_NODE}
use Rattle.jute.specs.declared.stat.Stat.{Stat}
use Rattle.client_records.specs.Kinds.{code_of}
use Rattle.client_records.specs.Multi.{multi_header}
use Rattle.client_records.specs.declared.multi.MultiHeader.{MultiHeader}
use Rattle.client_records.specs.Responses.{exists_response, path_response, create2_response}
use Rattle.client_records.specs.declared.kind.RequestKind.{RequestKind}
use Rattle.client_records.specs.declared.kind.RequestKind.TheVariants as requests
use Rattle.txn_codec.specs.declared.txn.Operation.{Operation}
use Rattle.txn_codec.specs.declared.txn.Operation.TheVariants as op
use Rattle.txn_codec.specs.Row.{has_error}
use Rattle.data_tree.specs.declared.outcome.PartResult.{PartResult}

-- ---- one result

abbrev pub done_header : RequestKind → MultiHeader
done_header kind = record { kind = code_of kind; done = false; err = pos 0 }

-- A header, and what the result shows.
abbrev pub shown_result : MultiHeader → List ℕ → List ℕ
shown_result header shown = multi_header.written header ++ shown

-- The error stands in the header, and again behind it.
abbrev pub error_result : ℤ → List ℕ
error_result err = shown_result (record { kind = negsuc 0; done = false; err = err }) (int.written err)

abbrev pub path_result : List ℕ → List ℕ
path_result path = shown_result (done_header requests.Create) (path_response.written (record { path = Some path }))

abbrev pub path_and_stat_result : List ℕ → Stat → List ℕ
path_and_stat_result path stat =
    shown_result (done_header requests.Create2) (create2_response.written (record { path = Some path; stat = stat }))

-- A create has the type of its transaction, not of the request, except that each one that shows the Stat has that of a
-- create2.
abbrev pub created_result : List ℕ → Bool → Option Stat → List ℕ
created_result path false stat = path_result path
created_result path true None = error_result NO_NODE
created_result path true (Some stat) = path_and_stat_result path stat

abbrev pub set_result : Option Stat → List ℕ
set_result None = error_result NO_NODE
set_result (Some stat) = shown_result (done_header requests.SetData) (exists_response.written (record { stat = stat }))

-- The result of a part that was done.
abbrev pub done_result : Operation → PartResult → List ℕ
done_result (op.Create c) outcome = created_result c.path c.asks_stat outcome.stat
done_result (op.Delete d) outcome = multi_header.written (done_header requests.Delete)
done_result (op.SetData s) outcome = set_result outcome.stat
done_result (op.Check c) outcome = multi_header.written (done_header requests.Check)
done_result (op.Error error) outcome = error_result outcome.err

-- Each part of a multi that failed shows its error, 0 too.
abbrev pub part_result : Bool → Operation → PartResult → List ℕ
part_result failed part outcome =
    if failed || not (int_eq outcome.err (pos 0)) then error_result outcome.err else done_result part outcome

-- ---- all results

-- Behind the last one.
abbrev pub end_of_results : List ℕ
end_of_results = multi_header.written (record { kind = negsuc 0; done = true; err = negsuc 0 })

abbrev pub results_of_parts : Bool → List Operation → List PartResult → List ℕ
results_of_parts failed [] outcomes = end_of_results
results_of_parts failed (part ∷ parts) [] = end_of_results
results_of_parts failed (part ∷ parts) (outcome ∷ outcomes) =
    part_result failed part outcome ++ results_of_parts failed parts outcomes

-- What the reply to a multi shows, from what came of its parts.
abbrev pub multi_results : List Operation → List PartResult → List ℕ
multi_results parts outcomes = results_of_parts (has_error parts) parts outcomes
