-- Results that follow others.
use Rattle.std.proofs.Common.{◌≡◌, ℕ, ◌+◌, ◌≤◌, ◌<◌, ◌^◌, List, [], ◌∷◌, ◌++◌, length, drop, get_or, drop-cons, add-one, Option, Some, None, Bool, refl, sym, ap, ◌∙◌, append_assoc, arith}
use Rattle.std.proofs.Math.ListN.{drop_of_length-le}
use Rattle.std.proofs.lemmas.List.{length-append}
use Rattle.jute.specs.Format.{buffer, number_bytes}
use Rattle.jute.specs.Records.{stat_format}
use Rattle.node_map.specs.Stats.{length_or_zero}
use Rattle.client_records.specs.Responses.{path_response, create2_response}
use Rattle.client_records.specs.declared.response.PathResponse.{PathResponse}
use Rattle.client_records.specs.declared.response.Create2Response.{Create2Response}
use Rattle.txn_codec.specs.declared.txn.Operation.{Operation}
use Rattle.data_tree.specs.declared.outcome.PartResult.{PartResult}
use Rattle.read_processor.specs.Limits.{body_limit, fitting_body}
use Rattle.read_processor.proofs.Filling.{too_long}
use Rattle.read_processor.proofs.Longer.{none_after}
use Rattle.read_processor.proofs.Writing.{stat_writable}
use Rattle.write_replies.specs.Results.{end_of_results, part_result, results_of_parts}

-- What doesn't fit can't be followed.
pub too_long_before : (a b : List ℕ) → fitting_body a ≡ None → fitting_body (a ++ b) ≡ None
too_long_before a b none = none_after [] (Some a) (Some b) none

-- What is too long doesn't fit behind others.
pub too_long_behind : (a b c : List ℕ) → body_limit < length c → fitting_body (a ++ (b ++ c)) ≡ None
too_long_behind a b c long =
    too_long (a ++ (b ++ c)) (omega (arith, long, length-append a (b ++ c), length-append b c))

-- ---- paths

pub path_length : (r : PathResponse) → length (path_response.written r) ≡ 4 + length_or_zero r.path
unfolding path_response number_bytes
path_length r = by r.path
  where
    by : (path : Option (List ℕ)) → length (path_response.written (record { path = path })) ≡ 4 + length_or_zero path
    by None = refl
    by (Some path) = simp length-append (omega arith)

pub path_writable : (r : PathResponse) → length_or_zero r.path ≤ body_limit → path_response.Writable r
unfolding path_response
path_writable r le = by r.path le
  where
    by : (path : Option (List ℕ)) → length_or_zero path ≤ body_limit → buffer.Writable path
    by None le = tt
    by (Some path) le = omega (arith, le)

pub path_small : (r : PathResponse) → length_or_zero r.path ≤ body_limit → length (path_response.written r) < 2 ^ 63
path_small r le = omega (arith, path_length r, le)

pub created_length : (r : Create2Response) → length (create2_response.written r) ≡ 72 + length_or_zero r.path
unfolding create2_response stat_format number_bytes
created_length r = by r.path
  where
    by : (path : Option (List ℕ))
        → length (create2_response.written (record r { path = path })) ≡ 72 + length_or_zero path
    by None = refl
    by (Some path) = simp length-append (omega arith)

pub created_writable : (r : Create2Response) → length_or_zero r.path ≤ body_limit → create2_response.Writable r
unfolding create2_response
created_writable r le = (by r.path le, stat_writable r.stat)
  where
    by : (path : Option (List ℕ)) → length_or_zero path ≤ body_limit → buffer.Writable path
    by None le = tt
    by (Some path) le = omega (arith, le)

pub created_small : (r : Create2Response) → length_or_zero r.path ≤ body_limit → length (create2_response.written r) < 2 ^ 63
created_small r le = omega (arith, created_length r, le)

-- ---- the parts

left_is : (parts : List Operation) (i : ℕ) (part : Operation) → i < length parts → part ≡ get_or parts i part
    → drop i parts ≡ part ∷ drop (i + 1) parts
left_is parts i part lt is = drop-cons parts i part lt ∙ (λ j. sym is j ∷ drop (sym (add-one i) j) parts)

-- The body so far and the results to come are those of all parts.
module _ (failed : Bool) (so_far whole : List ℕ) (parts : List Operation) (i : ℕ) (left : List PartResult)
    (rest : so_far ++ results_of_parts failed (drop i parts) left ≡ whole) where
  pub ends_at : length parts ≤ i → so_far ++ end_of_results ≡ whole
  ends_at past =
      ap (λ (ps : List Operation). so_far ++ results_of_parts failed ps left) (sym (drop_of_length-le parts past)) ∙ rest

  module _ (part : Operation) (lt : i < length parts) (is : part ≡ get_or parts i part) where
    pub ends_without : left ≡ [] → so_far ++ end_of_results ≡ whole
    ends_without none =
        (λ j. so_far ++ results_of_parts failed (sym (left_is parts i part lt is) j) (sym none j)) ∙ rest

    -- The next outcome, and the others.
    module _ (outcome : PartResult) (others : List PartResult) (next : left ≡ outcome ∷ others) where
      goes_on : so_far ++ (part_result failed part outcome ++ results_of_parts failed (drop (i + 1) parts) others) ≡ whole
      goes_on = (λ j. so_far ++ results_of_parts failed (sym (left_is parts i part lt is) j) (sym next j)) ∙ rest

      pub one_more : (so_far ++ part_result failed part outcome) ++ results_of_parts failed (drop (i + 1) parts) others
          ≡ whole
      one_more =
          append_assoc so_far (part_result failed part outcome) (results_of_parts failed (drop (i + 1) parts) others)
          ∙ goes_on

      pub too_long_already : fitting_body (so_far ++ part_result failed part outcome) ≡ None → fitting_body whole ≡ None
      too_long_already none =
          ap fitting_body (sym one_more)
          ∙ too_long_before (so_far ++ part_result failed part outcome)
          (results_of_parts failed (drop (i + 1) parts) others) none
