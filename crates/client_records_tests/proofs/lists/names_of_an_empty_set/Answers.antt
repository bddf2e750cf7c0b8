use Rattle.std.proofs.Common.{◌≡◌, sym, subst, length, arith, ◌∙◌}
use Rattle.std.specs.FinSet as set
use Rattle.ephemerals.specs.Orders.{Names, sorted_names, path_cmp}
use Rattle.ephemerals.proofs.Ascending.{count_in_order}
use Rattle.client_records.specs.Fields.{names_format}
use Rattle.client_records_tests.proofs.lists.names_of_an_empty_set.Goals as goal

none : length (sorted_names set.empty) ≡ 0
none = count_in_order set.empty ∙ set.len-empty path_cmp

pub put_names-requires : goal.put_names-requires
put_names-requires g c =
    subst (λ (s : Names). names_format.Writable (sorted_names s)) (sym c.new-names.ensures)
    (omega (arith, none), λ k d h. absurd (omega (arith, none, h)))
