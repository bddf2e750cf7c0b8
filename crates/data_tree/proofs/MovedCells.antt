-- Cells that are taken out of a state, and put back.
use Rattle.std.proofs.Common.{◌≡◌, Bool, true, false, cond, not, ◌||◌, ◌&&◌, Option, Some, None, refl, sym, ap, ◌∙◌}
use Rattle.std.specs.Option.{option_or}
use Rattle.std.proofs.Math.Bool.{and-false, or-false}
use Rattle.std.specs.Ordering.{is_eq}
use Rattle.std.specs.Cmp.{tied_itself}
use Rattle.std.specs.FinMap as finmap
use Rattle.std.specs.FinSet as set
use Rattle.ephemerals.specs.Orders.{Bytes, OwnerPairs}
use Rattle.ephemerals.specs.Pairs.{CopiesPath}
use Rattle.ephemerals.proofs.Totals.{path_total, pair_total}
use Rattle.ephemerals.proofs.Steps.{contains-pairs_at, contains-without_paths}
use Rattle.node_map.specs.declared.node.Node.{Node}
use Rattle.node_map.specs.Nodes.{Nodes}
use Rattle.node_map.specs.Updates.{with_node_at, IsBetween}
use Rattle.node_map.proofs.MovedNodes.{get-kept, get-with, get-node_at}
use Rattle.data_tree.specs.State.{State}
use Rattle.data_tree.specs.Footprint.{IsSameCell}
use Rattle.data_tree.specs.Cells.{cells_at, without_cells, with_cells, HasPartOfCells, CopiesCell, TakenCellsMove, CellsComeToEmptyCells, TakenAndPutBackIsTheState}
use Rattle.data_tree.proofs.SameCells.{same_state, same_cell_trans}

or_none : (o : Option Node) → option_or o None ≡ o
or_none None = refl
or_none (Some n) = refl

and_true : (b : Bool) → (b && true) ≡ b
and_true true = refl
and_true false = refl

pub taken_cells_move : TakenCellsMove
taken_cells_move paths s = record {
  taken =
      λ q here. record {
        node = get-kept s.nodes (set.contains paths) q ∙ ap (λ b. cond b (finmap.get s.nodes q) None) here;
        owners = λ w. contains-pairs_at paths s.pairs (w, q) ∙ ap (λ b. set.contains s.pairs (w, q) && b) here
            ∙ and_true (set.contains s.pairs (w, q));
      };
  gone =
      λ q here. record {
        node = get-kept s.nodes (λ (p : Bytes). not (set.contains paths p)) q
            ∙ ap (λ b. cond (not b) (finmap.get s.nodes q) None) here;
        owners = λ w. contains-without_paths paths s.pairs (w, q)
            ∙ ap (λ b. set.contains s.pairs (w, q) && not b) here ∙ and-false (set.contains s.pairs (w, q));
      };
  left =
      λ q out. record {
        node = get-kept s.nodes (λ (p : Bytes). not (set.contains paths p)) q
            ∙ ap (λ b. cond (not b) (finmap.get s.nodes q) None) out;
        owners = λ w. contains-without_paths paths s.pairs (w, q)
            ∙ ap (λ b. set.contains s.pairs (w, q) && not b) out ∙ and_true (set.contains s.pairs (w, q));
      };
  nothing =
      λ q out. record {
        node = get-kept s.nodes (set.contains paths) q ∙ ap (λ b. cond b (finmap.get s.nodes q) None) out;
        owners = λ w. contains-pairs_at paths s.pairs (w, q) ∙ ap (λ b. set.contains s.pairs (w, q) && b) out
            ∙ and-false (set.contains s.pairs (w, q));
      };
}

pub cells_come_to_empty_cells : CellsComeToEmptyCells
cells_come_to_empty_cells cells s = record {
  put =
      λ q empty. record {
        node = get-with s.nodes cells.nodes q ∙ ap (option_or (finmap.get cells.nodes q)) empty.node
            ∙ or_none (finmap.get cells.nodes q);
        owners = λ w. set.contains-union pair_total s.pairs cells.pairs (w, q)
            ∙ ap (λ b. b || set.contains cells.pairs (w, q)) (empty.owners w);
      };
  left =
      λ q empty. record {
        node = get-with s.nodes cells.nodes q ∙ ap (λ o. option_or o (finmap.get s.nodes q)) empty.node;
        owners = λ w. set.contains-union pair_total s.pairs cells.pairs (w, q)
            ∙ ap (λ b. set.contains s.pairs (w, q) || b) (empty.owners w)
            ∙ or-false (set.contains s.pairs (w, q));
      };
}

pub taken_and_put_back : TakenAndPutBackIsTheState
taken_and_put_back paths s =
    let moved = taken_cells_move paths s in
    let put = cells_come_to_empty_cells (cells_at paths s) (without_cells paths s) in
    let each : (q : Bytes) (b : Bool) → set.contains paths q ≡ b
    → IsSameCell (with_cells (cells_at paths s) (without_cells paths s)) s q =
    λ q b. elim b as (λ b. set.contains paths q ≡ b
    → IsSameCell (with_cells (cells_at paths s) (without_cells paths s)) s q) [
      | true ↦ λ here. same_cell_trans (put.put q (moved.gone q here)) (moved.taken q here)
      | false ↦ λ out. same_cell_trans (put.left q (moved.nothing q out)) (moved.left q out)
    ] in
    same_state (with_cells (cells_at paths s) (without_cells paths s)) s refl
    (λ q. each q (set.contains paths q) refl)

-- All pairs were added, and a part of the nodes.
pub part_put : (cells old : State) (nodes : Nodes) (pairs : OwnerPairs) → pairs ≡ set.union old.pairs cells.pairs
    → IsBetween old.nodes (with_cells cells old).nodes nodes
    → HasPartOfCells cells old (record { nodes = nodes; pairs = pairs; sessions = old.sessions })
part_put cells old nodes pairs is between = record {
  nodes = between;
  keeps_pairs = set.contains-is_subset pair_total old.pairs pairs (λ q has.
      ap (λ s. set.contains s q) is
      ∙ set.contains-union pair_total old.pairs cells.pairs q
      ∙ ap (λ b. b || set.contains cells.pairs q) has);
  adds_pairs = set.contains-is_subset pair_total pairs (with_cells cells old).pairs (λ q has.
      ap (λ s. set.contains s q) (sym is) ∙ has);
  sessions = refl;
}

-- The node at a path was copied, and its pairs.
pub cell_copied : (p : Bytes) (from old : State) (nodes : Nodes) (pairs : OwnerPairs)
    → nodes ≡ with_node_at p (finmap.get from.nodes p) old.nodes → CopiesPath p from.pairs old.pairs pairs
    → CopiesCell p from old (record { nodes = nodes; pairs = pairs; sessions = old.sessions })
cell_copied p from old nodes pairs is copied = record {
  here = record {
    node = ap (λ m. finmap.get m p) is
        ∙ get-node_at p (finmap.get from.nodes p) old.nodes p true (ap is_eq (tied_itself path_total p));
    owners = copied.here;
  };
  elsewhere =
      λ q out. record {
        node = ap (λ m. finmap.get m q) is ∙ get-node_at p (finmap.get from.nodes p) old.nodes q false out;
        owners = λ w. copied.elsewhere w q out;
      };
}
