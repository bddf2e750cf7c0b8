-- Schedules that were worked out by hand.
use Rattle.std.proofs.Common.{◌≡◌, pos, negsuc, List, [], ◌∷◌, false, cond, Some, None, refl, ap, ◌∙◌, codes}
use Rattle.std.specs.Cmp.{int_cmp_total, eq_by_cmp_equiv}
use Rattle.std.specs.FinMap as finmap
use Rattle.std.specs.FinSet as set
use Rattle.ephemerals.specs.Orders.{Bytes}
use Rattle.ephemerals.proofs.Totals.{path_total}
use Rattle.paths_and_acls.specs.Paths.{parent_of, name_of}
use Rattle.txn_codec.specs.declared.txn.Create.{Create}
use Rattle.txn_codec.specs.declared.txn.Owner.TheVariants.{Nobody}
use Rattle.txn_codec.specs.declared.txn.Txn.{Txn}
use Rattle.txn_codec.specs.declared.txn.TxnHeader.{TxnHeader}
use Rattle.node_map.specs.Children.{stat_with_child}
use Rattle.node_map.specs.declared.node.Node.{Node}
use Rattle.data_tree.specs.State.{State, SessionTimeouts}
use Rattle.data_tree.specs.Meaning.{TxnEffect, effect_of_txn, outcomes_of_txns, answer_of, of_effect, create_under, create_taken, create_new}
use Rattle.data_tree.specs.Commuting.{TransactionsSetTheirTimeouts}
use Rattle.batcher.specs.Rows.{create_txn_of, path_a, path_b, path_a_x, path_a_y, path_b_z}
use Rattle.apply_workers.specs.declared.step.Step.{Step}
use Rattle.apply_workers.specs.Schedule.{schedule_result}
use Rattle.apply_workers.specs.Schedules.{SchedulesAreTheBatch}
use Rattle.apply_workers.proofs.Stopping.{stopped_behind_one}
use Rattle.apply_workers.specs.ScheduleRows.{SchedulesAreWorked, new_session_with, three_creates, create_outcome, two_workers}

-- ---- two timeouts of one session

abbrev two_timeouts : TxnHeader → List Txn
two_timeouts h = new_session_with h 5000 ∷ create_txn_of h path_a_x ∷ new_session_with h 6000 ∷ []

timeouts_are : SchedulesAreTheBatch → TransactionsSetTheirTimeouts → (h : TxnHeader) (s : State) (steps : List Step)
    → finmap.get (schedule_result s (two_timeouts h) steps).state.sessions h.client_id ≡ Some (pos 6000)
timeouts_are law set_in_order h s steps =
    ap (λ d. finmap.get d.state.sessions h.client_id) (law s (two_timeouts h) steps)
    ∙ ap (λ sessions. finmap.get sessions h.client_id) (set_in_order (two_timeouts h) s (refl, (refl, (refl, tt))))
    ∙ finmap.get-insert int_cmp_total before h.client_id (pos 6000) h.client_id
    ∙ ap (λ b. cond b (Some (pos 6000)) (finmap.get before h.client_id))
    ((eq_by_cmp_equiv int_cmp_total).refl h.client_id)
  where
    before : SessionTimeouts
    before = finmap.insert s.sessions h.client_id (pos 5000)

-- ---- creates under two parents

abbrev body_of : Bytes → Create
body_of path = record {
  path = path;
  bytes = None;
  acl = None;
  owner = Nobody;
  asks_stat = false;
  parent_cversion = negsuc 0;
}

-- The effect of a create whose parent doesn't have the child.
abbrev made : TxnHeader → Bytes → Node → State → TxnEffect
made h path parent s = of_effect (create_new h (body_of path) parent) s

is_made : (h : TxnHeader) (s : State) (path : Bytes) (parent : Node) → finmap.get s.nodes (parent_of path) ≡ Some parent
    → set.contains parent.children (name_of path) ≡ false
    → effect_of_txn s (create_txn_of h path) ≡ made h path parent s
is_made h s path parent is new =
    ap (λ found. of_effect (create_under h (body_of path) found) s) is
    ∙ ap
    (λ b. of_effect (cond b (create_taken h (body_of path) parent) (create_new h (body_of path) parent)) s) new

-- The parent with one more child.
abbrev with_child : TxnHeader → Node → Bytes → Node
with_child h parent name =
    record parent
    { children = set.insert parent.children name; stat = stat_with_child h (body_of path_a_x) parent.stat }

outcomes_are : SchedulesAreTheBatch → (h : TxnHeader) (s : State) (parent other : Node)
    → finmap.get s.nodes path_a ≡ Some parent → finmap.get s.nodes path_b ≡ Some other
    → set.contains parent.children (codes "x") ≡ false → set.contains parent.children (codes "y") ≡ false
    → set.contains other.children (codes "z") ≡ false
    → (schedule_result s (three_creates h) two_workers).outcomes
    ≡ create_outcome path_a_x path_a ∷ create_outcome path_a_y path_a ∷ create_outcome path_b_z path_b ∷ []
outcomes_are law h s parent other is_a is_b no_x no_y no_z =
    ap (λ d. d.outcomes) (law s (three_creates h) two_workers)
    ∙ ap (λ m. answer_of m ∷ outcomes_of_txns m.state (create_txn_of h path_a_y ∷ create_txn_of h path_b_z ∷ []))
    (is_made h s path_a_x parent is_a no_x)
    ∙ ap (λ m. create_outcome path_a_x path_a ∷ answer_of m ∷ outcomes_of_txns m.state (create_txn_of h path_b_z ∷ []))
    (is_made h one path_a_y (with_child h parent (codes "x")) is_one no_more)
    ∙ ap (λ m. create_outcome path_a_x path_a ∷ create_outcome path_a_y path_a ∷ answer_of m ∷ [])
    (is_made h two path_b_z other is_two no_z)
  where
    one : State
    one = (made h path_a_x parent s).state

    two : State
    two = (made h path_a_y (with_child h parent (codes "x")) one).state

    is_one : finmap.get one.nodes path_a ≡ Some (with_child h parent (codes "x"))
    is_one =
        finmap.get-insert path_total _ path_a_x _ path_a
        ∙ finmap.get-insert path_total s.nodes path_a _ path_a

    no_more : set.contains (with_child h parent (codes "x")).children (codes "y") ≡ false
    no_more = set.contains-insert path_total parent.children (codes "x") (codes "y") ∙ no_y

    is_two : finmap.get two.nodes path_b ≡ Some other
    is_two =
        finmap.get-insert path_total _ path_a_y _ path_b
        ∙ finmap.get-insert path_total one.nodes path_a _ path_b
        ∙ finmap.get-insert path_total _ path_a_x _ path_b
        ∙ finmap.get-insert path_total s.nodes path_a _ path_b
        ∙ is_b

pub schedules_are_worked : SchedulesAreTheBatch → TransactionsSetTheirTimeouts → SchedulesAreWorked
schedules_are_worked law set_in_order h = record {
  groups = refl;
  steps = λ s. refl;
  outcomes = outcomes_are law h;
  timeouts = timeouts_are law set_in_order h;
  stopped = λ s new stopped. stopped_behind_one s new (create_txn_of h path_a_x) (create_txn_of h path_a_y ∷ [])
      stopped;
}
