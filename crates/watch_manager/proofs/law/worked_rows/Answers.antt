use Rattle.std.proofs.Common.{[], ◌∷◌}
use Rattle.std.specs.Prelude.{codes}
use Rattle.data_tree.specs.declared.outcome.Trigger.TheVariants.{Created, Deleted, DataChanged, ChildrenChanged}
use Rattle.watch_manager.specs.Lasting.{root_path}
use Rattle.watch_manager.specs.Rows.{path_a, path_b, path_ab, path_a_e, path_a_f, path_b_g}
use Rattle.watch_manager.proofs.Evaluating.{evaluated}
use Rattle.watch_manager.proofs.law.worked_rows.Goals as goal

pub returns : goal.returns
returns c = record {
  one_shot_delete =
      evaluated ((path_a, 1) ∷ []) ((root_path, 2) ∷ (path_a, 1) ∷ (path_a, 2) ∷ []) ([], [])
      (Deleted path_a ∷ ChildrenChanged root_path ∷ Created path_a ∷ ChildrenChanged root_path ∷ Deleted path_a
      ∷ ChildrenChanged root_path ∷ []);
  close_session =
      evaluated ((path_a_f, 1) ∷ []) ((path_a, 1) ∷ (path_b, 1) ∷ []) ([], [])
      (Deleted path_a_e ∷ ChildrenChanged path_a ∷ Deleted path_a_f ∷ ChildrenChanged path_a ∷ Deleted path_b_g
      ∷ ChildrenChanged path_b ∷ []);
  created = evaluated ((path_a, 1) ∷ []) [] ([], []) (Created path_a ∷ ChildrenChanged root_path ∷ []);
  recursive_root =
      evaluated [] [] ([], (root_path, 1) ∷ []) (Created path_a ∷ ChildrenChanged root_path ∷ []);
  persistent_root =
      evaluated [] [] ((root_path, 1) ∷ [], []) (Created path_a ∷ ChildrenChanged root_path ∷ []);
  watched_in_each_table =
      evaluated ((path_a, 1) ∷ []) ((path_a, 1) ∷ []) ([], (root_path, 1) ∷ [])
      (Deleted path_a ∷ ChildrenChanged root_path ∷ []);
  below_a =
      evaluated [] []
      ((path_a_e, 2) ∷ [], (path_a, 3) ∷ (codes "/a/", 1) ∷ [])
      (Created path_ab ∷ ChildrenChanged root_path ∷ DataChanged path_a_e ∷ DataChanged root_path ∷ []);
  below_nothing =
      evaluated [] [] ([], ([], 1) ∷ [])
      (Created path_a ∷ ChildrenChanged root_path ∷ Created path_a_e ∷ ChildrenChanged path_a ∷ []);
  both_modes =
      evaluated [] [] ((path_a, 1) ∷ [], (path_a, 1) ∷ [])
      (Created path_a ∷ ChildrenChanged root_path ∷ Created path_a_e ∷ ChildrenChanged path_a ∷ Deleted path_a_e
      ∷ ChildrenChanged path_a ∷ []);
}
