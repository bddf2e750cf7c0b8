-- The worked images: the entries of each map as a list, and then the bytes written for them.
use Rattle.std.proofs.Common.{◌≡◌, ℕ, ℤ, pos, List, [], ◌∷◌, ◌++◌, map, codes, length, refl, sym, ap, ◌∙◌, arith}
use Rattle.std.specs.declared.cmp.Ordering.{Ordering}
use Rattle.std.specs.Cmp.{IsTotalOrder, int_cmp_total}
use Rattle.std.specs.FinMap as finmap
use Rattle.std.specs.FinMap.{put}
use Rattle.std.specs.FinSet as set
use Rattle.std.specs.Ordering.{int_cmp}
use Rattle.ephemerals.specs.Orders.{Bytes, path_cmp}
use Rattle.ephemerals.proofs.Totals.{path_total}
use Rattle.jute.specs.Codes.{open_acl}
use Rattle.jute.specs.Format.{number_bytes}
use Rattle.jute.specs.Records.{stat_persisted}
use Rattle.node_map.specs.Updates.{preset_node}
use Rattle.node_map.specs.declared.node.Node.{Node}
use Rattle.data_tree.specs.Meaning.{fresh_state}
use Rattle.snapshot_codec.specs.Rows.{fresh_image, session_image, world_acl, node_with_acl, some_nodes, WorkedImages}
use Rattle.snapshot_codec.specs.Written.{walk_cmp, walk_of, lists_from, session_part, list_part, node_values, counted_values, bytes_from}
use Rattle.snapshot_codec.specs.declared.part.PartPhase.TheVariants.{SessionCount}
use Rattle.snapshot_codec.proofs.WalkOrder.{walk_total}

none_left : {A : Type 0} (xs : List A) → length xs ≡ 0 → xs ≡ []
none_left [] e = refl
none_left (x ∷ xs) e = absurd (omega arith)

module _ {K X : Type 0} (R : K → K → Ordering) where
  no_entries : finmap.entries (finmap.empty {X = X} {R = R}) ≡ []
  no_entries = none_left _ (sym (finmap.len-entries (finmap.empty {X = X} {R = R})) ∙ finmap.len-empty R X)

  put_all : List (K × X) → List (K × X)
  put_all [] = []
  put_all (e ∷ es) = put R e.0 e.1 (put_all es)

  entries_put : IsTotalOrder R → (es : List (K × X)) → finmap.entries (finmap.from_entries {R = R} es) ≡ put_all es
  unfolding put_all
  entries_put o [] = no_entries
  entries_put o (e ∷ es) =
      finmap.entries-insert o (finmap.from_entries {R = R} es) e.0 e.1 ∙ ap (put R e.0 e.1) (entries_put o es)

-- The inserted nodes, in the order of the walk.
walk_put : (es : List (Bytes × Node)) → walk_of (finmap.from_entries es) ≡ put_all walk_cmp (put_all path_cmp es)
walk_put es =
    entries_put walk_cmp walk_total (finmap.entries (finmap.from_entries {R = path_cmp} es))
    ∙ ap (put_all walk_cmp) (entries_put path_cmp path_total es)

bytes_of : List (ℤ × ℤ) → List (Bytes × Node) → List ℕ
bytes_of sessions nodes =
    bytes_from SessionCount (counted_values session_part sessions
    ++ (counted_values list_part (lists_from [] nodes) ++ node_values (lists_from [] nodes) nodes))

fresh_entries : List (Bytes × Node)
fresh_entries =
    (codes "/zookeeper/quota", preset_node set.empty)
    ∷ (codes "/zookeeper", preset_node (set.insert set.empty (codes "quota")))
    ∷ (codes "/", preset_node (set.insert set.empty (codes "zookeeper")))
    ∷ []

fresh_walk : walk_of fresh_state.nodes ≡ put_all walk_cmp (put_all path_cmp fresh_entries)
unfolding fresh_entries
fresh_walk = walk_put fresh_entries

some_entries : List (Bytes × Node)
some_entries =
    (codes "/", node_with_acl open_acl) ∷ (codes "/a", node_with_acl (world_acl (pos 3)))
    ∷ (codes "/a-b", node_with_acl open_acl)
    ∷ (codes "/b", node_with_acl (world_acl (pos 3))) ∷ (codes "/a/b", node_with_acl (world_acl (pos 1))) ∷ []

some_walk : walk_of some_nodes ≡ put_all walk_cmp (put_all path_cmp some_entries)
unfolding some_entries
some_walk = walk_put some_entries

fresh_bytes : bytes_of [] (put_all walk_cmp (put_all path_cmp fresh_entries)) ≡ fresh_image
unfolding bytes_of put_all fresh_entries number_bytes stat_persisted
fresh_bytes = refl

session_bytes : bytes_of ((pos 9, pos 5000) ∷ []) (put_all walk_cmp (put_all path_cmp fresh_entries)) ≡ session_image
unfolding bytes_of put_all fresh_entries number_bytes stat_persisted
session_bytes = refl

one_session : finmap.entries (finmap.insert (finmap.empty {X = ℤ} {R = int_cmp}) (pos 9) (pos 5000))
    ≡ (pos 9, pos 5000) ∷ []
one_session =
    finmap.entries-insert int_cmp_total (finmap.empty {X = ℤ} {R = int_cmp}) (pos 9) (pos 5000)
    ∙ ap (put int_cmp (pos 9) (pos 5000)) (no_entries int_cmp)

the_order : map (λ (e : Bytes × Node). e.0) (put_all walk_cmp (put_all path_cmp some_entries))
    ≡ codes "/" ∷ codes "/a" ∷ codes "/a/b" ∷ codes "/a-b" ∷ codes "/b" ∷ []
unfolding put_all some_entries
the_order = refl

the_keys : lists_from [] (put_all walk_cmp (put_all path_cmp some_entries))
    ≡ (pos 1, world_acl (pos 3)) ∷ (pos 2, world_acl (pos 1)) ∷ []
unfolding put_all some_entries
the_keys = refl

pub worked_images : WorkedImages
unfolding bytes_of
worked_images = record {
  fresh_tree = (λ i. bytes_of (no_entries int_cmp i) (fresh_walk i)) ∙ fresh_bytes;
  a_session = (λ i. bytes_of (one_session i) (fresh_walk i)) ∙ session_bytes;
  order = ap (map (λ (e : Bytes × Node). e.0)) some_walk ∙ the_order;
  keys = ap (lists_from []) some_walk ∙ the_keys;
  open_key = refl;
}
