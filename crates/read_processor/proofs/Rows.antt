-- The worked looks and watches: the node is found, and its reply is evaluated.
use Rattle.std.proofs.Common.{◌≡◌, ℕ, List, [], ◌∷◌, Option, Some, None, pos, refl, ap, ◌∙◌}
use Rattle.std.specs.Prelude.{codes}
use Rattle.std.specs.FinSet as set
use Rattle.jute.specs.Format.{number_bytes}
use Rattle.jute.specs.Records.{stat_format}
use Rattle.jute.specs.declared.owned.Id.{Id}
use Rattle.jute.specs.declared.stat.Stat.{Stat}
use Rattle.client_records.specs.Responses.{exists_response, get_data_response}
use Rattle.ephemerals.specs.Orders.{path_cmp}
use Rattle.node_map.specs.Stats.{shown_stat, java_int}
use Rattle.node_map.specs.declared.node.Node.{Node}
use Rattle.read_processor.specs.declared.request.Request.{Request}
use Rattle.client_records.specs.declared.kind.ReadKind.TheVariants.{Exists, GetData}
use Rattle.read_processor.specs.Look.{look_at_node, shown_look}
use Rattle.settings.specs.declared.dialect.Dialect.{Dialect}
use Rattle.settings.specs.declared.dialect.Dialect.TheVariants.{Zk34, Zk38}
use Rattle.read_processor.specs.Watch.{watch_to_add}
use Rattle.read_processor.specs.Rows.{WorkedLooks, WorkedLater, WorkedWatches, watch_with_mode, read_without_watch, readable_node, reader_id, exists_bytes, get_data_bytes}

-- The Stat of the node, given its number of children.
abbrev numbers : ℕ → Stat
numbers children = shown_stat readable_node.stat (java_int children) (java_int 2)

no_children : set.len (set.empty {R = path_cmp}) ≡ 0
no_children = set.len-empty path_cmp

abbrev read_by : ℕ → List ℕ
read_by children = get_data_response.written (record { bytes = Some (codes "hi"); stat = numbers children })

read_by_hand : read_by 0 ≡ get_data_bytes
unfolding get_data_response stat_format number_bytes
read_by_hand = refl

abbrev exists_by : ℕ → List ℕ
exists_by children = exists_response.written (record { stat = numbers children })

exists_by_hand : exists_by 0 ≡ exists_bytes
unfolding exists_response stat_format number_bytes
exists_by_hand = refl

found : (ids : List Id) (r : Request) {o : Option Node} → o ≡ Some readable_node
    → look_at_node ids r o ≡ look_at_node ids r (Some readable_node)
found ids r e = ap (look_at_node ids r) e

pub worked : WorkedLooks
worked = record {
  read = λ s h.
      found (reader_id ∷ []) (read_without_watch GetData (codes "/a")) h.0
      ∙ ap (λ k. shown_look (read_by k)) no_children
      ∙ ap (λ (l : List ℕ). shown_look l) read_by_hand;
  not_read = λ s h. found [] (read_without_watch GetData (codes "/a")) h.0;
  exists = λ s h.
      found [] (read_without_watch Exists (codes "/a")) h.0 ∙ ap (λ k. shown_look (exists_by k)) no_children
      ∙ ap (λ (l : List ℕ). shown_look l) exists_by_hand;
  missing = λ s h. ap (look_at_node [] (read_without_watch GetData (codes "/q"))) h.1;
  not_asked_for = λ s h. refl;
  null = λ s h. refl;
}

pub worked_later : WorkedLater
worked_later = record {
  below = refl;
  alike = refl;
  itself = refl;
  below_root = refl;
  root_itself = refl;
}

pub worked_watches : WorkedWatches
worked_watches = record {
  waits = refl;
  missing = refl;
  persistent = refl;
  recursive = refl;
  another_mode = λ d. modes d;
  ill_formed = refl;
  any_path = refl;
  null_path = λ d. refl;
  sought = refl;
  another_kind = refl;
  sought_at_null = refl;
  renewed = λ s h. rw (h.0, h.1) refl;
  twice = λ s h. rw h.0 refl;
  not_asked_for = λ s h. refl;
  any_paths = λ s h. rw h.1 refl;
  all_renewed = λ s h. rw h.0 refl;
}
  where
    modes : (d : Dialect) → watch_to_add d (watch_with_mode (pos 2) (codes "/q")) ≡ None
    modes Zk34 = refl
    modes Zk38 = refl
