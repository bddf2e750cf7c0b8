-- What a replica does for its leader: it takes packets and the parts of images, and gives packets for the leader and
-- the triggers of what changed in the tree.
use Rattle.std.specs.Prelude.{◌≡◌, ℕ, ◌<◌, ◌^◌, length, ◌-◌, ℤ, Bool, true, false, List, [], ◌∷◌, ◌++◌, Option, Some, None, Result, Ok, Err}
use Rattle.std.specs.List.{flat_map, slice_get}
use Rattle.settings.specs.declared.dialect.Dialect.{Dialect}
use Rattle.values.specs.declared.fault.Fault.{Fault}
use Rattle.values.specs.declared.fault.ReadError.{ReadError}
use Rattle.values.specs.declared.fault.ReadError.TheVariants as errors
use Rattle.jute.specs.Format.{◌>>=◌}
use Rattle.txn_codec.specs.declared.txn.Txn.{Txn}
use Rattle.data_tree.specs.State.{State}
use Rattle.data_tree.specs.Meaning.{effect_of_txn, answer_of, state_after}
use Rattle.data_tree.specs.declared.outcome.Outcome.{Outcome}
use Rattle.data_tree.specs.declared.outcome.Trigger.{Trigger}
use Rattle.snapshot_codec.specs.Made.{Loading, no_parts_in, with_loaded}
use Rattle.snapshot_codec.specs.declared.part.ImagePart.TheVariants as part
use Rattle.quorum_packet.specs.GroupedItems.{empty_loading}
use Rattle.quorum_packet.specs.WholeItems.{WholeItem, OnePacket, OneImage}
use Rattle.quorum_packet.specs.declared.item.Item.{Item}
use Rattle.quorum_packet.specs.declared.item.Item.TheVariants as item
use Rattle.quorum_packet.specs.declared.packet.QuorumPacket.{QuorumPacket}
use Rattle.quorum_packet.specs.Packet.{packet_format}
use Rattle.learner_sync.specs.Answers.{ping_reply}
use Rattle.learner_sync.specs.Learn.{LearnerStep, learn_item, start_following, stop_following, checkpoint_learner}
use Rattle.learner_sync.specs.declared.act.Act.{Act}
use Rattle.learner_sync.specs.declared.act.Act.TheVariants as act
use Rattle.learner_sync.specs.declared.phase.Phase.{Phase}
use Rattle.learner_sync.specs.declared.phase.Phase.TheVariants as phase
use Rattle.replica.specs.Replica.{Replica}
use Rattle.replica.specs.declared.item_outcome.ItemOutcome.{ItemOutcome}
use Rattle.replica.specs.declared.item_outcome.LeaderNews.{LeaderNews}
use Rattle.replica.specs.declared.item_outcome.LeaderNews.TheVariants as news

-- What an item causes, and the state after it.
pub record ItemEffect : Type 0 where
  -- Packets to send to the leader, in order.
  pub replies : List QuorumPacket
  -- Triggers for the watchers, in order.
  pub triggers : List Trigger
  -- What concerns more than the replica.
  pub news : Option LeaderNews
  -- The image that is being loaded.
  pub loading : Loading
  pub replica : Replica

-- No image is being loaded.
abbrev pub nothing_loaded : Dialect → Loading
nothing_loaded dialect = empty_loading dialect

abbrev pub no_effect : Loading → Replica → ItemEffect
no_effect loading r = record { replies = []; triggers = []; news = None; loading = loading; replica = r }

-- ---- acts

abbrev pub last_txn : List Txn → Option Txn
last_txn log = slice_get log (length log - 1)

-- The log's last transaction has this outcome, which is told, and leaves this tree.
abbrev pub with_outcome : ItemEffect → Outcome → State → ItemEffect
with_outcome t outcome tree = record t {
  triggers = outcome.triggers;
  news = Some (news.Applied (length t.replica.learner.log - 1) outcome.results);
  replica = record t.replica { tree = tree };
}

-- A transaction is applied to the tree; an item has one at most.
abbrev pub apply_to_tree : ItemEffect → Option Txn → ItemEffect
apply_to_tree t None = t
apply_to_tree t (Some txn) =
    let meant = effect_of_txn t.replica.tree txn in with_outcome t (answer_of meant) meant.state

-- The next image is loaded in the leader's dialect.
abbrev pub with_nothing_loaded : ItemEffect → ItemEffect
with_nothing_loaded t = record t { loading = nothing_loaded t.replica.learner.dialect }

-- The image replaces the tree and is the base.
abbrev pub with_image_state : ItemEffect → State → ItemEffect
with_image_state t state =
    record (with_nothing_loaded t) { replica = record t.replica { base = state; tree = state } }

-- The tree is the base with the log applied.
abbrev pub rebuild_tree : ItemEffect → ItemEffect
rebuild_tree t = record t { replica = record t.replica { tree = state_after t.replica.base t.replica.learner.log } }

-- Only a part to load can be refused.
abbrev pub carry_out : ItemEffect → Act → Result ItemEffect Fault
carry_out t (act.Send packet) = Ok (record t { replies = t.replies ++ packet ∷ [] })
carry_out t (act.AnswerPing ping) = Ok (record t { news = Some (news.Ping ping) })
carry_out t act.SettleSync = Ok (record t { news = Some news.SyncSettled })
carry_out t (act.Revalidated session is_valid) = Ok (record t { news = Some (news.Revalidated session is_valid) })
carry_out t act.Apply = Ok (apply_to_tree t (last_txn t.replica.learner.log))
carry_out t (act.LoadPart p) = with_loaded t.loading p >>= λ loading. Ok (record t { loading = loading })
carry_out t act.LoadImage = Ok (with_image_state t t.loading.made.state)
carry_out t act.DropImage = Ok (with_nothing_loaded t)
carry_out t (act.Truncate zxid) = Ok (rebuild_tree t)
carry_out t act.Epochs = Ok t
carry_out t act.ServeFrom = Ok t

-- The acts in order.
abbrev pub carry_out_all : ItemEffect → List Act → Result ItemEffect Fault
carry_out_all t [] = Ok t
carry_out_all t (a ∷ others) = carry_out t a >>= λ u. carry_out_all u others

-- ---- items

abbrev pub with_learner : Replica → LearnerStep → Replica
with_learner r x = record r { learner = x.after }

-- The acts that are learnt from a packet or part are done at once.
abbrev pub take_item : Loading → Replica → Item → Result ItemEffect Fault
take_item loading r i = learn_item r.learner i >>= λ x. carry_out_all (no_effect loading (with_learner r x)) x.acts

-- An image of which all but the end is loaded.
abbrev pub loading_of : Dialect → State → Loading
loading_of dialect state = record { made = record (no_parts_in dialect) { state = state }; ended = false }

-- The same for packets and whole images. An image does what its end does after its parts were loaded.
abbrev pub take_whole : Replica → WholeItem → Result ItemEffect Fault
take_whole r (OnePacket p) = take_item (nothing_loaded r.learner.dialect) r (item.Packet p)
take_whole r (OneImage state) = take_item (loading_of r.learner.dialect state) r (item.Part part.End)

-- ---- a leader connects, and leaves

abbrev pub packets_of_act : Act → List QuorumPacket
packets_of_act (act.Send packet) = packet ∷ []
packets_of_act a = []

-- The replica introduces itself.
abbrev pub follow_leader : Replica → ℤ → ItemEffect
follow_leader r server_id =
    let x = start_following r.learner server_id in
    record (no_effect (nothing_loaded r.learner.dialect) (with_learner r x)) { replies = flat_map packets_of_act x.acts }

abbrev pub without_leader : Replica → Replica
without_leader r = record r { learner = stop_following r.learner }

-- ---- serving

abbrev pub is_serving_in : Phase → Bool
is_serving_in phase.Serving = true
is_serving_in phase = false

-- Clients are served once the leader has brought the replica up to date.
abbrev pub is_serving : Replica → Bool
is_serving r = is_serving_in r.learner.phase

-- The tree that is served becomes the base.
abbrev pub checkpoint_if : Bool → Replica → Replica
checkpoint_if true r = record r { learner = checkpoint_learner r.learner; base = r.tree }
checkpoint_if false r = r

abbrev pub checkpoint_replica : Replica → Replica
checkpoint_replica r = checkpoint_if (is_serving r) r

-- ---- the contract of `take`

-- The answer to a PING can be written, whatever its table of sessions.
abbrev pub IsAnswerable : Option LeaderNews → Type 0
IsAnswerable (Some (news.Ping ping)) =
    (table : List ℕ) → length table < 2 ^ 31 → packet_format.Writable (ping_reply ping table)
IsAnswerable brought = Unit {0}

-- An item was taken. Or it is refused for its fault, and the loader and the replica are as they were. After a refused
-- allocation both are unspecified.
abbrev pub TakesItem : Result ItemOutcome ReadError → Result ItemEffect Fault → Loading → Replica → Loading → Replica
    → Type 0
TakesItem (Ok brought) taken loading r loading-after r-after =
    taken
    ≡ Ok (record {
      replies = brought.replies;
      triggers = brought.triggers;
      news = brought.news;
      loading = loading-after;
      replica = r-after;
    })
TakesItem (Err (errors.Fault e)) taken loading r loading-after r-after =
    (taken ≡ Err e) × (loading-after ≡ loading) × (r-after ≡ r)
TakesItem (Err errors.NoMemory) taken loading r loading-after r-after = Unit {0}
