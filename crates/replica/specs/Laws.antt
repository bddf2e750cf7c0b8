-- What holds for every replica, at the start and whatever its leader sends.
use Rattle.std.specs.Prelude.{◌≡◌, ℤ, Bool, true, false, Some, Ok}
use Rattle.settings.specs.Settings.{EpochPair}
use Rattle.settings.specs.declared.dialect.Dialect.{Dialect}
use Rattle.jute.specs.Format.{◌>>=◌}
use Rattle.data_tree.specs.Meaning.{state_after}
use Rattle.snapshot_codec.specs.Made.{Loading, with_loaded}
use Rattle.snapshot_codec.specs.Parts.{Part, is_end}
use Rattle.snapshot_codec.specs.declared.part.ImagePart.{ImagePart}
use Rattle.snapshot_codec.specs.declared.part.ImagePart.TheVariants as part
use Rattle.quorum_packet.specs.Kinds.{kind_of}
use Rattle.quorum_packet.specs.WholeItems.{OnePacket, OneImage}
use Rattle.quorum_packet.specs.declared.item.Item.{Item}
use Rattle.quorum_packet.specs.declared.item.Item.TheVariants as item
use Rattle.quorum_packet.specs.declared.kind.PacketKind.TheVariants as kinds
use Rattle.quorum_packet.specs.declared.packet.QuorumPacket.{QuorumPacket}
use Rattle.learner_sync.specs.Laws.{FollowsItsLog as LearnerFollows}
use Rattle.learner_sync.specs.declared.phase.Phase.{Phase}
use Rattle.learner_sync.specs.declared.phase.Phase.TheVariants as phase
use Rattle.replica.specs.Replica.{Replica, new_replica, primed_replica}
use Rattle.replica.specs.Taking.{ItemEffect, no_effect, nothing_loaded, take_item, take_whole, follow_leader, without_leader, is_serving, checkpoint_replica}

-- ---- the tree and the log

-- The tree is the base with the log applied, and the log's zxids ascend up to the last zxid.
pub record FollowsItsLog (r : Replica) : Type 0 where
  pub tree : r.tree ≡ state_after r.base r.learner.log
  pub learner : LearnerFollows r.learner

-- This holds at the start, and nothing that a leader does ends it.
pub record LogsAreFollowed : Type 0 where
  pub made : (dialect : Dialect) (epochs : EpochPair) → FollowsItsLog (new_replica dialect epochs)
  pub primed : (dialect : Dialect) (session time_out : ℤ) → FollowsItsLog (primed_replica dialect session time_out)
  pub takes : (loading : Loading) (r : Replica) (i : Item) (t : ItemEffect) → FollowsItsLog r
      → take_item loading r i ≡ Ok t
      → FollowsItsLog t.replica
  pub begins : (r : Replica) (server_id : ℤ) → FollowsItsLog r → FollowsItsLog (follow_leader r server_id).replica
  pub leaves : (r : Replica) → FollowsItsLog r → FollowsItsLog (without_leader r)
  pub rebases : (r : Replica) → FollowsItsLog r → FollowsItsLog (checkpoint_replica r)

-- ---- images

-- An image may come: one was announced, or it will be dropped.
abbrev pub awaits_image_in : Phase → Bool
awaits_image_in phase.Hello = false
awaits_image_in phase.Sync = false
awaits_image_in phase = true

abbrev pub awaits_image : Replica → Bool
awaits_image r = awaits_image_in r.learner.phase

-- What is taken of an image, whatever was loaded before.
abbrev pub with_given_loading : Loading → ItemEffect → ItemEffect
with_given_loading loading t = record t { loading = loading }

-- An image that was announced is loaded part by part, apart from the tree; its end does what the whole image does.
pub record ImagesComeInParts : Type 0 where
  -- A packet leaves the image that is being loaded.
  pub packets : (loading : Loading) (r : Replica) (p : QuorumPacket)
      → take_item loading r (item.Packet p) ≡ (take_whole r (OnePacket p) >>= λ t. Ok (with_given_loading loading t))
  -- After a SNAP packet an image may come.
  pub announced : (loading : Loading) (r : Replica) (p : QuorumPacket) (t : ItemEffect)
      → kind_of p.kind ≡ Some kinds.Snap
      → take_item loading r (item.Packet p) ≡ Ok t → awaits_image t.replica ≡ true
  -- A part before the end changes only the image that is being loaded.
  pub inner : (loading : Loading) (r : Replica) (p : ImagePart) → awaits_image r ≡ true → is_end (Part p) ≡ false
      → take_item loading r (item.Part p) ≡ (with_loaded loading p >>= λ loaded. Ok (no_effect loaded r))
  -- The image takes effect at its end.
  pub ends : (loading : Loading) (r : Replica) → awaits_image r ≡ true
      → take_item loading r (item.Part part.End) ≡ take_whole r (OneImage loading.made.state)
  -- After the end no image is being loaded.
  pub unloads : (loading : Loading) (r : Replica) (t : ItemEffect) → awaits_image r ≡ true
      → take_item loading r (item.Part part.End) ≡ Ok t → t.loading ≡ nothing_loaded r.learner.dialect

-- ---- the dialect

-- Leaders speak the same dialect, whatever they send.
pub record DialectStays : Type 0 where
  pub takes : (loading : Loading) (r : Replica) (i : Item) (t : ItemEffect) → take_item loading r i ≡ Ok t
      → t.replica.learner.dialect ≡ r.learner.dialect
  pub begins : (r : Replica) (server_id : ℤ) → (follow_leader r server_id).replica.learner.dialect ≡ r.learner.dialect
  pub leaves : (r : Replica) → (without_leader r).learner.dialect ≡ r.learner.dialect
  pub rebases : (r : Replica) → (checkpoint_replica r).learner.dialect ≡ r.learner.dialect

-- ---- serving

-- Clients that are served stay served until the leader is gone.
abbrev pub ServingStays : Type 0
ServingStays =
    (loading : Loading) (r : Replica) (i : Item) (t : ItemEffect) → is_serving r ≡ true → take_item loading r i ≡ Ok t
    → is_serving t.replica ≡ true
