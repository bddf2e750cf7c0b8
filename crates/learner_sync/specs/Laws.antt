-- What holds for every learner: at the start, and whatever it learns.
use Rattle.std.specs.Prelude.{◌≡◌, ℕ, ◌<◌, ◌^◌, ℤ, pos, Bool, true, false, List, [], ◌∷◌, ◌++◌, length, Ok, ◌<ℤ◌, ◌≤ℤ◌, ◌⊎◌}
use Rattle.std.specs.Int.{int_max}
use Rattle.std.specs.List.{AllByRecursion}
use Rattle.settings.specs.Settings.{EpochPair}
use Rattle.settings.specs.declared.dialect.Dialect.{Dialect}
use Rattle.quorum_packet.specs.Feed.{CanBeWritten}
use Rattle.quorum_packet.specs.Packet.{packet_format}
use Rattle.quorum_packet.specs.declared.item.Item.{Item}
use Rattle.quorum_packet.specs.declared.item.Item.TheVariants as item
use Rattle.quorum_packet.specs.declared.packet.QuorumPacket.{QuorumPacket}
use Rattle.txn_codec.specs.declared.txn.Txn.{Txn}
use Rattle.learner_sync.specs.Answers.{ping_reply}
use Rattle.learner_sync.specs.Learner.{Learner, new_learner, primed_learner}
use Rattle.learner_sync.specs.Learn.{LearnerStep, single_act, start_following, stop_following, checkpoint_learner, txns_up_to, zxid_after, learn_item}
use Rattle.learner_sync.specs.declared.act.Act.{Act}
use Rattle.learner_sync.specs.declared.act.Act.TheVariants as act
use Rattle.learner_sync.specs.declared.phase.Phase.{Phase}
use Rattle.learner_sync.specs.declared.phase.Phase.TheVariants as phase

-- ---- the log

-- Each transaction has a zxid above the one before it.
abbrev pub ZxidsRise : ℤ → List Txn → Type 0
ZxidsRise zxid [] = Unit {0}
ZxidsRise zxid (t ∷ log) = (zxid <ℤ t.header.zxid) × ZxidsRise t.header.zxid log

-- The zxid of an awaited image isn't below 0. On an image, the transaction applied last is the log's last.
abbrev pub PhaseFitsLog : Phase → List Txn → Type 0
PhaseFitsLog (phase.Image zxid) log = pos 0 ≤ℤ zxid
PhaseFitsLog (phase.ReplayOnImage applied) log = applied ≡ zxid_after (pos 0) log
PhaseFitsLog phase log = Unit {0}

-- The zxids of the log ascend from above 0; after an image the first ones may be below the base's. The last zxid is the
-- greater of the base's and that of the log's last transaction.
pub record FollowsItsLog (l : Learner) : Type 0 where
  pub rising : ZxidsRise (pos 0) l.log
  pub last : l.last_zxid ≡ int_max l.base_zxid (zxid_after (pos 0) l.log)
  pub based : pos 0 ≤ℤ l.base_zxid
  pub stands : PhaseFitsLog l.phase l.log

pub record LogsAreFollowed : Type 0 where
  pub made : (dialect : Dialect) (epochs : EpochPair) → FollowsItsLog (new_learner dialect epochs)
  pub primed : (dialect : Dialect) → FollowsItsLog (primed_learner dialect)
  pub starts : (l : Learner) (server_id : ℤ) → FollowsItsLog l → FollowsItsLog (start_following l server_id).after
  pub learns : (l : Learner) (i : Item) (x : LearnerStep) → FollowsItsLog l → learn_item l i ≡ Ok x
      → FollowsItsLog x.after
  pub ends : (l : Learner) → FollowsItsLog l → FollowsItsLog (stop_following l)
  pub checks : (l : Learner) → FollowsItsLog l → FollowsItsLog (checkpoint_learner l)

-- The transactions up to a zxid are a prefix of the log.
abbrev pub TruncatesToFronts : Type 0
TruncatesToFronts =
    (l : Learner) (zxid : ℤ) → FollowsItsLog l → (above : List Txn) × (l.log ≡ txns_up_to zxid l.log ++ above)

-- ---- epochs

-- The accepted epoch never decreases, and only learning raises it.
pub record EpochsDontFall : Type 0 where
  pub starts : (l : Learner) (server_id : ℤ) → (start_following l server_id).after.accepted_epoch ≡ l.accepted_epoch
  pub learns : (l : Learner) (i : Item) (x : LearnerStep) → learn_item l i ≡ Ok x
      → l.accepted_epoch ≤ℤ x.after.accepted_epoch
  pub ends : (l : Learner) → (stop_following l).accepted_epoch ≡ l.accepted_epoch
  pub checks : (l : Learner) → (checkpoint_learner l).accepted_epoch ≡ l.accepted_epoch

-- ---- the dialect

-- Leaders speak the same dialect, whatever is learnt.
pub record DialectStays : Type 0 where
  pub starts : (l : Learner) (server_id : ℤ) → (start_following l server_id).after.dialect ≡ l.dialect
  pub learns : (l : Learner) (i : Item) (x : LearnerStep) → learn_item l i ≡ Ok x → x.after.dialect ≡ l.dialect
  pub ends : (l : Learner) → (stop_following l).dialect ≡ l.dialect
  pub checks : (l : Learner) → (checkpoint_learner l).dialect ≡ l.dialect

-- ---- serving

-- The log has one more transaction. Its zxid is above the last one, and is the new last one.
pub record HasOneMoreTxn (l : Learner) (x : LearnerStep) : Type 0 where
  pub txn : Txn
  pub above : l.last_zxid <ℤ txn.header.zxid
  pub learnt : x ≡ single_act act.Apply (record l { last_zxid = txn.header.zxid; log = l.log ++ txn ∷ [] })

-- While clients are served, what is learnt leaves the learner as it is, or is one more transaction.
abbrev pub ServingRises : Type 0
ServingRises =
    (l : Learner) (i : Item) (x : LearnerStep) → l.phase ≡ phase.Serving → learn_item l i ≡ Ok x
    → (x.after ≡ l) ⊎ HasOneMoreTxn l x

-- ---- acts

-- The acts that are the only act for their item.
abbrev pub is_only_act : Act → Bool
is_only_act act.Apply = true
is_only_act (act.LoadPart part) = true
is_only_act act.LoadImage = true
is_only_act (act.Truncate zxid) = true
is_only_act a = false

-- The acts account for the log and its base: one more transaction, the transactions up to a zxid, or an empty log on a
-- new base. Without such an act the log and the base are unchanged. A part to load leaves the learner as it is.
abbrev pub AccountsForLog : List Act → Learner → Learner → Type 0
AccountsForLog (act.Apply ∷ []) l after = (t : Txn) × (after.log ≡ l.log ++ t ∷ []) × (after.base_zxid ≡ l.base_zxid)
AccountsForLog (act.Truncate zxid ∷ []) l after = (after.log ≡ txns_up_to zxid l.log) × (after.base_zxid ≡ l.base_zxid)
AccountsForLog (act.LoadImage ∷ []) l after = (after.log ≡ []) × (after.base_zxid ≡ after.last_zxid)
AccountsForLog (act.LoadPart part ∷ acts) l after = (acts ≡ []) × (after ≡ l)
AccountsForLog acts l after =
    (after.log ≡ l.log) × (after.base_zxid ≡ l.base_zxid) × AllByRecursion (λ a. is_only_act a ≡ false) acts

-- The acts that concern an image.
abbrev pub is_of_image : Act → Bool
is_of_image (act.LoadPart part) = true
is_of_image act.LoadImage = true
is_of_image act.DropImage = true
is_of_image a = false

-- A packet to send can be written, and so can the answer to a PING.
abbrev pub CanBeDone : Act → Type 0
CanBeDone (act.Send p) = packet_format.Writable p
CanBeDone (act.AnswerPing p) =
    (table : List ℕ) → length table < 2 ^ 31 → packet_format.Writable (ping_reply p table)
CanBeDone a = Unit {0}

pub record ActsAccountForLog : Type 0 where
  pub tells : (l : Learner) (i : Item) (x : LearnerStep) → learn_item l i ≡ Ok x → AccountsForLog x.acts l x.after
  -- No act for a packet concerns an image.
  pub packets : (l : Learner) (p : QuorumPacket) (x : LearnerStep) → learn_item l (item.Packet p) ≡ Ok x
      → AllByRecursion (λ a. is_of_image a ≡ false) x.acts
  pub sends : (l : Learner) (i : Item) (x : LearnerStep) → learn_item l i ≡ Ok x → CanBeWritten i
      → AllByRecursion CanBeDone x.acts
  pub introduces : (l : Learner) (server_id : ℤ) → AllByRecursion CanBeDone (start_following l server_id).acts
