-- What a packet that brings transactions does is at most the log's last transaction.
use Rattle.std.proofs.Common.{◌≡◌, ℤ, ℕ, Bool, true, false, cond, List, [], ◌∷◌, ◌++◌, Option, Some, None, Result, Ok, Err, refl, sym, ap, subst, ◌∙◌}
use Rattle.std.specs.Prelude.{int_lt}
use Rattle.std.specs.Ordering.{int_eq}
use Rattle.std.proofs.lemmas.List.{append-nil}
use Rattle.values.specs.declared.fault.Fault.{Fault}
use Rattle.values.specs.declared.fault.Fault.TheVariants.{OutOfOrder, CommitMismatch}
use Rattle.jute.specs.Format.{◌>>=◌}
use Rattle.txn_codec.specs.declared.txn.Txn.{Txn}
use Rattle.settings.specs.Dialects.{reads_of}
use Rattle.settings.specs.declared.dialect.Reads.{Reads}
use Rattle.data_tree.specs.State.{State}
use Rattle.snapshot_codec.specs.Made.{Loading}
use Rattle.quorum_packet.specs.Kinds.{kind_of}
use Rattle.quorum_packet.specs.declared.item.Item.{Item}
use Rattle.quorum_packet.specs.declared.item.Item.TheVariants as item
use Rattle.quorum_packet.specs.declared.kind.PacketKind.{PacketKind}
use Rattle.quorum_packet.specs.declared.kind.PacketKind.TheVariants as kinds
use Rattle.quorum_packet.specs.declared.packet.QuorumPacket.{QuorumPacket}
use Rattle.learner_sync.specs.Learner.{Learner}
use Rattle.learner_sync.specs.Learn.{LearnerStep, no_acts, single_act, zxid_floor, with_applied, apply_txn, carried_txn, learn_inform, learn_proposal, commit_of, message_in_hello, message_in_sync, message_in_replay, message_in_serving, message_in_phase, learn_item}
use Rattle.quorum_packet.specs.Packet.{carried_bytes}
use Rattle.learner_sync.specs.Messages.{message_of_kind, message_of_packet}
use Rattle.learner_sync.specs.declared.act.Act.{Act}
use Rattle.learner_sync.specs.declared.act.Act.TheVariants as act
use Rattle.learner_sync.specs.declared.phase.Phase.{Phase}
use Rattle.learner_sync.specs.declared.phase.Phase.TheVariants as phase
use Rattle.replica.specs.Replica.{Replica}
use Rattle.replica.specs.Taking.{ItemEffect, no_effect, last_txn, apply_to_tree, carry_out_all, with_learner, take_item}
use Rattle.replica.specs.Gathering.{is_kind_of_txns, brings_txns, optional_txn, TransactionsAreGathered}
use Rattle.replica.proofs.Following.{last-push}

-- ---- the acts, and the log

abbrev acts_for : Option Txn → List Act
acts_for None = []
acts_for (Some t) = act.Apply ∷ []

-- One transaction more, or all as before.
record IsOneMore (l : Learner) (x : LearnerStep) : Type 0 where
  gained : Option Txn
  acts : x.acts ≡ acts_for gained
  log : x.after.log ≡ l.log ++ optional_txn gained

abbrev Holds : Learner → Result LearnerStep Fault → Type 0
Holds l (Ok x) = IsOneMore l x
Holds l (Err e) = Unit {0}

same : (l after : Learner) → after.log ≡ l.log → Holds l (Ok (no_acts after))
same l after log = record { gained = None; acts = refl; log = log ∙ sym (append-nil l.log) }

apply-one : (l : Learner) (ts : List Txn) (t : Txn) → Holds l (apply_txn (record l { proposals = ts }) t)
apply-one l ts t = by (int_lt (zxid_floor l.phase l.last_zxid) t.header.zxid)
  where
    by : (b : Bool) → Holds l
        (cond b (Ok (single_act act.Apply (with_applied (record l { proposals = ts }) t))) (Err OutOfOrder))
    by true = record { gained = Some t; acts = refl; log = refl }
    by false = tt

inform-one : (l : Learner) (bytes : List ℕ) → Holds l (learn_inform l bytes)
inform-one l bytes = by (carried_txn l bytes)
  where
    by : (r : Result Txn Fault) → Holds l (r >>= λ t. apply_txn l t)
    by (Ok t) = apply-one l l.proposals t
    by (Err e) = tt

propose-one : (l : Learner) (bytes : List ℕ) → Holds l (learn_proposal l bytes)
propose-one l bytes = by (carried_txn l bytes)
  where
    by : (r : Result Txn Fault)
        → Holds l (r >>= λ t. Ok (no_acts (record l { proposals = l.proposals ++ t ∷ [] })))
    by (Ok t) = same l (record l { proposals = l.proposals ++ t ∷ [] }) refl
    by (Err e) = tt

commit-one : (l : Learner) (ts : List Txn) (zxid : ℤ) → Holds l (commit_of l ts zxid)
commit-one l [] zxid = tt
commit-one l (t ∷ others) zxid = by (int_eq t.header.zxid zxid)
  where
    by : (b : Bool) → Holds l (cond b (apply_txn (record l { proposals = others }) t) (Err CommitMismatch))
    by true = apply-one l others t
    by false = tt

-- ---- each kind, in each phase

module _ (l : Learner) (p : QuorumPacket) (reads : Reads) where
  replay-one : (k : Option PacketKind) → is_kind_of_txns k ≡ true → Holds l (message_in_replay l (message_of_kind reads k p))
  replay-one (Some kinds.Inform) b = inform-one l (carried_bytes p.bytes)
  replay-one (Some kinds.Proposal) b = propose-one l (carried_bytes p.bytes)
  replay-one (Some kinds.Commit) b = commit-one l l.proposals p.zxid
  replay-one k b = cc b

  serving-one : (k : Option PacketKind) → is_kind_of_txns k ≡ true → Holds l (message_in_serving l (message_of_kind reads k p))
  serving-one (Some kinds.Inform) b = inform-one l (carried_bytes p.bytes)
  serving-one (Some kinds.Proposal) b = same l l refl
  serving-one (Some kinds.Commit) b = same l l refl
  serving-one k b = cc b

  hello-one : (k : Option PacketKind) → is_kind_of_txns k ≡ true → Holds l (message_in_hello l (message_of_kind reads k p))
  hello-one (Some kinds.Inform) b = tt
  hello-one (Some kinds.Proposal) b = tt
  hello-one (Some kinds.Commit) b = tt
  hello-one k b = cc b

  sync-one : (k : Option PacketKind) → is_kind_of_txns k ≡ true → Holds l (message_in_sync l (message_of_kind reads k p))
  sync-one (Some kinds.Inform) b = tt
  sync-one (Some kinds.Proposal) b = tt
  sync-one (Some kinds.Commit) b = tt
  sync-one k b = cc b

packet-one : (l : Learner) (p : QuorumPacket) (h : Phase) → is_kind_of_txns (kind_of p.kind) ≡ true
    → Holds l (message_in_phase h l (message_of_packet l.dialect p))
packet-one l p phase.Down b = same l l refl
packet-one l p phase.Hello b = hello-one l p (reads_of l.dialect) (kind_of p.kind) b
packet-one l p phase.Sync b = sync-one l p (reads_of l.dialect) (kind_of p.kind) b
packet-one l p (phase.Image zxid) b = tt
packet-one l p (phase.ReplayOnImage z) b = replay-one l p (reads_of l.dialect) (kind_of p.kind) b
packet-one l p phase.Replay b = replay-one l p (reads_of l.dialect) (kind_of p.kind) b
packet-one l p phase.Serving b = serving-one l p (reads_of l.dialect) (kind_of p.kind) b

item-one : (l : Learner) (i : Item) → brings_txns i ≡ true → Holds l (learn_item l i)
item-one l (item.Packet p) b = packet-one l p l.phase b
item-one l (item.Part p) b = cc b

-- ---- what is carried out

carried : (t : ItemEffect) (l : Learner) (gained : Option Txn) → t.replica.learner.log ≡ l.log ++ optional_txn gained
    → carry_out_all t (acts_for gained) ≡ Ok (apply_to_tree t gained)
carried t l None log = refl
carried t l (Some txn) log =
    ap (λ (o : Option Txn). Ok (apply_to_tree t o)) (ap last_txn log ∙ last-push l.log txn)

pub transactions-are-gathered : TransactionsAreGathered
transactions-are-gathered r i x brings is =
    let one = subst (Holds r.learner) is (item-one r.learner i brings) in
    record {
      gained = one.gained;
      log = one.log;
      taken = λ loading tree.
          let t = no_effect loading (record r { learner = x.after; tree = tree }) in
          ap (λ (y : Result LearnerStep Fault).
          y >>= λ x. carry_out_all (no_effect loading (with_learner (record r { tree = tree }) x)) x.acts) is
          ∙ ap (carry_out_all t) one.acts
          ∙ carried t r.learner one.gained one.log;
    }

-- An item that isn't learnt is refused, whatever the tree is.
pub refused-for-any-tree : (r : Replica) (i : Item) (e : Fault) → learn_item r.learner i ≡ Err e
    → (loading : Loading) (tree : State) → take_item loading (record r { tree = tree }) i ≡ Err e
refused-for-any-tree r i e is loading tree =
    ap (λ (y : Result LearnerStep Fault).
    y >>= λ x. carry_out_all (no_effect loading (with_learner (record r { tree = tree }) x)) x.acts) is
