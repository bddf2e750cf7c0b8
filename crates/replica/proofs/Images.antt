-- Images are loaded part by part.
use Rattle.std.proofs.Common.{◌≡◌, ℤ, List, [], ◌∷◌, ◌++◌, Option, Some, None, Result, Ok, Err, Bool, true, false, cond, refl, sym, ap, subst, ◌∙◌, int_lt}
use Rattle.std.specs.Prelude.{pos}
use Rattle.std.specs.List.{AllByRecursion}
use Rattle.values.specs.declared.fault.Fault.{Fault}
use Rattle.values.specs.declared.fault.Fault.TheVariants.{OutOfOrder}
use Rattle.jute.specs.Format.{◌>>=◌}
use Rattle.txn_codec.specs.declared.txn.Txn.{Txn}
use Rattle.snapshot_codec.specs.Made.{Loading, with_loaded}
use Rattle.snapshot_codec.specs.Parts.{Part, is_end}
use Rattle.snapshot_codec.specs.declared.part.ImagePart.{ImagePart}
use Rattle.snapshot_codec.specs.declared.part.ImagePart.TheVariants as part
use Rattle.quorum_packet.specs.WholeItems.{OnePacket, OneImage}
use Rattle.quorum_packet.specs.declared.item.Item.TheVariants as item
use Rattle.quorum_packet.specs.declared.kind.PacketKind.{PacketKind}
use Rattle.quorum_packet.specs.declared.kind.PacketKind.TheVariants as kinds
use Rattle.quorum_packet.specs.declared.packet.QuorumPacket.{QuorumPacket}
use Rattle.settings.specs.Dialects.{reads_of}
use Rattle.settings.specs.declared.dialect.Dialect.{Dialect}
use Rattle.quorum_packet.specs.Kinds.{kind_of}
use Rattle.learner_sync.specs.Learner.{Learner}
use Rattle.learner_sync.specs.Learn.{LearnerStep, single_act, load_part, load_to_drop, await_image, at_phase, message_in_phase, part_in_phase, learn_item}
use Rattle.learner_sync.specs.Learn.{no_acts as nothing_learnt}
use Rattle.learner_sync.specs.Messages.{message_of_kind, message_of_packet}
use Rattle.learner_sync.specs.Laws.{is_of_image, ActsAccountForLog}
use Rattle.learner_sync.specs.declared.act.Act.{Act}
use Rattle.learner_sync.specs.declared.act.Act.TheVariants as act
use Rattle.learner_sync.specs.declared.message.Message.{Message}
use Rattle.learner_sync.specs.declared.message.Message.TheVariants as message
use Rattle.learner_sync.specs.declared.phase.Phase.{Phase}
use Rattle.learner_sync.specs.declared.phase.Phase.TheVariants as phase
use Rattle.replica.specs.Replica.{Replica}
use Rattle.replica.specs.declared.item_outcome.LeaderNews.TheVariants as news
use Rattle.replica.specs.Taking.{ItemEffect, nothing_loaded, no_effect, last_txn, apply_to_tree, rebuild_tree, carry_out_all, with_learner, take_item, loading_of, take_whole}
use Rattle.replica.specs.Laws.{awaits_image_in, awaits_image, with_given_loading, ImagesComeInParts}

-- The acts that were learnt are done.
abbrev carried : Loading → Replica → Result LearnerStep Fault → Result ItemEffect Fault
carried loading r learnt = learnt >>= λ x. carry_out_all (no_effect loading (with_learner r x)) x.acts

-- ---- packets

-- Acts that don't concern an image leave the image that is being loaded.
apart : (loading : Loading) (t : ItemEffect) (acts : List Act) → AllByRecursion (λ a. is_of_image a ≡ false) acts
    → carry_out_all (with_given_loading loading t) acts
    ≡ (carry_out_all t acts >>= λ u. Ok (with_given_loading loading u))
apart loading t [] h = refl
apart loading t (act.Send p ∷ acts) h = apart loading (record t { replies = t.replies ++ p ∷ [] }) acts h.1
apart loading t (act.AnswerPing p ∷ acts) h = apart loading (record t { news = Some (news.Ping p) }) acts h.1
apart loading t (act.SettleSync ∷ acts) h = apart loading (record t { news = Some news.SyncSettled }) acts h.1
apart loading t (act.Revalidated session is_valid ∷ acts) h =
    apart loading (record t { news = Some (news.Revalidated session is_valid) }) acts h.1
apart loading t (act.Apply ∷ acts) h = by (last_txn t.replica.learner.log) (λ u. apart loading u acts h.1)
  where
    by : (o : Option Txn)
        → ((u : ItemEffect)
        → carry_out_all (with_given_loading loading u) acts
        ≡ (carry_out_all u acts >>= λ u. Ok (with_given_loading loading u)))
        → carry_out_all (apply_to_tree (with_given_loading loading t) o) acts
        ≡ (carry_out_all (apply_to_tree t o) acts >>= λ u. Ok (with_given_loading loading u))
    by None others = others t
    by (Some txn) others = others (apply_to_tree t (Some txn))
apart loading t (act.Truncate zxid ∷ acts) h = apart loading (rebuild_tree t) acts h.1
apart loading t (act.Epochs ∷ acts) h = apart loading t acts h.1
apart loading t (act.ServeFrom ∷ acts) h = apart loading t acts h.1
apart loading t (act.LoadPart p ∷ acts) h = cc (h.0)
apart loading t (act.LoadImage ∷ acts) h = cc (h.0)
apart loading t (act.DropImage ∷ acts) h = cc (h.0)

packets-apart : ActsAccountForLog → (loading : Loading) (r : Replica) (p : QuorumPacket)
    → take_item loading r (item.Packet p) ≡ (take_whole r (OnePacket p) >>= λ t. Ok (with_given_loading loading t))
packets-apart tells loading r p = by (learn_item r.learner (item.Packet p)) refl
  where
    by : (x : Result LearnerStep Fault) → learn_item r.learner (item.Packet p) ≡ x
        → carried loading r x
        ≡ (carried (nothing_loaded r.learner.dialect) r x >>= λ t. Ok (with_given_loading loading t))
    by (Ok x) e =
        apart loading (no_effect (nothing_loaded r.learner.dialect) (with_learner r x)) x.acts
        (tells.packets r.learner p x e)
    by (Err fault) e = refl

-- ---- an image is announced

abbrev Awaits : Result ItemEffect Fault → Type 0
Awaits (Ok t) = awaits_image t.replica ≡ true
Awaits (Err e) = Unit {0}

awaited : (loading : Loading) (r : Replica) (zxid : ℤ) → Awaits (carried loading r (await_image r.learner zxid))
awaited loading r zxid = by (int_lt zxid (pos 0))
  where
    by : (b : Bool) → Awaits (carried loading r
        (cond b (Err OutOfOrder) (Ok (nothing_learnt (at_phase r.learner (phase.Image zxid))))))
    by true = tt
    by false = refl

snap-awaits : (loading : Loading) (r : Replica) (p : QuorumPacket) → kind_of p.kind ≡ Some kinds.Snap
    → Awaits (take_item loading r (item.Packet p))
snap-awaits loading r p k =
    let is : message_of_packet r.learner.dialect p ≡ message.Snap p.zxid =
    ap (λ (k : Option PacketKind). message_of_kind (reads_of r.learner.dialect) k p) k in
    subst (λ (m : Message). Awaits (carried loading r (message_in_phase r.learner.phase r.learner m))) (sym is)
    (by r.learner.phase refl)
  where
    by : (ph : Phase) → r.learner.phase ≡ ph
        → Awaits (carried loading r (message_in_phase ph r.learner (message.Snap p.zxid)))
    by phase.Hello e = tt
    by phase.Sync e = awaited loading r p.zxid
    by (phase.Image zxid) e = tt
    by ph e = ap awaits_image_in e

-- ---- parts

load-inner : (p : ImagePart) (l : Learner) (zxid : ℤ) → is_end (Part p) ≡ false
    → load_part p l zxid ≡ single_act (act.LoadPart p) l
load-inner part.End l zxid e = cc
load-inner p l zxid e = refl

pass-inner : (p : ImagePart) (l : Learner) → is_end (Part p) ≡ false → load_to_drop p l ≡ single_act (act.LoadPart p) l
pass-inner part.End l e = cc
pass-inner p l e = refl

part-inner : (ph : Phase) (l : Learner) (p : ImagePart) → awaits_image_in ph ≡ true → is_end (Part p) ≡ false
    → part_in_phase ph l p ≡ Ok (single_act (act.LoadPart p) l)
part-inner phase.Hello l p a e = cc
part-inner phase.Sync l p a e = cc
part-inner (phase.Image zxid) l p a e = ap (λ (x : LearnerStep). Ok x) (load-inner p l zxid e)
part-inner ph l p a e = ap (λ (x : LearnerStep). Ok x) (pass-inner p l e)

inner-loads : (loading : Loading) (r : Replica) (p : ImagePart) → awaits_image r ≡ true → is_end (Part p) ≡ false
    → take_item loading r (item.Part p) ≡ (with_loaded loading p >>= λ loaded. Ok (no_effect loaded r))
inner-loads loading r p a e =
    ap (carried loading r) (part-inner r.learner.phase r.learner p a e) ∙ by (with_loaded loading p)
  where
    by : (x : Result Loading Fault)
        → ((x >>= λ loaded. Ok (record (no_effect loading r) { loading = loaded })) >>= λ u. carry_out_all u [])
        ≡ (x >>= λ loaded. Ok (no_effect loaded r))
    by (Ok loaded) = refl
    by (Err fault) = refl

end-is-image : (loading : Loading) (r : Replica)
    → take_item loading r (item.Part part.End) ≡ take_whole r (OneImage loading.made.state)
end-is-image loading r = by r.learner.phase
  where
    by : (ph : Phase) → carried loading r (part_in_phase ph r.learner part.End)
        ≡ carried (loading_of r.learner.dialect loading.made.state) r (part_in_phase ph r.learner part.End)
    by phase.Hello = refl
    by phase.Sync = refl
    by (phase.Image zxid) = refl
    by ph = refl

abbrev Unloads : Dialect → Result ItemEffect Fault → Type 0
Unloads dialect (Ok t) = t.loading ≡ nothing_loaded dialect
Unloads dialect (Err e) = Unit {0}

end-unloads : (loading : Loading) (r : Replica) → Unloads r.learner.dialect (take_item loading r (item.Part part.End))
end-unloads loading r = by r.learner.phase
  where
    by : (ph : Phase) → Unloads r.learner.dialect (carried loading r (part_in_phase ph r.learner part.End))
    by phase.Hello = tt
    by phase.Sync = tt
    by (phase.Image zxid) = refl
    by ph = refl

pub images-come-in-parts : ActsAccountForLog → ImagesComeInParts
images-come-in-parts tells = record {
  packets = packets-apart tells;
  announced = λ loading r p t k e. subst Awaits e (snap-awaits loading r p k);
  inner = inner-loads;
  ends = λ loading r a. end-is-image loading r;
  unloads = λ loading r t a e. subst (Unloads r.learner.dialect) e (end-unloads loading r);
}
