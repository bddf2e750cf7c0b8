-- The parts of an image in order.
use Rattle.std.proofs.Common.{◌≡◌, ℤ, false, List, [], ◌∷◌, Result, Ok, Err, refl, ap, ◌∙◌}
use Rattle.values.specs.declared.fault.Fault.{Fault}
use Rattle.jute.specs.Format.{◌>>=◌}
use Rattle.quorum_packet.specs.declared.item.Item.{Item}
use Rattle.quorum_packet.specs.declared.item.Item.TheVariants as item
use Rattle.snapshot_codec.specs.Parts.{Part, is_end}
use Rattle.snapshot_codec.specs.declared.part.ImagePart.{ImagePart}
use Rattle.snapshot_codec.specs.declared.part.ImagePart.TheVariants as part
use Rattle.learner_sync.specs.Learner.{Learner}
use Rattle.learner_sync.specs.Learn.{LearnerStep, single_act, with_image_zxid, load_part, load_to_drop, acts_to_drop, part_in_phase, learn_item}
use Rattle.learner_sync.specs.Images.{prepend_acts, learn_all, AreInner, items_of, acts_of_image, image_in_phase, PartsAreTheImage}
use Rattle.learner_sync.specs.declared.act.Act.{Act}
use Rattle.learner_sync.specs.declared.act.Act.TheVariants as act
use Rattle.learner_sync.specs.declared.phase.Phase.{Phase}
use Rattle.learner_sync.specs.declared.phase.Phase.TheVariants as phase

-- An item, and then others.
abbrev then : Learner → List Item → Result LearnerStep Fault → Result LearnerStep Fault
then l others r = r >>= λ x. prepend_acts x.acts (learn_all x.after others)

load-inner : (p : ImagePart) (l : Learner) (zxid : ℤ) → is_end (Part p) ≡ false
    → load_part p l zxid ≡ single_act (act.LoadPart p) l
load-inner part.End l zxid e = cc
load-inner p l zxid e = refl

drop-inner : (p : ImagePart) → is_end (Part p) ≡ false → acts_to_drop p ≡ act.LoadPart p ∷ []
drop-inner part.End e = cc
drop-inner p e = refl

-- Each part before the end is loaded, and the end has the last act.
all-load : (l : Learner) (last : Act) (after : Learner)
    → ((p : ImagePart) → is_end (Part p) ≡ false → learn_item l (item.Part p) ≡ Ok (single_act (act.LoadPart p) l))
    → learn_item l (item.Part part.End) ≡ Ok (single_act last after)
    → (parts : List ImagePart) → AreInner parts
    → learn_all l (items_of parts) ≡ Ok (record { acts = acts_of_image parts last; after = after })
all-load l last after inner ends [] h = ap (then l []) ends
all-load l last after inner ends (p ∷ parts) h =
    ap (then l (items_of parts)) (inner p h.0)
    ∙ ap (prepend_acts (act.LoadPart p ∷ [])) (all-load l last after inner ends parts h.1)

at : (l : Learner) (ph : Phase) (p : ImagePart) → l.phase ≡ ph → learn_item l (item.Part p) ≡ part_in_phase ph l p
at l ph p e = ap (λ x. part_in_phase x l p) e

all-drop : (l : Learner) → ((p : ImagePart) → learn_item l (item.Part p) ≡ Ok (load_to_drop p l))
    → (parts : List ImagePart) → AreInner parts
    → learn_all l (items_of parts) ≡ Ok (record { acts = acts_of_image parts act.DropImage; after = l })
all-drop l drops parts h =
    all-load l act.DropImage l
    (λ p inner. drops p ∙ ap (λ acts. Ok (record { acts = acts; after = l })) (drop-inner p inner))
    (drops part.End) parts h

all-refused : (l : Learner) (e : Fault) → ((p : ImagePart) → learn_item l (item.Part p) ≡ Err e)
    → (parts : List ImagePart) → learn_all l (items_of parts) ≡ Err e
all-refused l e refuses [] = ap (then l []) (refuses part.End)
all-refused l e refuses (p ∷ parts) = ap (then l (items_of parts)) (refuses p)

pub parts_are_the_image : PartsAreTheImage
parts_are_the_image l parts h = by l.phase refl
  where
    by : (ph : Phase) → l.phase ≡ ph → learn_all l (items_of parts) ≡ image_in_phase ph l parts
    by phase.Down e = all-drop l (λ p. at l phase.Down p e) parts h
    by phase.Hello e = all-refused l _ (λ p. at l phase.Hello p e) parts
    by phase.Sync e = all-refused l _ (λ p. at l phase.Sync p e) parts
    by (phase.Image zxid) e =
        all-load l act.LoadImage (with_image_zxid l zxid)
        (λ p inner. at l (phase.Image zxid) p e ∙ ap (λ x. Ok x) (load-inner p l zxid inner))
        (at l (phase.Image zxid) part.End e) parts h
    by (phase.ReplayOnImage applied) e = all-drop l (λ p. at l (phase.ReplayOnImage applied) p e) parts h
    by phase.Replay e = all-drop l (λ p. at l phase.Replay p e) parts h
    by phase.Serving e = all-drop l (λ p. at l phase.Serving p e) parts h
