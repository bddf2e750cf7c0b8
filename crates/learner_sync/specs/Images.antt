-- What is learnt of a whole image, and of a list of items.
use Rattle.std.specs.Prelude.{◌≡◌, false, List, [], ◌∷◌, ◌++◌, map, Result, Ok, Err}
use Rattle.std.specs.List.{AllByRecursion}
use Rattle.values.specs.declared.fault.Fault.{Fault}
use Rattle.values.specs.declared.fault.Fault.TheVariants.{UnexpectedPacket}
use Rattle.jute.specs.Format.{◌>>=◌}
use Rattle.quorum_packet.specs.declared.item.Item.{Item}
use Rattle.quorum_packet.specs.declared.item.Item.TheVariants as item
use Rattle.snapshot_codec.specs.Parts.{Part, is_end}
use Rattle.snapshot_codec.specs.declared.part.ImagePart.{ImagePart}
use Rattle.snapshot_codec.specs.declared.part.ImagePart.TheVariants as part
use Rattle.learner_sync.specs.Learner.{Learner}
use Rattle.learner_sync.specs.Learn.{LearnerStep, no_acts, with_image_zxid, learn_item}
use Rattle.learner_sync.specs.declared.act.Act.{Act}
use Rattle.learner_sync.specs.declared.act.Act.TheVariants as act
use Rattle.learner_sync.specs.declared.phase.Phase.{Phase}
use Rattle.learner_sync.specs.declared.phase.Phase.TheVariants as phase

-- ---- a list of items: the acts for each, in order; the first refusal ends it

abbrev pub prepend_acts : List Act → Result LearnerStep Fault → Result LearnerStep Fault
prepend_acts acts (Ok x) = Ok (record { acts = acts ++ x.acts; after = x.after })
prepend_acts acts (Err e) = Err e

abbrev pub learn_all : Learner → List Item → Result LearnerStep Fault
learn_all l [] = Ok (no_acts l)
learn_all l (i ∷ others) = learn_item l i >>= λ x. prepend_acts x.acts (learn_all x.after others)

-- ---- an image as one item: the parts before its end

abbrev pub AreInner : List ImagePart → Type 0
AreInner parts = AllByRecursion (λ p. is_end (Part p) ≡ false) parts

abbrev pub items_of : List ImagePart → List Item
items_of parts = map item.Part parts ++ item.Part part.End ∷ []

-- The parts of the image are loaded, and then the last act is done.
abbrev pub acts_of_image : List ImagePart → Act → List Act
acts_of_image parts last = map act.LoadPart parts ++ last ∷ []

abbrev pub image_in_phase : Phase → Learner → List ImagePart → Result LearnerStep Fault
image_in_phase phase.Down l parts = Ok (record { acts = acts_of_image parts act.DropImage; after = l })
image_in_phase phase.Hello l parts = Err UnexpectedPacket
image_in_phase phase.Sync l parts = Err UnexpectedPacket
image_in_phase (phase.Image zxid) l parts =
    Ok (record { acts = acts_of_image parts act.LoadImage; after = with_image_zxid l zxid })
image_in_phase (phase.ReplayOnImage applied) l parts =
    Ok (record { acts = acts_of_image parts act.DropImage; after = l })
image_in_phase phase.Replay l parts = Ok (record { acts = acts_of_image parts act.DropImage; after = l })
image_in_phase phase.Serving l parts = Ok (record { acts = acts_of_image parts act.DropImage; after = l })

abbrev pub learn_image : Learner → List ImagePart → Result LearnerStep Fault
learn_image l parts = image_in_phase l.phase l parts

-- The parts of an image in order do what the whole image does.
abbrev pub PartsAreTheImage : Type 0
PartsAreTheImage =
    (l : Learner) (parts : List ImagePart) → AreInner parts → learn_all l (items_of parts) ≡ learn_image l parts
