-- Taking the parts of an image one by one is the same as taking the image once it is complete. The items of a stream,
-- grouped, are its packets and whole images, so only the effect of a list of items is left to prove, item by item.
use Rattle.std.proofs.Common.{◌≡◌, ℕ, Bool, true, false, List, [], ◌∷◌, ◌++◌, Some, Result, Ok, Err, refl, sym, ap, subst, ◌∙◌}
use Rattle.std.proofs.lemmas.Bool.Decides.{Decides-int_eq}
use Rattle.settings.specs.declared.dialect.Dialect.{Dialect}
use Rattle.values.specs.declared.fault.Fault.{Fault}
use Rattle.jute.specs.Format.{◌>>=◌}
use Rattle.jute.specs.Stream.{Unread, Place, Items, with_more_bytes, with_first, items_in}
use Rattle.snapshot_codec.specs.Made.{LoadedParts, Loading, with_part}
use Rattle.snapshot_codec.specs.declared.part.ImagePart.{ImagePart}
use Rattle.snapshot_codec.specs.declared.part.ImagePart.TheVariants as part
use Rattle.quorum_packet.specs.declared.item.Item.{Item}
use Rattle.quorum_packet.specs.declared.item.Item.TheVariants as item
use Rattle.quorum_packet.specs.declared.kind.PacketKind.TheVariants as kinds
use Rattle.quorum_packet.specs.declared.packet.QuorumPacket.{QuorumPacket}
use Rattle.quorum_packet.specs.declared.phase.Phase.{Phase}
use Rattle.quorum_packet.specs.declared.phase.Phase.TheVariants.{Packets, Image}
use Rattle.quorum_packet.specs.GroupedItems.{grouped_part, grouped_items, SameUnread, SamePlace, SameRest, PiecesAreGrouped, AreInOrder, ItemsAreInOrder}
use Rattle.quorum_packet.specs.Items.{is_snap, items_shown_at}
use Rattle.quorum_packet.specs.Kinds.{code_of, kind_of}
use Rattle.quorum_packet.specs.WholeItems.{WholeItem, OnePacket, OneImage, is_owed, whole_items}
use Rattle.replica.specs.Replica.{Replica}
use Rattle.replica.specs.Taking.{ItemEffect, nothing_loaded, no_effect as nothing_taken, take_item, take_whole}
use Rattle.replica.specs.Laws.{awaits_image, ImagesComeInParts, DialectStays}
use Rattle.world.specs.declared.output.Output.{Output}
use Rattle.world.specs.World.{World}
use Rattle.world.specs.Steps.{StepResult, prepend_outputs, no_output, and_then, fold_steps}
use Rattle.observer_core.specs.Leader.{tell_effect, send_effect, WorldAndLoading, step_with_loading, item_step, whole_item_step, Delivery, delivery_of, deliver_item, is_refused, place_or_fault, place_after, StreamProgress, take_items}
use Rattle.world.proofs.Steps.{passed_over}
use Rattle.observer_core.proofs.Unmoved.{news_same}

-- ---- the relation

-- What counts of a replica: the dialect of its leaders, and whether an image may come.
pub record Expected : Type 0 where
  pub dialect : Dialect
  pub image : Bool

abbrev pub expected : Replica → Expected
expected r = record { dialect = r.learner.dialect; image = awaits_image r }

-- The same place in the stream. Where an image comes, the replica waits for one.
pub record Alike (loading : Loading) (x : Expected) (place : Place Phase) (whole : Place Bool) : Type 0 where
  pub same : SamePlace x.dialect loading place whole
  pub awaited : whole.phase ≡ true → x.image ≡ true

abbrev pub LeadersAlike : Loading → Expected → Result (Place Phase) Fault → Result (Place Bool) Fault → Type 0
LeadersAlike loading x (Ok p) (Ok q) = Alike loading x p q
LeadersAlike loading x (Err d) (Err e) = d ≡ e
LeadersAlike loading x p q = ⊥

-- The outputs and the world are the same, and the states of the stream are alike.
pub record Same (a : StepResult (StreamProgress Phase WorldAndLoading)) (b : StepResult (StreamProgress Bool World)) :
    Type 0 where
  pub outputs : a.outputs ≡ b.outputs
  pub world : a.after.left.world ≡ b.after.left
  pub leader : LeadersAlike a.after.left.loading (expected a.after.left.world.replica) a.after.place b.after.place

same_behind : (so_far : List Output) (a : StepResult (StreamProgress Phase WorldAndLoading))
    (b : StepResult (StreamProgress Bool World)) → Same a b
    → Same (prepend_outputs so_far a) (prepend_outputs so_far b)
same_behind so_far a b s =
    record { outputs = ap (λ (o : List Output). so_far ++ o) s.outputs; world = s.world; leader = s.leader }

-- The same, with equal results in place of both.
same_by : (a c : StepResult (StreamProgress Phase WorldAndLoading)) (b d : StepResult (StreamProgress Bool World))
    → a ≡ c → b ≡ d → Same c d
    → Same a b
same_by a c b d p q s =
    subst (λ (x : StepResult (StreamProgress Phase WorldAndLoading)). Same x b) (sym p)
    (subst (λ (y : StepResult (StreamProgress Bool World)). Same c y) (sym q) s)

-- ---- one item after another

module _ {S W I : Type 0} (taking : W → I → Result (StepResult W) Fault) where
  -- The first item's effect, and then that of the others.
  abbrev first : W → Items S I → Result (StepResult W) Fault → StepResult (StreamProgress S W)
  first w others (Ok h) = prepend_outputs h.outputs (take_items taking h.after others)
  first w others (Err e) = no_output (record { left = w; place = Err e })

  abbrev come_to : Items S I → StepResult (Delivery W) → StepResult (StreamProgress S W)
  come_to i h =
      record { outputs = h.outputs; after = record { left = h.after.left; place = place_after i.left h.after.fault } }

  arrive_first : (w : W) (i : I) (others : Items S I)
      → take_items taking w (with_first i others) ≡ first w others (taking w i)
  arrive_first w i others = by (taking w i)
    where
      by : (r : Result (StepResult W) Fault)
          → come_to others (and_then (delivery_of r w)
          (λ d. fold_steps is_refused (deliver_item taking) d others.found))
          ≡ first w others r
      by (Ok h) = refl
      by (Err e) = ap (come_to others)
          (passed_over is_refused (deliver_item taking) (record { left = w; fault = Some e }) others.found refl)

abbrev by_part : Loading → World → Items Phase Item → StepResult (StreamProgress Phase WorldAndLoading)
by_part loading w i = take_items item_step (record { loading = loading; world = w }) i

abbrev by_image : World → Items Bool WholeItem → StepResult (StreamProgress Bool World)
by_image w i = take_items whole_item_step w i

-- An item that is taken leaves this loading. If the others after it have the same effect, so has the whole.
taken_same : (loading next : Loading) (w : World) (q : Result ItemEffect Fault) (i : Items Phase Item)
    (k : Items Bool WholeItem)
    → ((t : ItemEffect) → q ≡ Ok t
    → (t.loading ≡ next) × Same (by_part next (send_effect w t).after i) (by_image (send_effect w t).after k))
    → Same (first item_step (record { loading = loading; world = w }) i
    (q >>= λ t. Ok (step_with_loading t.loading (send_effect w t))))
    (first whole_item_step w k (q >>= λ t. Ok (send_effect w t)))
taken_same loading next w (Ok t) i k others =
    let h = send_effect w t in
    let o = others t refl in
    same_behind h.outputs (by_part t.loading h.after i) (by_image h.after k)
    (subst (λ (l : Loading). Same (by_part l h.after i) (by_image h.after k)) (sym o.0) o.1)
taken_same loading next w (Err e) i k others = record { outputs = refl; world = refl; leader = refl }

-- The image that is being loaded after an item that was taken.
abbrev loaded_in : Loading → Result ItemEffect Fault → Loading
loaded_in loading (Ok t) = t.loading
loaded_in loading (Err e) = loading

still_loaded : (loading : Loading) (r : Result ItemEffect Fault) (t : ItemEffect)
    → r ≡ (r >>= λ u. Ok (record u { loading = loading })) → r ≡ Ok t
    → t.loading ≡ loading
still_loaded loading (Ok u) t same e = sym (ap (loaded_in loading) e) ∙ ap (loaded_in loading) same
still_loaded loading (Err d) t same e = absurd cc

snap_kind : (p : QuorumPacket) → is_snap p ≡ true → kind_of p.kind ≡ Some kinds.Snap
unfolding kind_of
snap_kind p e = ap kind_of ((Decides-int_eq p.kind (code_of kinds.Snap)).0 e)

abbrev loading_of : LoadedParts → Loading
loading_of made = record { made = made; ended = false }

-- Both are at the same place.
stands_alike : (loading : Loading) (x : Expected) (p : Place Phase) (q : Place Bool) (u v : Unread)
    → SameUnread x.dialect loading p.phase u v → Alike loading x p q
    → LeadersAlike loading x (place_or_fault p u) (place_or_fault q v)
stands_alike loading x p q (Ok u) (Ok v) s a = a
stands_alike loading x p q (Err d) (Err e) s a = s
stands_alike loading x p q (Ok u) (Err e) s a = absurd s
stands_alike loading x p q (Err d) (Ok v) s a = absurd s

module _ (law : ImagesComeInParts) (stays : DialectStays) where
  -- ---- items in their order, and the place in the stream after them

  module _ (p : Place Phase) (q : Place Bool) where
    abbrev DoTheSame : Dialect → Loading → World → List Item → Type 0
    DoTheSame d l w is =
        SameRest d (grouped_items d l is).loaded p q
        → Same (by_part l w (record { found = is; left = p }))
        (by_image w (record { found = (grouped_items d l is).found; left = q }))

    -- Where an image is owed, the replica waits for one. Where none is owed, nothing is loaded.
    abbrev AllDoTheSame : List Item → Type 0
    AllDoTheSame is =
        (owed : Bool) (l : Loading) (w : World) → (owed ≡ true → awaits_image w.replica ≡ true)
        → (owed ≡ false → l ≡ nothing_loaded w.replica.learner.dialect) → AreInOrder owed is (is_owed p.phase)
        → DoTheSame w.replica.learner.dialect l w is

    none_do : AllDoTheSame []
    none_do owed l w waits none order rest = record {
      outputs = refl;
      world = refl;
      leader = stands_alike l (expected w.replica) p q p.unread q.unread rest.2
          (record { same = rest; awaited = λ e. waits (order ∙ sym rest.1 ∙ e) });
    }

    -- The items after one that left no image being loaded. What it told leaves the replica.
    others_do : (is : List Item) (owed : Bool) (l : Loading) (w : World) (i : Item) (t : ItemEffect)
        → take_item l w.replica i ≡ Ok t → (owed ≡ true → awaits_image t.replica ≡ true)
        → AreInOrder owed is (is_owed p.phase) → AllDoTheSame is
        → DoTheSame w.replica.learner.dialect (nothing_loaded w.replica.learner.dialect) (send_effect w t).after is
    others_do is owed l w i t e waits order all =
        let v = (send_effect w t).after in
        let told : v.replica ≡ t.replica = news_same t.news (tell_effect w t).after in
        let speaks : v.replica.learner.dialect ≡ w.replica.learner.dialect =
        ap (λ (r : Replica). r.learner.dialect) told ∙ stays.takes l w.replica i t e in
        subst (λ (d : Dialect). DoTheSame d (nothing_loaded d) v is) speaks
        (all owed (nothing_loaded v.replica.learner.dialect) v (λ owes. ap awaits_image told ∙ waits owes)
        (λ none. refl) order)

    packet_taken : (k : QuorumPacket) (is : List Item) (w : World)
        → AreInOrder (is_snap k) is (is_owed p.phase) → AllDoTheSame is
        → DoTheSame w.replica.learner.dialect (nothing_loaded w.replica.learner.dialect) w (item.Packet k ∷ is)
    packet_taken k is w order all rest =
        let dialect = w.replica.learner.dialect in
        let none = nothing_loaded dialect in
        let d : WorldAndLoading = record { loading = none; world = w } in
        let others : Items Phase Item = record { found = is; left = p } in
        let whole_others : Items Bool WholeItem =
        record { found = (grouped_items dialect none is).found; left = q } in
        let taken = take_item none w.replica (item.Packet k) in
        same_by _ (first item_step d others (item_step d (item.Packet k)))
        _ (first whole_item_step w whole_others (whole_item_step w (OnePacket k)))
        (arrive_first item_step d (item.Packet k) others) (arrive_first whole_item_step w (OnePacket k) whole_others)
        (taken_same none none w taken others whole_others
        (λ t e. (
          still_loaded none taken t (law.packets none w.replica k) e,
          others_do is (is_snap k) none w (item.Packet k) t e
              (λ owes. law.announced none w.replica k t (snap_kind k owes) e) order all rest,
        )))

    -- The end of the image: the image takes effect, and nothing is loaded.
    end_taken : (is : List Item) (l : Loading) (w : World) → awaits_image w.replica ≡ true
        → AreInOrder false is (is_owed p.phase) → AllDoTheSame is
        → DoTheSame w.replica.learner.dialect l w (item.Part part.End ∷ is)
    end_taken is l w waits order all rest =
        let dialect = w.replica.learner.dialect in
        let none = nothing_loaded dialect in
        let d : WorldAndLoading = record { loading = l; world = w } in
        let others : Items Phase Item = record { found = is; left = p } in
        let whole_others : Items Bool WholeItem =
        record { found = (grouped_items dialect none is).found; left = q } in
        let taken = take_whole w.replica (OneImage l.made.state) in
        let ends = law.ends l w.replica waits in
        same_by _ (first item_step d others (taken >>= λ t. Ok (step_with_loading t.loading (send_effect w t))))
        _ (first whole_item_step w whole_others (whole_item_step w (OneImage l.made.state)))
        (arrive_first item_step d (item.Part part.End) others
        ∙ ap (λ (r : Result ItemEffect Fault). first item_step d others
        (r >>= λ t. Ok (step_with_loading t.loading (send_effect w t))))
        ends)
        (arrive_first whole_item_step w (OneImage l.made.state) whole_others)
        (taken_same l none w taken others whole_others
        (λ t e. (
          law.unloads l w.replica t waits (ends ∙ e),
          others_do is false l w (item.Part part.End) t (ends ∙ e) (λ owes. absurd cc) order all rest,
        )))

    -- A part that isn't the last: the world stays, and the image goes on after what the part makes.
    part_taken : (k : ImagePart) (is : List Item) (l : Loading) (w : World) → awaits_image w.replica ≡ true
        → AreInOrder true is (is_owed p.phase) → AllDoTheSame is → (made : Result LoadedParts Fault)
        → take_item l w.replica (item.Part k)
        ≡ (made >>= (λ m. Ok (loading_of m)) >>= λ x. Ok (nothing_taken x w.replica)) →
        let dialect = w.replica.learner.dialect in
        let grouped =
        grouped_part dialect (made >>= λ m. Ok (loading_of m)) (λ next. grouped_items dialect next is) in
        SameRest dialect grouped.loaded p q
        → Same (by_part l w (record { found = item.Part k ∷ is; left = p }))
        (by_image w (record { found = grouped.found; left = q }))
    part_taken k is l w waits order all (Ok next) takes rest =
        let d : WorldAndLoading = record { loading = l; world = w } in
        let others : Items Phase Item = record { found = is; left = p } in
        same_by _ (by_part (loading_of next) w others) _ _
        (arrive_first item_step d (item.Part k) others
        ∙ ap (λ (r : Result ItemEffect Fault). first item_step d others
        (r >>= λ t. Ok (step_with_loading t.loading (send_effect w t))))
        takes)
        refl (all true (loading_of next) w (λ owes. waits) (λ none. absurd cc) order rest)
    part_taken k is l w waits order all (Err e) takes rest =
        let d : WorldAndLoading = record { loading = l; world = w } in
        let others : Items Phase Item = record { found = is; left = p } in
        same_by _ (first item_step d others (Err e)) _ _
        (arrive_first item_step d (item.Part k) others
        ∙ ap (λ (r : Result ItemEffect Fault). first item_step d others
        (r >>= λ t. Ok (step_with_loading t.loading (send_effect w t))))
        takes)
        refl
        (record {
          outputs = refl;
          world = refl;
          leader = subst (λ (u : Unread). LeadersAlike l (expected w.replica) (Err e) (place_or_fault q u))
              (sym rest)
              refl;
        })

    all_do : (is : List Item) → AllDoTheSame is
    all_do [] owed l w waits none order = none_do owed l w waits none order
    all_do (item.Packet k ∷ is) owed l w waits none order =
        subst (λ (m : Loading). DoTheSame w.replica.learner.dialect m w (item.Packet k ∷ is)) (sym (none order.0))
        (packet_taken k is w order.1 (all_do is))
    all_do (item.Part part.End ∷ is) owed l w waits none order =
        end_taken is l w (waits order.0) order.1 (all_do is)
    all_do (item.Part k ∷ is) owed l w waits none order =
        part_taken k is l w (waits order.0) order.1 (all_do is) (with_part l.made k)
        (law.inner l w.replica k (waits order.0) refl)

  -- ---- a piece

  -- Where a packet comes next, nothing is loaded.
  none_loaded : (dialect : Dialect) (l : Loading) (phase : Phase) (u v : List ℕ)
      → SameUnread dialect l phase (Ok u) (Ok v) → is_owed phase ≡ false → l ≡ nothing_loaded dialect
  none_loaded dialect l (Packets d) u v s e = s.0
  none_loaded dialect l (Image d phase) u v s e = absurd cc

  module _ (pieces : PiecesAreGrouped) (order : ItemsAreInOrder) where
    abbrev ArriveAlike : Loading → World → Place Phase → Place Bool → List ℕ → Type 0
    ArriveAlike l w place whole bytes =
        Same (by_part l w (items_shown_at (with_more_bytes place bytes)))
        (by_image w (items_in (whole_items w.replica.learner.dialect) (with_more_bytes whole bytes)))

    arrives_at : (l : Loading) (w : World) (bytes : List ℕ) (phase : Phase) (owed : Bool) (u v : Unread)
        → Alike l (expected w.replica) (record { phase = phase; unread = u }) (record { phase = owed; unread = v })
        → ArriveAlike l w (record { phase = phase; unread = u }) (record { phase = owed; unread = v }) bytes
    arrives_at l w bytes phase owed (Ok u) (Ok v) a =
        let place : Place Phase = record { phase = phase; unread = Ok u } in
        let whole : Place Bool = record { phase = owed; unread = Ok v } in
        let dialect = w.replica.learner.dialect in
        let shown = items_shown_at (with_more_bytes place bytes) in
        let left = (items_in (whole_items dialect) (with_more_bytes whole bytes)).left in
        let same = pieces dialect l place whole bytes a.same in
        subst (λ (found : List WholeItem).
        Same (by_part l w shown) (by_image w (record { found = found; left = left }))) same.found
        (all_do shown.left left shown.found (is_owed phase) l w (λ owes. a.awaited (a.same.1 ∙ owes))
        (none_loaded dialect l phase u v a.same.2) (order (with_more_bytes place bytes)) same.rest)
    arrives_at l w bytes phase owed (Err d) (Err e) a =
        record { outputs = refl; world = refl; leader = a.same.2 }
    arrives_at l w bytes phase owed (Ok u) (Err e) a = absurd a.same.2
    arrives_at l w bytes phase owed (Err d) (Ok v) a = absurd a.same.2

    pub arrives_same : (l : Loading) (place : Place Phase) (whole : Place Bool) (w : World) (bytes : List ℕ)
        → Alike l (expected w.replica) place whole → ArriveAlike l w place whole bytes
    arrives_same l place whole w bytes a =
        arrives_at l w bytes place.phase whole.phase place.unread whole.unread a
