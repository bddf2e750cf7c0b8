-- Taking an item: its acts in order, and what a refused item leaves.
use Rattle.std.proofs.Common.{◌≡◌, List, [], ◌∷◌, ◌++◌, Option, Some, None, Result, Ok, Err, false, refl, sym, ap, subst, ◌∙◌, length, ◌-◌, ◌⊎◌, inl, inr}
use Rattle.std.specs.Prelude.{IfOk}
use Rattle.std.specs.List.{AllByRecursion, flat_map}
use Rattle.values.specs.declared.fault.Fault.{Fault}
use Rattle.values.specs.declared.fault.ReadError.{ReadError}
use Rattle.values.specs.declared.fault.ReadError.TheVariants as errors
use Rattle.jute.specs.Format.{◌>>=◌}
use Rattle.txn_codec.specs.declared.txn.Txn.{Txn}
use Rattle.data_tree.specs.State.{State}
use Rattle.data_tree.specs.Meaning.{effect_of_txn, answer_of}
use Rattle.data_tree.specs.declared.outcome.Outcome.{Outcome}
use Rattle.data_tree.specs.declared.outcome.Trigger.{Trigger}
use Rattle.snapshot_codec.specs.Made.{Loading, with_loaded}
use Rattle.snapshot_codec.specs.declared.part.ImagePart.{ImagePart}
use Rattle.quorum_packet.specs.Feed.{CanBeWritten}
use Rattle.quorum_packet.specs.Packet.{packet_format}
use Rattle.quorum_packet.specs.declared.item.Item.{Item}
use Rattle.quorum_packet.specs.declared.packet.QuorumPacket.{QuorumPacket}
use Rattle.learner_sync.specs.Learner.{Learner}
use Rattle.learner_sync.specs.Learn.{LearnerStep, learn_item}
use Rattle.learner_sync.specs.Laws.{is_only_act, AccountsForLog, CanBeDone, ActsAccountForLog}
use Rattle.learner_sync.specs.declared.act.Act.{Act}
use Rattle.learner_sync.specs.declared.act.Act.TheVariants as act
use Rattle.replica.specs.Replica.{Replica}
use Rattle.replica.specs.declared.item_outcome.LeaderNews.{LeaderNews}
use Rattle.replica.specs.declared.item_outcome.LeaderNews.TheVariants as news
use Rattle.replica.specs.Taking.{ItemEffect, no_effect, last_txn, with_outcome, apply_to_tree, with_nothing_loaded, with_image_state, rebuild_tree, carry_out, carry_out_all, with_learner, take_item, packets_of_act, TakesItem, IsAnswerable}
use Rattle.replica.specs.Inner.{with_told, is_part_load, IsPartAlone}
use Rattle.replica.specs.declared.item_outcome.ItemOutcome.{ItemOutcome}

-- ---- a part is the only act of its item

-- Where a part is the first act that is left, no act was done before it.
abbrev pub Kept : List Act → Loading → Replica → Loading → Replica → Type 0
Kept (act.LoadPart p ∷ acts) loading r first-loading first = (loading ≡ first-loading) × (r ≡ first)
Kept acts loading r first-loading first = Unit {0}

pub kept-first : (acts : List Act) (loading : Loading) (r : Replica) → Kept acts loading r loading r
kept-first [] loading r = tt
kept-first (act.LoadPart p ∷ acts) loading r = (refl, refl)
kept-first (a ∷ acts) loading r = tt

abbrev IsOther : Act → Type 0
IsOther a = is_part_load a ≡ false

others-alone : (acts : List Act) → AllByRecursion IsOther acts → IsPartAlone acts
others-alone [] h = tt
others-alone (act.LoadPart p ∷ acts) h = cc (h.0)
others-alone (a ∷ acts) h = h

others-kept : (acts : List Act) (loading : Loading) (r : Replica) (first-loading : Loading) (first : Replica)
    → AllByRecursion IsOther acts → Kept acts loading r first-loading first
others-kept [] loading r first-loading first h = tt
others-kept (act.LoadPart p ∷ acts) loading r first-loading first h = cc (h.0)
others-kept (a ∷ acts) loading r first-loading first h = tt

-- No part comes after the first act.
rest-others : (a : Act) (acts : List Act) → IsPartAlone (a ∷ acts) → AllByRecursion IsOther acts
rest-others (act.LoadPart p) acts h = subst (AllByRecursion IsOther) (sym h) tt
rest-others a acts h = h.1

pub alone-rest : (acts : List Act) (a : Act) (rest : List Act) → acts ≡ a ∷ rest → IsPartAlone acts
    → IsPartAlone rest
alone-rest acts a rest e h = others-alone rest (rest-others a rest (subst IsPartAlone e h))

pub kept-rest : (acts : List Act) (a : Act) (rest : List Act) → acts ≡ a ∷ rest → IsPartAlone acts
    → (loading : Loading) (r : Replica) (first-loading : Loading) (first : Replica)
    → Kept rest loading r first-loading first
kept-rest acts a rest e h loading r first-loading first =
    others-kept rest loading r first-loading first (rest-others a rest (subst IsPartAlone e h))

-- ---- one act after another

-- One more act was carried out.
pub carried-on : (t u : ItemEffect) (acts : List Act) (a : Act) (rest : List Act) (whole : Result ItemEffect Fault)
    → acts ≡ a ∷ rest → carry_out_all t acts ≡ whole → carry_out t a ≡ Ok u → carry_out_all u rest ≡ whole
carried-on t u acts a rest whole is e one =
    sym (ap (λ (x : Result ItemEffect Fault). x >>= λ u. carry_out_all u rest) one)
    ∙ sym (ap (carry_out_all t) is) ∙ e

pub carried-none : (t : ItemEffect) (acts : List Act) (whole : Result ItemEffect Fault) → acts ≡ []
    → carry_out_all t acts ≡ whole → whole ≡ Ok t
carried-none t acts whole is e = sym e ∙ ap (carry_out_all t) is

-- Only a part is refused.
only-a-part : (a : Act) (t : ItemEffect) (rest : List Act) (first-loading : Loading) (first : Replica) (e : Fault)
    → Kept (a ∷ rest) t.loading t.replica first-loading first → carry_out t a ≡ Err e
    → (t.loading ≡ first-loading) × (t.replica ≡ first)
only-a-part (act.LoadPart p) t rest first-loading first e k refused = k
only-a-part a t rest first-loading first e k refused = cc

-- An act was refused: so is the item, and nothing changed.
pub carried-refused : (t u : ItemEffect) (acts : List Act) (a : Act) (rest : List Act) (whole : Result ItemEffect Fault)
    (first-loading : Loading) (first : Replica) (e : Fault) → acts ≡ a ∷ rest → carry_out_all t acts ≡ whole
    → Kept acts t.loading t.replica first-loading first → carry_out t a ≡ Err e → u ≡ t
    → (whole ≡ Err e) × (u.loading ≡ first-loading) × (u.replica ≡ first)
carried-refused t u acts a rest whole first-loading first e is done kept refused same =
    let k = only-a-part a t rest first-loading first e
    (subst (λ (acts : List Act). Kept acts t.loading t.replica first-loading first) is kept) refused in (
      sym done ∙ ap (carry_out_all t) is
          ∙ ap (λ (x : Result ItemEffect Fault). x >>= λ u. carry_out_all u rest) refused,
      ap (λ (x : ItemEffect). x.loading) same ∙ k.0,
      ap (λ (x : ItemEffect). x.replica) same ∙ k.1,
    )

-- ---- the log's last transaction

pub applied-told : (t : ItemEffect) (o : Option Txn) (triggers : List Trigger) (told : Option LeaderNews) (r : Replica)
    → apply_to_tree (with_told t.triggers t.news t.replica) o ≡ with_told triggers told r
    → apply_to_tree t o ≡ record t { triggers = triggers; news = told; replica = r }
applied-told t None triggers told r e =
    ap (λ (u : ItemEffect). record t { triggers = u.triggers; news = u.news; replica = u.replica }) e
applied-told t (Some txn) triggers told r e =
    ap (λ (u : ItemEffect). record t { triggers = u.triggers; news = u.news; replica = u.replica }) e

-- It was applied to the tree.
pub applied-last : (r : Replica) (triggers : List Trigger) (told : Option LeaderNews) (log : List Txn) (t : Txn)
    (tree : State) (outcome : Outcome) → log ≡ r.learner.log → Some t ≡ last_txn log → tree ≡ (effect_of_txn r.tree t).state
    → outcome ≡ answer_of (effect_of_txn r.tree t)
    → apply_to_tree (with_told triggers told r) (last_txn r.learner.log)
    ≡ with_told outcome.triggers (Some (news.Applied (length log - 1) outcome.results)) (record r { tree = tree })
applied-last r triggers told log t tree outcome is last state answer =
    ap (λ (log : List Txn). apply_to_tree (with_told triggers told r) (last_txn log)) (sym is)
    ∙ ap (apply_to_tree (with_told triggers told r)) (sym last)
    ∙ ap (with_outcome (with_told triggers told r) (answer_of (effect_of_txn r.tree t))) (sym state)
    ∙ ap (λ (o : Outcome). with_outcome (with_told triggers told r) o tree) (sym answer)
    ∙ (λ i. with_told outcome.triggers (Some (news.Applied (length (sym is i) - 1) outcome.results))
    (record r { tree = tree }))

-- ---- a part that is learnt is the only act of its item

other-of : (a : Act) → is_only_act a ≡ false → IsOther a
other-of (act.LoadPart p) h = cc
other-of a h = refl

others-of : (acts : List Act) → AllByRecursion (λ a. is_only_act a ≡ false) acts → AllByRecursion IsOther acts
others-of [] h = tt
others-of (a ∷ acts) h = (other-of a h.0, others-of acts h.1)

-- A part is the only act, and leaves the learner.
abbrev OnlyAPart : List Act → Learner → Learner → Type 0
OnlyAPart acts l after = (p : ImagePart) × (acts ≡ act.LoadPart p ∷ []) × (after ≡ l)

told-apart : (acts : List Act) (l after : Learner) → AccountsForLog acts l after
    → OnlyAPart acts l after ⊎ AllByRecursion IsOther acts
told-apart [] l after tell = inr tt
told-apart (act.LoadPart p ∷ acts) l after tell = inl (p, ap (λ (xs : List Act). act.LoadPart p ∷ xs) tell.0, tell.1)
told-apart (act.Apply ∷ []) l after tell = inr (refl, tt)
told-apart (act.Truncate zxid ∷ []) l after tell = inr (refl, tt)
told-apart (act.LoadImage ∷ []) l after tell = inr (refl, tt)
told-apart (act.Apply ∷ a ∷ acts) l after tell = inr (others-of (act.Apply ∷ a ∷ acts) tell.2)
told-apart (act.Truncate zxid ∷ a ∷ acts) l after tell = inr (others-of (act.Truncate zxid ∷ a ∷ acts) tell.2)
told-apart (act.LoadImage ∷ a ∷ acts) l after tell = inr (others-of (act.LoadImage ∷ a ∷ acts) tell.2)
told-apart (act.Send p ∷ acts) l after tell = inr (others-of (act.Send p ∷ acts) tell.2)
told-apart (act.AnswerPing p ∷ acts) l after tell = inr (others-of (act.AnswerPing p ∷ acts) tell.2)
told-apart (act.Revalidated session is_valid ∷ acts) l after tell =
    inr (others-of (act.Revalidated session is_valid ∷ acts) tell.2)
told-apart (act.SettleSync ∷ acts) l after tell = inr (others-of (act.SettleSync ∷ acts) tell.2)
told-apart (act.DropImage ∷ acts) l after tell = inr (others-of (act.DropImage ∷ acts) tell.2)
told-apart (act.Epochs ∷ acts) l after tell = inr (others-of (act.Epochs ∷ acts) tell.2)
told-apart (act.ServeFrom ∷ acts) l after tell = inr (others-of (act.ServeFrom ∷ acts) tell.2)

tells-alone : (acts : List Act) (l after : Learner) → AccountsForLog acts l after → IsPartAlone acts
tells-alone acts l after tell = by (told-apart acts l after tell)
  where
    by : OnlyAPart acts l after ⊎ AllByRecursion IsOther acts → IsPartAlone acts
    by (inl only) = subst IsPartAlone (sym only.1) refl
    by (inr others) = others-alone acts others

-- ---- a refused item leaves the learner

never-refused : (t : ItemEffect) (acts : List Act) (e : Fault) → AllByRecursion IsOther acts
    → carry_out_all t acts ≡ Err e → ⊥
never-refused t [] e h refused = cc
never-refused t (act.LoadPart p ∷ acts) e h refused = cc (h.0)
never-refused t (act.Send p ∷ acts) e h refused =
    never-refused (record t { replies = t.replies ++ p ∷ [] }) acts e h.1 refused
never-refused t (act.AnswerPing p ∷ acts) e h refused =
    never-refused (record t { news = Some (news.Ping p) }) acts e h.1 refused
never-refused t (act.SettleSync ∷ acts) e h refused =
    never-refused (record t { news = Some news.SyncSettled }) acts e h.1 refused
never-refused t (act.Revalidated session is_valid ∷ acts) e h refused =
    never-refused (record t { news = Some (news.Revalidated session is_valid) }) acts e h.1 refused
never-refused t (act.Apply ∷ acts) e h refused =
    never-refused (apply_to_tree t (last_txn t.replica.learner.log)) acts e h.1 refused
never-refused t (act.LoadImage ∷ acts) e h refused =
    never-refused (with_image_state t t.loading.made.state) acts e h.1 refused
never-refused t (act.DropImage ∷ acts) e h refused =
    never-refused (with_nothing_loaded t) acts e h.1 refused
never-refused t (act.Truncate zxid ∷ acts) e h refused = never-refused (rebuild_tree t) acts e h.1 refused
never-refused t (act.Epochs ∷ acts) e h refused = never-refused t acts e h.1 refused
never-refused t (act.ServeFrom ∷ acts) e h refused = never-refused t acts e h.1 refused

refused-stays : (acts : List Act) (l after : Learner) (t : ItemEffect) (e : Fault) → AccountsForLog acts l after
    → carry_out_all t acts ≡ Err e → after ≡ l
refused-stays acts l after t e tell refused = by (told-apart acts l after tell)
  where
    by : OnlyAPart acts l after ⊎ AllByRecursion IsOther acts → after ≡ l
    by (inl only) = only.2
    by (inr others) = absurd (never-refused t acts e others refused)

-- ---- an item

module _ (tells : ActsAccountForLog) (loading : Loading) (r : Replica) (i : Item) (acts : List Act) (learnt : Replica)
    (is : learn_item r.learner i ≡ Ok (record { acts = acts; after = learnt.learner }))
    (same : learnt ≡ record r { learner = learnt.learner }) where
  abbrev x : LearnerStep
  x = record { acts = acts; after = learnt.learner }

  pub item-alone : IsPartAlone acts
  item-alone = tells-alone acts r.learner learnt.learner (tells.tells r.learner i x is)

  -- What was learnt is carried out.
  carried-out : take_item loading r i ≡ carry_out_all (no_effect loading learnt) acts
  carried-out =
      ap (λ (y : Result LearnerStep Fault). y >>= λ x. carry_out_all (no_effect loading (with_learner r x)) x.acts) is
      ∙ ap (λ (s : Replica). carry_out_all (no_effect loading s) acts) (sym same)

  pub item-taken : (result : Result ItemOutcome ReadError) (loading-after : Loading) (r-after : Replica)
      → TakesItem result (carry_out_all (no_effect loading learnt) acts) loading learnt loading-after r-after
      → TakesItem result (take_item loading r i) loading r loading-after r-after
  item-taken (Ok brought) loading-after r-after t = carried-out ∙ t
  item-taken (Err (errors.Fault e)) loading-after r-after t =
      let stays : learnt.learner ≡ r.learner =
      refused-stays acts r.learner learnt.learner (no_effect loading learnt) e (tells.tells r.learner i x is) t.0 in
      (carried-out ∙ t.0, t.1, t.2 ∙ same ∙ ap (λ (l : Learner). record r { learner = l }) stays)
  item-taken (Err errors.NoMemory) loading-after r-after t = tt

-- ---- what is sent can be written

abbrev pub AreWritable : List QuorumPacket → Type 0
AreWritable replies = AllByRecursion packet_format.Writable replies

all-push : (ps : List QuorumPacket) (p : QuorumPacket) → AreWritable ps → packet_format.Writable p
    → AreWritable (ps ++ p ∷ [])
all-push [] p h w = (w, tt)
all-push (q ∷ ps) p h w = (h.0, all-push ps p h.1 w)

-- The replies can be written, and so can the answer to a PING.
abbrev CanBeSent : ItemEffect → Type 0
CanBeSent t = AreWritable t.replies × IsAnswerable t.news

abbrev Written : Result ItemEffect Fault → Type 0
Written (Ok t) = CanBeSent t
Written (Err e) = Unit {0}

acts-written : (t : ItemEffect) (acts : List Act) → AllByRecursion CanBeDone acts → CanBeSent t
    → Written (carry_out_all t acts)
acts-written t [] h w = w
acts-written t (act.Send p ∷ acts) h w =
    acts-written (record t { replies = t.replies ++ p ∷ [] }) acts h.1 (all-push t.replies p w.0 h.0, w.1)
acts-written t (act.AnswerPing p ∷ acts) h w =
    acts-written (record t { news = Some (news.Ping p) }) acts h.1 (w.0, h.0)
acts-written t (act.SettleSync ∷ acts) h w =
    acts-written (record t { news = Some news.SyncSettled }) acts h.1 (w.0, tt)
acts-written t (act.Revalidated session is_valid ∷ acts) h w =
    acts-written (record t { news = Some (news.Revalidated session is_valid) }) acts h.1 (w.0, tt)
acts-written t (act.Apply ∷ acts) h w =
    by (last_txn t.replica.learner.log) (λ u sent. acts-written u acts h.1 (sent w))
  where
    by : (o : Option Txn) → ((u : ItemEffect) → (CanBeSent t → CanBeSent u) → Written (carry_out_all u acts))
        → Written (carry_out_all (apply_to_tree t o) acts)
    by None others = others t (λ sent. sent)
    by (Some txn) others = others (apply_to_tree t (Some txn)) (λ sent. (sent.0, tt))
acts-written t (act.LoadPart p ∷ acts) h w =
    by (with_loaded t.loading p) (λ loaded. acts-written (record t { loading = loaded }) acts h.1 w)
  where
    by : (x : Result Loading Fault)
        → ((loaded : Loading) → Written (carry_out_all (record t { loading = loaded }) acts))
        → Written ((x >>= λ loaded. Ok (record t { loading = loaded })) >>= λ u. carry_out_all u acts)
    by (Ok loaded) others = others loaded
    by (Err e) others = tt
acts-written t (act.LoadImage ∷ acts) h w = acts-written (with_image_state t t.loading.made.state) acts h.1 w
acts-written t (act.DropImage ∷ acts) h w = acts-written (with_nothing_loaded t) acts h.1 w
acts-written t (act.Truncate zxid ∷ acts) h w = acts-written (rebuild_tree t) acts h.1 w
acts-written t (act.Epochs ∷ acts) h w = acts-written t acts h.1 w
acts-written t (act.ServeFrom ∷ acts) h w = acts-written t acts h.1 w

take-written : (tells : ActsAccountForLog) (loading : Loading) (r : Replica) (i : Item) → CanBeWritten i
    → Written (take_item loading r i)
take-written tells loading r i w = by (learn_item r.learner i) refl
  where
    by : (x : Result LearnerStep Fault) → learn_item r.learner i ≡ x
        → Written (x >>= λ x. carry_out_all (no_effect loading (with_learner r x)) x.acts)
    by (Ok x) e =
        acts-written (no_effect loading (with_learner r x)) x.acts (tells.sends r.learner i x e w) (tt, tt)
    by (Err fault) e = tt

module _ (tells : ActsAccountForLog) (loading : Loading) (r : Replica) (i : Item)
    (result : Result ItemOutcome ReadError) (loading-after : Loading) (r-after : Replica)
    (taken : TakesItem result (take_item loading r i) loading r loading-after r-after) (w : CanBeWritten i) where
  pub replies-written : IfOk result (λ b. AreWritable b.replies)
  replies-written = by result taken
    where
      by : (result : Result ItemOutcome ReadError)
          → TakesItem result (take_item loading r i) loading r loading-after r-after
          → IfOk result (λ b. AreWritable b.replies)
      by (Ok b) t = (subst Written t (take-written tells loading r i w)).0
      by (Err e) t = tt

  pub news-answerable : IfOk result (λ b. IsAnswerable b.news)
  news-answerable = by result taken
    where
      by : (result : Result ItemOutcome ReadError)
          → TakesItem result (take_item loading r i) loading r loading-after r-after
          → IfOk result (λ b. IsAnswerable b.news)
      by (Ok b) t = (subst Written t (take-written tells loading r i w)).1
      by (Err e) t = tt

-- ---- the packet that introduces the replica

pub sent-written : (acts : List Act) → AllByRecursion CanBeDone acts → AreWritable (flat_map packets_of_act acts)
sent-written [] h = tt
sent-written (act.Send p ∷ acts) h = (h.0, sent-written acts h.1)
sent-written (a ∷ acts) h = sent-written acts h.1
