-- Transactions that are gathered and applied later as one list do what they do when each is taken at once.
use Rattle.std.proofs.Common.{◌≡◌, ℕ, ◌≤◌, ◌+◌, ◌-◌, Bool, true, List, [], ◌∷◌, ◌++◌, length, drop, false, Option, Some, None, Result, Ok, Err, refl, sym, ap, subst, ◌∙◌, append_assoc, length-append, arith}
use Rattle.std.specs.List.{slice_get}
use Rattle.std.proofs.lemmas.List.{append-nil, drop-append-le}
use mathlib.Core.Bool.{true≢false}
use Rattle.std.proofs.Math.Seq.{drop-length}
use Rattle.values.specs.declared.fault.Fault.{Fault}
use Rattle.values.specs.declared.fault.NoMemory.{NoMemory}
use Rattle.values.specs.declared.fault.ReadError.{ReadError}
use Rattle.values.specs.declared.fault.ReadError.TheVariants as errors
use Rattle.values.specs.Gains.{Gains, Puts}
use Rattle.values.proofs.Gaining.{gains_first}
use Rattle.jute.specs.Format.{◌>>=◌}
use Rattle.jute.specs.Stream.{Items, with_first}
use Rattle.data_tree.specs.declared.outcome.TxnResults.{TxnResults}
use Rattle.txn_codec.specs.declared.txn.Txn.{Txn}
use Rattle.data_tree.specs.State.{State}
use Rattle.data_tree.specs.Meaning.{effect_of_txn, answer_of, state_after, outcomes_of_txns}
use Rattle.data_tree.specs.declared.outcome.Outcome.{Outcome}
use Rattle.snapshot_codec.specs.Made.{Loading}
use Rattle.quorum_packet.specs.declared.item.Item.{Item}
use Rattle.quorum_packet.specs.declared.phase.Phase.{Phase}
use Rattle.learner_sync.specs.Learner.{Learner}
use Rattle.replica.specs.Replica.{Replica}
use Rattle.replica.specs.Taking.{ItemEffect, no_effect, last_txn, apply_to_tree, take_item}
use Rattle.replica.specs.declared.item_outcome.LeaderNews.{LeaderNews}
use Rattle.replica.specs.declared.item_outcome.LeaderNews.TheVariants as news
use Rattle.leader_answers.specs.declared.due.Due.{Due}
use Rattle.leader_answers.specs.declared.due.Due.TheVariants.{Nothing, Admission, Ending, Reply}
use Rattle.leader_answers.specs.Answering.{answer_due, is_due, lets_answer, give_answer, due_of, due_in_log, answer_txn, answer_optional_txn, answer_applied_txn}
use Rattle.replica.proofs.Following.{last-push}
use Rattle.replica.specs.Gathering.{optional_txn, IsGathered, Gathers}
use Rattle.watch_manager.specs.declared.event.Event.{Event}
use Rattle.watch_manager.specs.Watching.{WatchTables}
use Rattle.watch_manager.specs.Watches.{fire}
use Rattle.world.specs.declared.output.Output.{Output}
use Rattle.world.specs.World.{Clients, World}
use Rattle.world.specs.Steps.{StepResult, prepend_outputs, no_output, and_then}
use Rattle.world.specs.Clients.{notices_of}
use Rattle.world.specs.Results.{MeetsStep}
use Rattle.world.proofs.Steps.{SoFar, begins, same_left, steps, stops, stops_in_step, last_step, behind_behind, happening_on, then_meets}
use Rattle.observer_core.specs.Leader.{WorldAndLoading, StreamProgress, answer_news, step_with_loading, send_effect, item_step, take_items}
use Rattle.observer_core.specs.Gathering.{tell_outcome, tell_outcomes, apply_and_tell, apply_in_turn}
use Rattle.observer_core.specs.Inner.{ReceivesItem, take_items_after, answer_outcome, last_outcome, tell_and_answer, settle_and_answer, TakesNextItem}
use Rattle.observer_core.proofs.Delivering.{quietly, taken_first, refused_first}

-- ---- a list of transactions

-- The watchers of one outcome were told.
pub outcome_told : (r : Result (Unit {0}) NoMemory) (old new : List Output) (c : Clients) (outcome : Outcome)
    (events : List (ℕ × Event)) (left : WatchTables)
    → events ≡ (fire c.watches outcome.triggers).events → left ≡ (fire c.watches outcome.triggers).left
    → Puts r old (notices_of events) new
    → MeetsStep r old (tell_outcome c outcome) new (record c { watches = left })
outcome_told (Ok u) old new c outcome events left fired rest put =
    let all : new ≡ old ++ notices_of (fire c.watches outcome.triggers).events =
    put ∙ ap (λ (es : List (ℕ × Event)). old ++ notices_of es) fired in
    λ i. record { outputs = sym all i; after = record c { watches = sym rest i } }
outcome_told (Err e) old new c outcome events left fired rest gains =
    subst (λ (es : List (ℕ × Event)). Gains old (notices_of es) new) fired gains

-- All are applied, and then the watchers of all are told.
abbrev told_together : World → List Txn → State → StepResult Clients → StepResult World
told_together w txns tree told = record {
  outputs = told.outputs;
  after = record w { replica = record w.replica { tree = tree }; clients = told.after };
}

in_turn : (w : World) (txns : List Txn)
    → apply_in_turn w txns
    ≡ told_together w txns (state_after w.replica.tree txns)
    (tell_outcomes w.clients (outcomes_of_txns w.replica.tree txns))
in_turn w [] = refl
in_turn w (t ∷ txns) =
    let first = apply_and_tell w t in
    ap (prepend_outputs first.outputs) (in_turn first.after txns)

-- A list was applied, and its watchers were told.
pub settled : (r : Result (Unit {0}) NoMemory) (old new : List Output) (w : World) (txns : List Txn) (left : Replica)
    (outcomes : List Outcome) (clients : Clients)
    → left ≡ record w.replica { tree = state_after w.replica.tree txns }
    → outcomes ≡ outcomes_of_txns w.replica.tree txns
    → MeetsStep r old (tell_outcomes w.clients outcomes) new clients
    → MeetsStep r old (apply_in_turn w txns) new (record w { replica = left; clients = clients })
settled (Ok u) old new w txns left outcomes clients tree answers m =
    ap (prepend_outputs old) (in_turn w txns)
    ∙ ap (λ (os : List Outcome). prepend_outputs old
    (told_together w txns (state_after w.replica.tree txns) (tell_outcomes w.clients os))) (sym answers)
    ∙ ap (told_together w txns (state_after w.replica.tree txns)) m
    ∙ ap (λ (s : Replica). record { outputs = new; after = record w { replica = s; clients = clients } }) (sym tree)
settled (Err e) old new w txns left outcomes clients tree answers gains =
    subst (λ (h : StepResult World). Gains old h.outputs new) (sym (in_turn w txns))
    (subst (λ (os : List Outcome). Gains old (tell_outcomes w.clients os).outputs new) answers gains)

-- The watchers of all were told, and then the client of the last was answered.
abbrev with_told_clients : World → StepResult Clients → StepResult World
with_told_clients w told = record { outputs = told.outputs; after = record w { clients = told.after } }

pub told_answered : (r : Result (Unit {0}) NoMemory) (old mid new : List Output) (w : World) (place : ℕ)
    (outcomes : List Outcome) (clients : Clients) (last : Option Outcome) (after : World)
    → MeetsStep (Ok tt) old (tell_outcomes w.clients outcomes) mid clients → last ≡ last_outcome outcomes
    → MeetsStep r mid (answer_outcome place last (record w { clients = clients })) new after
    → MeetsStep r old (tell_and_answer w place outcomes) new after
told_answered r old mid new w place outcomes clients last after told is m =
    let left : World = record w { clients = clients } in
    then_meets r old mid new (with_told_clients w (tell_outcomes w.clients outcomes))
    (answer_outcome place (last_outcome outcomes)) left after (ap (with_told_clients w) told)
    (subst (λ (o : Option Outcome). MeetsStep r mid (answer_outcome place o left) new after) is m)

-- All were applied, their watchers were told, and the last was answered.
pub applied_answered : (r : Result (Unit {0}) NoMemory) (old new : List Output) (w : World) (place : ℕ)
    (txns : List Txn) (left : Replica) (outcomes : List Outcome) (after : World)
    → left ≡ record w.replica { tree = state_after w.replica.tree txns }
    → outcomes ≡ outcomes_of_txns w.replica.tree txns
    → MeetsStep r old (tell_and_answer (record w { replica = left }) place outcomes) new after
    → MeetsStep r old (settle_and_answer w place txns) new after
applied_answered r old new w place txns left outcomes after tree answers m =
    subst (λ (h : StepResult World). MeetsStep r old h new after)
    (sym (ap (λ (h : StepResult World). and_then h
    (answer_outcome place (last_outcome (outcomes_of_txns w.replica.tree txns)))) (in_turn w txns)
    ∙ (λ i. tell_and_answer (record w { replica = sym tree i }) place (sym answers i))))
    m

-- It leaves all but the tree and the clients, and doesn't ask what the learner knows.
keeps_replica : (txns : List Txn) (w : World)
    → (apply_in_turn w txns).after.replica
    ≡ record w.replica { tree = (apply_in_turn w txns).after.replica.tree }
keeps_replica [] w = refl
keeps_replica (t ∷ txns) w = keeps_replica txns (apply_and_tell w t).after

-- Of the clients it leaves all but the watches.
keeps_clients : (txns : List Txn) (w : World)
    → (apply_in_turn w txns).after.clients
    ≡ record w.clients { watches = (apply_in_turn w txns).after.clients.watches }
keeps_clients [] w = refl
keeps_clients (t ∷ txns) w = keeps_clients txns (apply_and_tell w t).after

-- Telling watchers leaves all of the clients but the watches.
told_keeps : (outcomes : List Outcome) (c : Clients)
    → (tell_outcomes c outcomes).after ≡ record c { watches = (tell_outcomes c outcomes).after.watches }
told_keeps [] c = refl
told_keeps (o ∷ outcomes) c = told_keeps outcomes (tell_outcome c o).after

-- What a transaction brings doesn't depend on the watches.
due_kept : (c : Clients) (watches : WatchTables) (gained : Option Txn)
    → due_of (record c { watches = watches }) gained ≡ due_of c gained
due_kept c watches None = refl
due_kept c watches (Some t) = refl

pub told_due : (old new : List Output) (c after : Clients) (outcomes : List Outcome) (gained : Option Txn)
    → MeetsStep (Ok tt) old (tell_outcomes c outcomes) new after → due_of after gained ≡ due_of c gained
told_due old new c after outcomes gained told =
    ap (λ (k : Clients). due_of k gained) (sym (ap (λ (h : StepResult Clients). h.after) told) ∙ told_keeps outcomes c)
    ∙ due_kept c (tell_outcomes c outcomes).after.watches gained

-- Whether the transaction that the log has gained, if it has gained one, answers a client.
abbrev gained_answers : Clients → Option Txn → Bool
gained_answers c gained = is_due (due_of c gained)

still_answers : (txns : List Txn) (w : World) (gained : Option Txn)
    → gained_answers (apply_in_turn w txns).after.clients gained ≡ gained_answers w.clients gained
still_answers txns w gained =
    ap (λ (c : Clients). gained_answers c gained) (keeps_clients txns w)
    ∙ ap is_due (due_kept w.clients (apply_in_turn w txns).after.clients.watches gained)

abbrev with_learner_in : World → Learner → World
with_learner_in w l = record w { replica = record w.replica { learner = l } }

abbrev moved : Learner → StepResult World → StepResult World
moved l h = record { outputs = h.outputs; after = with_learner_in h.after l }

moves : (l : Learner) (txns : List Txn) (w : World)
    → apply_in_turn (with_learner_in w l) txns ≡ moved l (apply_in_turn w txns)
moves l [] w = refl
moves l (t ∷ txns) w = ap (prepend_outputs (apply_and_tell w t).outputs) (moves l txns (apply_and_tell w t).after)

-- ---- the last transaction of a list

gained_at : (log : List Txn) (gained : Option Txn) → slice_get (log ++ optional_txn gained) (length log) ≡ gained
gained_at [] None = refl
gained_at [] (Some t) = refl
gained_at (u ∷ log) gained = gained_at log gained

outcomes_on : (s : State) (txns : List Txn) (t : Txn)
    → outcomes_of_txns s (txns ++ t ∷ [])
    ≡ outcomes_of_txns s txns ++ answer_of (effect_of_txn (state_after s txns) t) ∷ []
outcomes_on s [] t = refl
outcomes_on s (u ∷ txns) t =
    ap (λ (os : List Outcome). answer_of (effect_of_txn s u) ∷ os) (outcomes_on (effect_of_txn s u).state txns t)

-- The outcome of the last transaction, after the others were applied.
last_applied : (w : World) (txns : List Txn) (t : Txn)
    → last_outcome (outcomes_of_txns w.replica.tree (txns ++ t ∷ []))
    ≡ Some (answer_of (effect_of_txn (apply_in_turn w txns).after.replica.tree t))
last_applied w txns t =
    let s = w.replica.tree in
    ap last_outcome (outcomes_on s txns t)
    ∙ last-push (outcomes_of_txns s txns) (answer_of (effect_of_txn (state_after s txns) t))
    ∙ ap (λ (h : StepResult World). Some (answer_of (effect_of_txn h.after.replica.tree t))) (sym (in_turn w txns))

-- A transaction that concerns no client has no answer.
pub no_answer : (w : World) (t : Txn) (results : TxnResults) → lets_answer w.clients t ≡ false → answer_txn w t results ≡ no_output w
no_answer w t results none = by (answer_due w.clients t) none
  where
    by : (due : Due) → is_due due ≡ false → give_answer w t results due ≡ no_output w
    by Nothing e = refl
    by (Admission n) e = absurd (true≢false e)
    by (Ending n) e = absurd (true≢false e)
    by (Reply n write) e = absurd (true≢false e)

-- ---- what is owed for items

abbrev both : Loading → World → WorldAndLoading
both loading w = record { loading = loading; world = w }

-- The transactions that wait are applied, and then the items are taken.
abbrev owing : List Txn → Loading → World → Items Phase Item → StepResult (StreamProgress Phase WorldAndLoading)
owing pending loading w found =
    and_then (apply_in_turn w pending) (λ u. take_items item_step (both loading u) found)

-- With nothing pending the items are taken.
pub nothing_waits : (d : WorldAndLoading) (done : ℕ) (found : Items Phase Item)
    → done ≡ length d.world.replica.learner.log
    → take_items_after done d found ≡ take_items item_step d found
nothing_waits d done found is =
    ap (λ (txns : List Txn). owing txns d.loading d.world found)
    (ap (λ (n : ℕ). drop n d.world.replica.learner.log) is ∙ drop-length d.world.replica.learner.log)

-- ---- an item that is gathered

module _ (loading : Loading) (l : Learner) (i : Item) where
  abbrev Defers : Replica → Option Txn → Type 0
  Defers r gained = (tree : State) → take_item loading (record r { tree = tree }) i
      ≡ Ok (apply_to_tree (no_effect loading (record r { learner = l; tree = tree })) gained)

  -- The news of the item, once those that wait are applied.
  abbrev news_of : World → Option Txn → Option LeaderNews
  news_of u None = None
  news_of u (Some t) = Some (news.Applied (length l.log - 1) (answer_of (effect_of_txn u.replica.tree t)).results)

  abbrev applied_to : World → Option Txn → StepResult World
  applied_to u gained = apply_in_turn (with_learner_in u l) (optional_txn gained)

  -- What the item does then.
  abbrev taken_to : World → Option Txn → StepResult World
  taken_to u gained = and_then (applied_to u gained) (answer_news (news_of u gained))

  told_later : (u : World) (gained : Option Txn)
      → take_item loading u.replica i
      ≡ Ok (apply_to_tree (no_effect loading (record u.replica { learner = l })) gained)
      → item_step (both loading u) i ≡ Ok (step_with_loading loading (taken_to u gained))
  told_later u None e =
      ap (λ (r : Result ItemEffect Fault). r >>= λ t. Ok (step_with_loading t.loading (send_effect u t))) e
  told_later u (Some t) e =
      let h = apply_and_tell (with_learner_in u l) t in
      ap (λ (r : Result ItemEffect Fault). r >>= λ t. Ok (step_with_loading t.loading (send_effect u t))) e
      ∙ ap (λ (os : List Output). Ok (step_with_loading loading
      (and_then (record { outputs = os; after = h.after }) (answer_news (news_of u (Some t))))))
      (sym (append-nil h.outputs))

  taken_later : (w u : World) (gained : Option Txn) → u.replica ≡ record w.replica { tree = u.replica.tree }
      → Defers w.replica gained
      → take_item loading u.replica i
      ≡ Ok (apply_to_tree (no_effect loading (record u.replica { learner = l })) gained)
  taken_later w u gained same d =
      ap (λ (r : Replica). take_item loading r i) same
      ∙ d u.replica.tree
      ∙ ap (λ (r : Replica). Ok (apply_to_tree (no_effect loading (record r { learner = l })) gained)) (sym same)

  module _ (pending : List Txn) (w : World) (gained : Option Txn) (d : Defers w.replica gained) where
    abbrev owed_now : StepResult World
    owed_now = apply_in_turn w pending

    -- It is taken after those that wait.
    taken_after : (others : Items Phase Item)
        → owing pending loading w (with_first i others)
        ≡ and_then (and_then owed_now (λ u. taken_to u gained)) (λ v. take_items item_step (both loading v) others)
    taken_after others =
        let u = owed_now.after in
        let all = taken_to u gained in
        ap (prepend_outputs owed_now.outputs)
        (taken_first (both loading u) (with_first i others) i others (step_with_loading loading all) refl
        (told_later u gained (taken_later w u gained (keeps_replica pending w) d)))
        ∙ behind_behind owed_now.outputs all.outputs (take_items item_step (both loading all.after) others)

    -- All of the list are applied in turn.
    applied_on : and_then owed_now (λ u. applied_to u gained)
        ≡ apply_in_turn (with_learner_in w l) (pending ++ optional_txn gained)
    applied_on =
        ap (λ (h : StepResult World). and_then h (λ (v : World). apply_in_turn v (optional_txn gained)))
        (sym (moves l pending w))
        ∙ sym (happening_on (λ (v : World). false) apply_and_tell (with_learner_in w l) pending
        (optional_txn gained))

  -- A transaction that answers nobody is only applied.
  unanswered : (log : List Txn) (u : World) (gained : Option Txn) → l.log ≡ log ++ optional_txn gained
      → gained_answers u.clients gained ≡ false → taken_to u gained ≡ applied_to u gained
  unanswered log u None is none = refl
  unanswered log u (Some t) is none =
      let h = applied_to u (Some t) in
      let results = (answer_of (effect_of_txn u.replica.tree t)).results in
      ap (prepend_outputs h.outputs)
      (ap (answer_optional_txn h.after results) (ap last_txn is ∙ last-push log t) ∙ no_answer h.after t results none)
      ∙ ap (λ (os : List Output). record { outputs = os; after = h.after }) (append-nil h.outputs)

  -- It may be taken after those that wait, and wait with them.
  defers : (pending : List Txn) (w : World) (others : Items Phase Item) (gained : Option Txn)
      → Defers w.replica gained → l.log ≡ w.replica.learner.log ++ optional_txn gained
      → gained_answers w.clients gained ≡ false
      → owing pending loading w (with_first i others)
      ≡ owing (pending ++ optional_txn gained) loading (with_learner_in w l) others
  defers pending w others gained d log none =
      let owed = apply_in_turn w pending in
      let go : StepResult World → StepResult (StreamProgress Phase WorldAndLoading) =
      λ h. and_then h (λ (v : World). take_items item_step (both loading v) others) in
      taken_after pending w gained d others
      ∙ ap (λ (h : StepResult World). go (prepend_outputs owed.outputs h))
      (unanswered w.replica.learner.log owed.after gained log (still_answers pending w gained ∙ none))
      ∙ ap go (applied_on pending w gained d)

  -- Or it is applied with them, and answers its client.
  answers : (pending : List Txn) (w : World) (others : Items Phase Item) (t : Txn) → Defers w.replica (Some t)
      → owing pending loading w (with_first i others)
      ≡ and_then (settle_and_answer (with_learner_in w l) (length l.log - 1) (pending ++ t ∷ []))
      (λ v. take_items item_step (both loading v) others)
  answers pending w others t d =
      let owed = apply_in_turn w pending in
      let more = applied_to owed.after (Some t) in
      let go : StepResult World → StepResult (StreamProgress Phase WorldAndLoading) =
      λ h. and_then h (λ (v : World). take_items item_step (both loading v) others) in
      let outcome = answer_of (effect_of_txn owed.after.replica.tree t) in
      let place = length l.log - 1 in
      taken_after pending w (Some t) d others
      ∙ ap go (behind_behind owed.outputs more.outputs (answer_applied_txn more.after place outcome.results)
      ∙ ap (λ (h : StepResult World). and_then h (λ (v : World). answer_applied_txn v place outcome.results))
      (applied_on pending w (Some t) d)
      ∙ ap (λ (o : Option Outcome). and_then (apply_in_turn (with_learner_in w l) (pending ++ t ∷ []))
      (answer_outcome place o)) (sym (last_applied w pending t)))

-- What waits is in the log after the first `done`, and what it gains comes at this place.
module _ (loading : Loading) (w : World) (i : Item) (s : Replica) (done place : ℕ)
    (within : done ≤ length w.replica.learner.log) (at : place ≡ length w.replica.learner.log)
    (gathers : Gathers (Ok tt) i w.replica s) where
  abbrev g : IsGathered w.replica i s.learner
  g = gathers.0

  pub still_within : done ≤ length s.learner.log
  still_within =
      let more : length s.learner.log ≡ length w.replica.learner.log + length (optional_txn g.gained) =
      ap (λ (log : List Txn). length log) g.log ∙ length-append w.replica.learner.log (optional_txn g.gained) in
      omega (arith, more, within)

  -- The transaction that the log has gained.
  gained_is : slice_get s.learner.log place ≡ g.gained
  gained_is = (λ j. slice_get (g.log j) (at j)) ∙ gained_at w.replica.learner.log g.gained

  abbrev Answers : Bool → Type 0
  Answers b = is_due (due_in_log (record w { replica = s }) place) ≡ b

  waiting_now : (gained : Option Txn) → s.learner.log ≡ w.replica.learner.log ++ optional_txn gained
      → drop done s.learner.log ≡ drop done w.replica.learner.log ++ optional_txn gained
  waiting_now gained is =
      ap (drop done) is ∙ drop-append-le done w.replica.learner.log (optional_txn gained) within

  waits : Answers false → (others : Items Phase Item)
      → take_items_after done (both loading w) (with_first i others)
      ≡ take_items_after done (both loading (record w { replica = s })) others
  waits none others =
      let log = w.replica.learner.log in
      defers loading s.learner i (drop done log) w others g.gained (λ tree. g.taken loading tree) g.log
      (ap (gained_answers w.clients) (sym gained_is) ∙ none)
      ∙ ap (λ (txns : List Txn). owing txns loading (with_learner_in w s.learner) others)
      (sym (waiting_now g.gained g.log))
      ∙ ap (λ (r : Replica). owing (drop done s.learner.log) loading (record w { replica = r }) others)
      (sym gathers.1)

  pub gathered : Answers false → (old : List Output)
      → TakesNextItem (Ok tt) old done (both loading w) i old done (both loading (record w { replica = s }))
  gathered none old others = record { front = []; put = sym (append-nil old); leads = sym (waits none others) }

  -- The transaction answers a client, so that all are settled.
  abbrev settled_now : StepResult World
  settled_now = settle_and_answer (record w { replica = s }) place (drop done s.learner.log)

  settles : Answers true → (others : Items Phase Item)
      → take_items_after done (both loading w) (with_first i others)
      ≡ and_then settled_now (λ v. take_items item_step (both loading v) others)
  settles answers_it others =
      by g.gained (λ tree. g.taken loading tree) g.log (ap (gained_answers w.clients) (sym gained_is) ∙ answers_it)
    where
      by : (gained : Option Txn) → Defers loading s.learner i w.replica gained
          → s.learner.log ≡ w.replica.learner.log ++ optional_txn gained
          → gained_answers w.clients gained ≡ true
          → take_items_after done (both loading w) (with_first i others)
          ≡ and_then settled_now (λ v. take_items item_step (both loading v) others)
      by None d log none = absurd (true≢false (sym none))
      by (Some t) d log answers_it =
          let go : Replica → ℕ → List Txn → StepResult (StreamProgress Phase WorldAndLoading) =
          λ r place txns. and_then (settle_and_answer (record w { replica = r }) place txns)
          (λ (v : World). take_items item_step (both loading v) others) in
          let len : length s.learner.log ≡ length w.replica.learner.log + 1 =
          ap (λ (log : List Txn). length log) log ∙ length-append w.replica.learner.log (t ∷ []) in
          let last : length s.learner.log - 1 ≡ place = omega (arith, len, at) in
          answers loading s.learner i (drop done w.replica.learner.log) w others t d
          ∙ (λ j. go (sym gathers.1 j) (last j) (sym (waiting_now (Some t) log) j))

  pub answered : Answers true → (old new : List Output) (after : World) (done-after : ℕ)
      → done-after ≡ length after.replica.learner.log → MeetsStep (Ok tt) old settled_now new after
      → TakesNextItem (Ok tt) old done (both loading w) i new done-after (both loading after)
  answered answers_it old new after done-after all made others =
      let whole = take_items_after done (both loading w) (with_first i others) in
      let so_far = steps old whole old new whole settled_now (λ (v : World). take_items item_step (both loading v) others)
      after (settles answers_it others) made (begins old whole) in
      same_left old whole new (take_items item_step (both loading after) others)
      (take_items_after done-after (both loading after) others)
      (sym (nothing_waits (both loading after) done-after others all)) so_far

  -- An allocation was refused while they were settled.
  pub unanswered_stops : Answers true → (old new : List Output) (after : WorldAndLoading) (done-after : ℕ)
      → Gains old settled_now.outputs new
      → TakesNextItem (Err errors.NoMemory) old done (both loading w) i new done-after after
  unanswered_stops answers_it old new after done-after gains others =
      subst (λ (h : StepResult (StreamProgress Phase WorldAndLoading)). Gains old h.outputs new)
      (sym (settles answers_it others))
      (gains_first (take_items item_step (both loading settled_now.after) others).outputs gains)

-- ---- an item that can't be gathered

module _ (loading : Loading) (w : World) (i : Item) (s : Replica) (done : ℕ) (e : Fault)
    (gathers : Gathers (Err (errors.Fault e)) i w.replica s) where
  abbrev owed : StepResult World
  owed = apply_in_turn w (drop done w.replica.learner.log)

  refuses : item_step (both loading owed.after) i ≡ Err e
  refuses =
      ap (λ (r : Result ItemEffect Fault).
      r >>= λ t. Ok (step_with_loading t.loading (send_effect owed.after t)))
      (ap (λ (r : Replica). take_item loading r i) (keeps_replica (drop done w.replica.learner.log) w)
      ∙ gathers.0 loading owed.after.replica.tree)

  -- What was gathered before it is settled.
  pub refused_later : (old new : List Output) (after : World)
      → MeetsStep (Ok tt) old (apply_in_turn (record w { replica = s }) (drop done s.learner.log)) new after
      → TakesNextItem (Err (errors.Fault e)) old done (both loading w) i new done (both loading after)
  refused_later old new after m others =
      let here : World = record w { replica = s } in
      let same : here ≡ w = ap (λ (r : Replica). record w { replica = r }) gathers.1 in
      let made : prepend_outputs old owed ≡ record { outputs = new; after = after } =
      subst (λ (v : World). prepend_outputs old (apply_in_turn v (drop done v.replica.learner.log))
      ≡ record { outputs = new; after = after }) same m in
      behind_behind old owed.outputs (take_items item_step (both loading owed.after) (with_first i others))
      ∙ ap (prepend_outputs (old ++ owed.outputs))
      (refused_first (both loading owed.after) (with_first i others) i others e refl refuses)
      ∙ ap (λ (h : StepResult World). prepend_outputs h.outputs (quietly (both loading h.after) (Err e))) made
      ∙ ap (λ (o : List Output). record { outputs = o; after = record { left = both loading after; place = Err e } })
      (append-nil new)

-- ---- any other item

module _ (d : WorldAndLoading) (i : Item) (done : ℕ) (old mid : List Output) (u : World)
    (settles : MeetsStep (Ok tt) old (apply_in_turn d.world (drop done d.world.replica.learner.log)) mid u) where
  abbrev before : StepResult World
  before = apply_in_turn d.world (drop done d.world.replica.learner.log)

  abbrev here : WorldAndLoading
  here = both d.loading u

  abbrev whole : Items Phase Item → StepResult (StreamProgress Phase WorldAndLoading)
  whole others = take_items_after done d (with_first i others)

  -- What waited is settled; the item and the others are left.
  began : (others : Items Phase Item)
      → SoFar old (whole others) mid (take_items item_step here (with_first i others))
  began others =
      steps old (whole others) old mid (whole others) before
      (λ (v : World). take_items item_step (both d.loading v) (with_first i others)) u refl settles
      (begins old (whole others))

  -- It was taken.
  pub received_after : (new : List Output) (after : WorldAndLoading) (done-after : ℕ)
      → done-after ≡ length after.world.replica.learner.log
      → ReceivesItem (Ok tt) mid (item_step here i) here new after
      → TakesNextItem (Ok tt) old done d i new done-after after
  received_after new after done-after all received others = by (item_step here i) refl received
    where
      by : (m : Result (StepResult WorldAndLoading) Fault) → item_step here i ≡ m
          → ReceivesItem (Ok tt) mid m here new after
          → SoFar old (whole others) new (take_items_after done-after after others)
      by (Ok h) taken made =
          let s = steps old (whole others) mid new (take_items item_step here (with_first i others)) h
          (λ (v : WorldAndLoading). take_items item_step v others) after
          (taken_first here (with_first i others) i others h refl taken) made (began others) in
          record {
            front = s.front;
            put = s.put;
            leads = ap (prepend_outputs s.front) (nothing_waits after done-after others all) ∙ s.leads;
          }
      by (Err e) refused none = absurd none

  -- It was refused for a fault.
  pub rejected_after : (new : List Output) (after : WorldAndLoading) (done-after : ℕ) (e : Fault)
      → ReceivesItem (Err (errors.Fault e)) mid (item_step here i) here new after
      → TakesNextItem (Err (errors.Fault e)) old done d i new done-after after
  rejected_after new after done-after e received others =
      behind_behind old before.outputs (take_items item_step (both d.loading before.after) (with_first i others))
      ∙ ap (λ (h : StepResult World). prepend_outputs h.outputs
      (take_items item_step (both d.loading h.after) (with_first i others))) settles
      ∙ ap (prepend_outputs mid) (refused_first here (with_first i others) i others e refl received.0)
      ∙ ap (λ (o : List Output). record { outputs = o; after = record { left = here; place = Err e } }) (append-nil mid)
      ∙ (λ j. record { outputs = sym received.1.0 j; after = record { left = sym received.1.1 j; place = Err e } })

  -- An allocation was refused.
  pub stops_after : (new : List Output) (after : WorldAndLoading) (done-after : ℕ)
      → ReceivesItem (Err errors.NoMemory) mid (item_step here i) here new after
      → TakesNextItem (Err errors.NoMemory) old done d i new done-after after
  stops_after new after done-after received others = by (item_step here i) refl received
    where
      by : (m : Result (StepResult WorldAndLoading) Fault) → item_step here i ≡ m
          → ReceivesItem (Err errors.NoMemory) mid m here new after
          → Gains old (whole others).outputs new
      by (Ok h) taken gains =
          stops_in_step old (whole others) mid new (take_items item_step here (with_first i others)) h
          (λ (v : WorldAndLoading). take_items item_step v others)
          (taken_first here (with_first i others) i others h refl taken) gains (began others)
      by (Err e) refused same =
          let s = began others in
          record {
            front = s.front;
            rest = (take_items item_step here (with_first i others)).outputs;
            gained = same ∙ s.put;
            of = sym (ap (λ (h : StepResult (StreamProgress Phase WorldAndLoading)). h.outputs) s.leads);
          }

  -- It was refused for a fault, or an allocation was.
  pub failed_after : (new : List Output) (after : WorldAndLoading) (done-after : ℕ) (e : ReadError)
      → ReceivesItem (Err e) mid (item_step here i) here new after
      → TakesNextItem (Err e) old done d i new done-after after
  failed_after new after done-after (errors.Fault e) received = rejected_after new after done-after e received
  failed_after new after done-after errors.NoMemory received = stops_after new after done-after received

-- ---- the loop over the items

-- What a step of the loop leads on to.
pub goes_on : {S : Type 0} (old : List Output) (whole : StepResult S) (now new : List Output) (left next : StepResult S)
    → SoFar now left new next → SoFar old whole now left → SoFar old whole new next
goes_on old whole now new left next t s = record {
  front = s.front ++ t.front;
  put = t.put ∙ ap (λ (o : List Output). o ++ t.front) s.put ∙ append_assoc old s.front t.front;
  leads = sym (behind_behind s.front t.front next) ∙ ap (prepend_outputs s.front) t.leads ∙ s.leads;
}

module _ (old now : List Output) (whole : StepResult (StreamProgress Phase WorldAndLoading)) (done : ℕ)
    (d : WorldAndLoading) (found : Items Phase Item) (s : SoFar old whole now (take_items_after done d found)) where
  abbrev waiting : StepResult World
  waiting = apply_in_turn d.world (drop done d.world.replica.learner.log)

  -- An allocation was refused while it was settled.
  pub unsettled_at_end : (new : List Output) → Gains now waiting.outputs new → Gains old whole.outputs new
  unsettled_at_end new gains =
      stops_in_step old whole now new (take_items_after done d found) waiting
      (λ (w : World). take_items item_step (both d.loading w) found) refl gains s

  -- An item was refused after what waited was settled.
  pub refused_at_end : (p : Item) (others : Items Phase Item) (new : List Output) (after : WorldAndLoading) (e : Fault)
      → found ≡ with_first p others
      → MeetsStep (Ok tt) now (take_items_after done d (with_first p others)) new
      (record { left = after; place = Err e })
      → prepend_outputs old whole ≡ record { outputs = new; after = record { left = after; place = Err e } }
  refused_at_end p others new after e is made =
      last_step old whole now new (take_items_after done d found) (record { left = after; place = Err e })
      (ap (λ (f : Items Phase Item). prepend_outputs now (take_items_after done d f)) is ∙ made) s

  -- An allocation was refused while an item was taken.
  pub stopped_at_item : (p : Item) (others : Items Phase Item) (new : List Output)
      → found ≡ with_first p others
      → Gains now (take_items_after done d (with_first p others)).outputs new
      → Gains old whole.outputs new
  stopped_at_item p others new is gains =
      stops old whole now new (take_items_after done d found)
      (subst (λ (f : Items Phase Item). Gains now (take_items_after done d f).outputs new) (sym is) gains) s

  -- An item was taken.
  pub item_taken : (p : Item) (others : Items Phase Item) (new : List Output) (done-after : ℕ) (after : WorldAndLoading)
      → found ≡ with_first p others
      → SoFar now (take_items_after done d (with_first p others)) new (take_items_after done-after after others)
      → SoFar old whole new (take_items_after done-after after others)
  item_taken p others new done-after after is leads =
      goes_on old whole now new (take_items_after done d found) (take_items_after done-after after others)
      (subst (λ (f : Items Phase Item). SoFar now (take_items_after done d f) new
      (take_items_after done-after after others)) (sym is) leads) s
