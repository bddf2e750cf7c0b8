-- Groups as they are stored, and the effect of a step on them.
use Rattle.std.proofs.Common.{◌≡◌, ℕ, zero, suc, ◌+◌, ◌<◌, ◌≤◌, ◌==◌, ◌||◌, List, [], ◌∷◌, ◌++◌, Bool, true, false, true≢false, cond, Option, Some, None, map, length, get_or, set, take, drop, All, not, ◌&&◌, nat_lt, refl, sym, ap, ◌∙◌, subst, subst₂, arith, append_assoc, length-append}
use Rattle.std.specs.List.{list_any, range_with_len}
use Rattle.std.proofs.lemmas.Bool.{eq-eqb, eqb-true}
use Rattle.std.proofs.lemmas.Bool.Decides.{nat_tests}
use Rattle.std.proofs.lemmas.List.{append-nil, drop-set-lt, drop_all, take_all}
use Rattle.txn_codec.specs.declared.txn.Txn.{Txn}
use Rattle.data_tree.specs.State.{State}
use Rattle.data_tree.specs.Meaning.{answer_of}
use Rattle.data_tree.specs.Cells.{cells_at, effect_in_cells}
use Rattle.data_tree.specs.declared.outcome.Outcome.{Outcome}
use Rattle.data_tree.specs.Commuting.{GroupedTxn, batch_of}
use Rattle.batcher.specs.Class.{TxnGroup, empty_group}
use Rattle.batcher.specs.Cut.{groups_of, groups_if_tagged}
use Rattle.batcher.specs.Groups.{group_count, tagged_txns, txn_groups_of}
use Rattle.batcher.specs.Laws.{EachIsInAGroup}
use Rattle.apply_workers.specs.Places.{at_places}
use Rattle.apply_workers.specs.declared.holder.Holder.{Holder}
use Rattle.apply_workers.specs.declared.holder.Holder.TheVariants.{Held, Home}
use Rattle.apply_workers.specs.declared.step.Step.TheVariants.{Claim, Do, Give}
use Rattle.apply_workers.specs.Schedule.{GroupState, is_held_by, none_left, has_work, is_finished_by, opened_group, opened_groups, initial_progress_with, initial_progress, claimed_by, with_next_done, done_by, given_by, with_rest_done, Progress, can_be_taken, try_step}
use Rattle.apply_workers.specs.Underway.{BatchProgress, unstarted_batch}
use Rattle.apply_workers.specs.Hands.{GroupProgress, unclaimed_group, group_state_of, group_states_from, AreWithinGroups}
use Rattle.apply_workers.proofs.CameHome.{members_within}
use Rattle.apply_workers.proofs.Loops.{next_place, next_is}
use Rattle.apply_workers.proofs.Places.{txns_at_places}
use Rattle.apply_workers.proofs.Returning.{classes_from}

-- ---- at the start

all_untouched : (ts : List GroupedTxn) (s : State) (j m : ℕ)
    → group_states_from (batch_of ts) j (classes_from ts j m)
    (map unclaimed_group (map (λ (c : TxnGroup). cells_at c.paths s) (classes_from ts j m)))
    ≡ map (opened_group s ts) (range_with_len j m)
all_untouched ts s j zero = refl
all_untouched ts s j (suc m) = λ i.
    record (opened_group s ts j) { left = txns_at_places j ts i } ∷ all_untouched ts s (j + 1) m i

abbrev progress_of : List Txn → List TxnGroup → List GroupProgress → Progress
progress_of txns cs hands = record { next = 0; groups = group_states_from txns 0 cs hands }

-- Groups of which none is claimed.
abbrev pub opened_with : List Txn → List GroupProgress → BatchProgress
opened_with txns hands = record { batch = txns; progress = progress_of txns (groups_of txns) hands }

pub opened_shown : EachIsInAGroup → (s : State) (txns : List Txn) (hands : List GroupProgress)
    → hands ≡ map unclaimed_group (map (λ (c : TxnGroup). cells_at c.paths s) (groups_of txns))
    → opened_with txns hands ≡ unstarted_batch s txns
opened_shown each s txns hands are = λ i. record { batch = txns; progress = all i }
  where
    by : (o : Option (List GroupedTxn)) → tagged_txns txns ≡ o
        → progress_of txns (groups_if_tagged o)
        (map unclaimed_group (map (λ (c : TxnGroup). cells_at c.paths s) (groups_if_tagged o)))
        ≡ initial_progress_with s o
    by None e = refl
    by (Some ts) e = λ i. record {
      next = 0;
      groups = subst (λ b. group_states_from b 0 (txn_groups_of ts)
          (map unclaimed_group (map (λ (c : TxnGroup). cells_at c.paths s) (txn_groups_of ts)))
          ≡ opened_groups s ts) (each txns ts e).0 (all_untouched ts s 0 (group_count ts)) i;
    }

    all : progress_of txns (groups_of txns) hands ≡ initial_progress s txns
    all = ap (λ hs. progress_of txns (groups_of txns) hs) are ∙ by (tagged_txns txns) refl

pub held_untouched : (f : TxnGroup → State) (cs : List TxnGroup) → AreWithinGroups cs (map unclaimed_group (map f cs))
held_untouched f [] = tt
held_untouched f (c ∷ cs) = (omega arith, held_untouched f cs)

-- ---- one of the groups

any_default : {A : Type 0} (xs : List A) (i : ℕ) (d e : A) → i < length xs → get_or xs i d ≡ get_or xs i e
any_default [] i d e l = absurd (omega arith)
any_default (x ∷ xs) zero d e l = refl
any_default (x ∷ xs) (suc i) d e l = any_default xs i d e (omega arith)

pub held_length : (cs : List TxnGroup) (hs : List GroupProgress) → AreWithinGroups cs hs → length hs ≡ length cs
held_length [] [] held = refl
held_length [] (h ∷ hs) held = absurd held
held_length (c ∷ cs) [] held = absurd held
held_length (c ∷ cs) (h ∷ hs) held = omega (arith, held_length cs hs held.1)

pub held_at : (cs : List TxnGroup) (hs : List GroupProgress) (i : ℕ) (c : TxnGroup) (h : GroupProgress)
    → AreWithinGroups cs hs → i < length hs
    → length (get_or hs i h).outcomes ≤ length (get_or cs i c).members
held_at cs [] i c h held l = absurd (omega arith)
held_at [] (g ∷ hs) i c h held l = absurd held
held_at (d ∷ cs) (g ∷ hs) zero c h held l = held.0
held_at (d ∷ cs) (g ∷ hs) (suc i) c h held l = held_at cs hs i c h held.1 (omega arith)

pub held_set : (cs : List TxnGroup) (hs : List GroupProgress) (i : ℕ) (c : TxnGroup) (h : GroupProgress)
    → AreWithinGroups cs hs → i < length hs
    → length h.outcomes ≤ length (get_or cs i c).members → AreWithinGroups cs (set hs i h)
held_set cs [] i c h held l fits = absurd (omega arith)
held_set [] (g ∷ hs) i c h held l fits = absurd held
held_set (d ∷ cs) (g ∷ hs) zero c h held l fits = (fits, held.1)
held_set (d ∷ cs) (g ∷ hs) (suc i) c h held l fits = (held.0, held_set cs hs i c h held.1 (omega arith) fits)

pub shown_length : (txns : List Txn) (k : ℕ) (cs : List TxnGroup) (hs : List GroupProgress) → AreWithinGroups cs hs
    → length (group_states_from txns k cs hs) ≡ length hs
shown_length txns k [] [] held = refl
shown_length txns k [] (h ∷ hs) held = absurd held
shown_length txns k (c ∷ cs) [] held = absurd held
shown_length txns k (c ∷ cs) (h ∷ hs) held = omega (arith, shown_length txns (k + 1) cs hs held.1)

shown_at : (txns : List Txn) (k n i : ℕ) (cs : List TxnGroup) (hs : List GroupProgress) (c : TxnGroup)
    (h : GroupProgress) (g : GroupState)
    → AreWithinGroups cs hs → i < length hs → k + i ≡ n
    → get_or (group_states_from txns k cs hs) i g ≡ group_state_of txns n (get_or cs i c) (get_or hs i h)
shown_at txns k n i cs [] c h g held l e = absurd (omega arith)
shown_at txns k n i [] (x ∷ hs) c h g held l e = absurd held
shown_at txns k n zero (d ∷ cs) (x ∷ hs) c h g held l e = let same : k ≡ n = omega arith in
    ap (λ m. group_state_of txns m d x) same
shown_at txns k n (suc i) (d ∷ cs) (x ∷ hs) c h g held l e =
    shown_at txns (k + 1) n i cs hs c h g held.1 (omega arith) (omega arith)

shown_set : (txns : List Txn) (k n i : ℕ) (cs : List TxnGroup) (hs : List GroupProgress) (c : TxnGroup)
    (h : GroupProgress)
    → AreWithinGroups cs hs → i < length hs → k + i ≡ n
    → group_states_from txns k cs (set hs i h)
    ≡ set (group_states_from txns k cs hs) i (group_state_of txns n (get_or cs i c) h)
shown_set txns k n i cs [] c h held l e = absurd (omega arith)
shown_set txns k n i [] (x ∷ hs) c h held l e = absurd held
shown_set txns k n zero (d ∷ cs) (x ∷ hs) c h held l e = let same : k ≡ n = omega arith in
    ap (λ m. group_state_of txns m d h ∷ group_states_from txns (k + 1) cs hs) same
shown_set txns k n (suc i) (d ∷ cs) (x ∷ hs) c h held l e = λ j.
    group_state_of txns k d x ∷ shown_set txns (k + 1) n i cs hs c h held.1 (omega arith) (omega arith) j

-- One of the groups changed, and has no more outcomes than members.
pub still_held : (cs : List TxnGroup) (hs : List GroupProgress) (i : ℕ) (c : TxnGroup) (d new : GroupProgress)
    → AreWithinGroups cs hs
    → i < length hs → c ≡ get_or cs i c
    → (length (get_or hs i d).outcomes ≤ length c.members → length new.outcomes ≤ length c.members)
    → AreWithinGroups cs (set hs i new)
still_held cs hs i c d new held l is stays =
    held_set cs hs i c new held l
    (subst (λ (e : TxnGroup). length new.outcomes ≤ length e.members) is
    (stays (subst (λ (e : TxnGroup). length (get_or hs i d).outcomes ≤ length e.members) (sym is)
    (held_at cs hs i c d held l))))

-- A group's places are within its batch.
pub within_batch : (batch txns : List Txn) (cs : List TxnGroup) (i : ℕ) (c : TxnGroup) → txns ≡ batch
    → cs ≡ groups_of batch
    → c ≡ get_or cs i c → i < length cs → All (λ p. p < length txns) c.members
within_batch batch txns cs i c same are is l =
    subst₂ (λ (ts : List Txn) (d : TxnGroup). All (λ p. p < length ts) d.members) (sym same)
    (sym (is ∙ ap (λ ds. get_or ds i c) are))
    (members_within batch i c (subst (λ ds. i < length ds) are l))

-- ---- one more transaction

pub took_next : (txns : List Txn) (k worker : ℕ) (c : TxnGroup) (holder : Holder) (cells new : State)
    (outcomes more : List Outcome) (t : Txn) (o : Outcome) → is_held_by worker holder ≡ true
    → length outcomes < length c.members → All (λ p. p < length txns) c.members
    → t ≡ get_or txns (get_or c.members (length outcomes) 0) t → new ≡ (effect_in_cells cells t).state
    → o ≡ answer_of (effect_in_cells cells t) → more ≡ outcomes ++ o ∷ []
    → (true ≡ has_work worker (group_state_of txns k c
    (record { holder = holder; cells = cells; outcomes = outcomes })))
    × (group_state_of txns k c (record { holder = holder; cells = new; outcomes = more })
    ≡ done_by worker (group_state_of txns k c (record { holder = holder; cells = cells; outcomes = outcomes })))
took_next txns k worker c holder cells new outcomes more t o mine l within is left answered all = (
  sym work,
  (λ i. record before { cells = left i; left = at_places txns (drop (count i) c.members); outcomes = answers i })
      ∙ ap (λ ts. with_next_done before ts) (sym next)
      ∙ ap (λ b. cond b (with_next_done before before.left) before) (sym work),
)
  where
    before : GroupState
    before = group_state_of txns k c (record { holder = holder; cells = cells; outcomes = outcomes })

    rest : List Txn
    rest = at_places txns (drop (length outcomes + 1) c.members)

    next : before.left ≡ t ∷ rest
    next = next_place txns c.members (length outcomes) t l within is

    work : has_work worker before ≡ true
    work = ap (λ b. b && not (none_left before.left)) mine ∙ ap (λ ts. not (none_left ts)) next

    count : length more ≡ length outcomes + 1
    count = ap (λ os. length os) all ∙ length-append outcomes (o ∷ [])

    answers : more ≡ outcomes ++ answer_of (effect_in_cells cells t) ∷ []
    answers = all ∙ ap (λ x. outcomes ++ x ∷ []) answered

-- A group with transactions left can't be given back.
pub not_finished : (txns : List Txn) (k worker : ℕ) (c : TxnGroup) (h : GroupProgress)
    → length h.outcomes < length c.members
    → All (λ p. p < length txns) c.members → is_finished_by worker (group_state_of txns k c h) ≡ false
not_finished txns k worker c h l within =
    ap (λ ts. is_held_by worker h.holder && none_left ts)
    (next_place txns c.members (length h.outcomes) here l within is)
    ∙ never (is_held_by worker h.holder)
  where
    place : ℕ
    place = get_or c.members (length h.outcomes) 0

    some : (ts : List Txn) → place < length ts → Txn
    some [] n = absurd (omega arith)
    some (t ∷ ts) n = t

    here : Txn
    here = get_or txns place (some txns (within (length h.outcomes) 0 l))

    is : here ≡ get_or txns place here
    is = any_default txns place (some txns (within (length h.outcomes) 0 l)) here (within (length h.outcomes) 0 l)

    never : (b : Bool) → (b && false) ≡ false
    never true = refl
    never false = refl

-- ---- the same change for each group in turn

-- The groups before the place are changed, the others are as they were.
abbrev pub done_to : (GroupState → GroupState) → ℕ → List GroupState → List GroupState
done_to f i gs = take i gs ++ map f (drop i gs)

one_done : (f : GroupState → GroupState) (gs : List GroupState) (i : ℕ) (d : GroupState) → i < length gs
    → done_to f (suc i) (set gs i (f (get_or gs i d))) ≡ done_to f i gs
one_done f [] i d l = absurd (omega arith)
one_done f (g ∷ gs) zero d l = refl
one_done f (g ∷ gs) (suc i) d l = λ j. g ∷ one_done f gs i d (omega arith) j

any_from : (test : GroupState → Bool) (gs : List GroupState) (i : ℕ) (d : GroupState) → i < length gs
    → list_any test (drop i gs) ≡ (test (get_or gs i d) || list_any test (drop (suc i) gs))
any_from test [] i d l = absurd (omega arith)
any_from test (g ∷ gs) zero d l = refl
any_from test (g ∷ gs) (suc i) d l = any_from test gs i d (omega arith)

or_assoc : (a b c : Bool) → ((a || b) || c) ≡ (a || (b || c))
or_assoc true b c = refl
or_assoc false b c = refl

-- The invariant while the groups before the place are changed.
pub record DoneTo (txns : List Txn) (cs : List TxnGroup) (test : GroupState → Bool) (f : GroupState → GroupState)
    (first : List GroupProgress) (i : ℕ) (hs : List GroupProgress) (taken : Bool) : Type 0 where
  pub held : AreWithinGroups cs hs
  pub groups : done_to f i (group_states_from txns 0 cs hs) ≡ map f (group_states_from txns 0 cs first)
  pub taken_is : (taken || list_any test (drop i (group_states_from txns 0 cs hs)))
      ≡ list_any test (group_states_from txns 0 cs first)

pub done_begins : (txns : List Txn) (cs : List TxnGroup) (test : GroupState → Bool) (f : GroupState → GroupState)
    (first : List GroupProgress) → AreWithinGroups cs first → DoneTo txns cs test f first 0 first false
done_begins txns cs test f first held = record { held = held; groups = refl; taken_is = refl }

pub done_goes_on : (txns : List Txn) (cs : List TxnGroup) (test : GroupState → Bool) (f : GroupState → GroupState)
    (first hs : List GroupProgress) (i : ℕ) (taken b : Bool) (c : TxnGroup) (d new : GroupProgress)
    → DoneTo txns cs test f first i hs taken → i < length hs → c ≡ get_or cs i c
    → ((k : ℕ) → b ≡ test (group_state_of txns k c (get_or hs i d)))
    → ((k : ℕ) → group_state_of txns k c new ≡ f (group_state_of txns k c (get_or hs i d)))
    → (length (get_or hs i d).outcomes ≤ length c.members → length new.outcomes ≤ length c.members)
    → DoneTo txns cs test f first (i + 1) (set hs i new) (taken || b)
done_goes_on txns cs test f first hs i taken b c d new done l is passes changes stays =
    subst (λ n. DoneTo txns cs test f first n (set hs i new) (taken || b)) next (record {
      held = still_held cs hs i c d new done.held l is stays;
      groups =
          ap (λ gs. done_to f (suc i) gs) (after ∙ ap (λ g. set groups i g) made)
          ∙ one_done f groups i here inside
          ∙ done.groups;
      taken_is =
          ap (λ gs. (taken || b) || list_any test gs)
          (ap (λ gs. drop (suc i) gs) after ∙ drop-set-lt (suc i) groups i _ (omega arith))
          ∙ or_assoc taken b (list_any test (drop (suc i) groups))
          ∙ ap (λ t. taken || (t || list_any test (drop (suc i) groups))) (passes i ∙ ap test (sym at))
          ∙ ap (λ t. taken || t) (sym (any_from test groups i here inside))
          ∙ done.taken_is;
    })
  where
    groups : List GroupState
    groups = group_states_from txns 0 cs hs

    here : GroupState
    here = group_state_of txns i c (get_or hs i d)

    next : suc i ≡ i + 1
    next = omega arith

    inside : i < length groups
    inside = let count = shown_length txns 0 cs hs done.held in omega arith

    at : get_or groups i here ≡ here
    at = shown_at txns 0 i i cs hs c d here done.held l (omega arith)
        ∙ ap (λ e. group_state_of txns i e (get_or hs i d)) (sym is)

    after : group_states_from txns 0 cs (set hs i new) ≡ set groups i (group_state_of txns i (get_or cs i c) new)
    after = shown_set txns 0 i i cs hs c new done.held l (omega arith)

    made : group_state_of txns i (get_or cs i c) new ≡ f (get_or groups i here)
    made = ap (λ e. group_state_of txns i e new) (sym is) ∙ changes i ∙ ap f (sym at)

or_false : (b : Bool) → (b || false) ≡ b
or_false true = refl
or_false false = refl

-- All are changed.
pub record AllDone (txns : List Txn) (cs : List TxnGroup) (test : GroupState → Bool) (f : GroupState → GroupState)
    (first hs : List GroupProgress) (taken : Bool) : Type 0 where
  pub held : AreWithinGroups cs hs
  pub groups : group_states_from txns 0 cs hs ≡ map f (group_states_from txns 0 cs first)
  pub taken_is : taken ≡ list_any test (group_states_from txns 0 cs first)

pub done_ends : (txns : List Txn) (cs : List TxnGroup) (test : GroupState → Bool) (f : GroupState → GroupState)
    (first hs : List GroupProgress) (i : ℕ) (taken : Bool) → DoneTo txns cs test f first i hs taken → length hs ≤ i
    → AllDone txns cs test f first hs taken
done_ends txns cs test f first hs i taken done l = record {
  held = done.held;
  groups =
      sym (ap (λ gs. gs ++ map f (drop i groups)) (take_all i groups past)
      ∙ ap (λ gs. groups ++ map f gs) (drop_all i groups past)
      ∙ append-nil groups)
      ∙ done.groups;
  taken_is = sym (ap (λ gs. taken || list_any test gs) (drop_all i groups past) ∙ or_false taken) ∙ done.taken_is;
}
  where
    groups : List GroupState
    groups = group_states_from txns 0 cs hs

    past : length groups ≤ i
    past = let count = shown_length txns 0 cs hs done.held in omega arith

-- If no group passes the test, none changes.
pub nothing_changes : (test : GroupState → Bool) (f : GroupState → GroupState) (gs : List GroupState)
    → list_any test gs ≡ false → map (λ g. cond (test g) (f g) g) gs ≡ gs
nothing_changes test f [] e = refl
nothing_changes test f (g ∷ gs) e = by (test g) e (nothing_changes test f gs)
  where
    by : (b : Bool) → (b || list_any test gs) ≡ false
        → (list_any test gs ≡ false → map (λ g. cond (test g) (f g) g) gs ≡ gs)
        → cond b (f g) g ∷ map (λ g. cond (test g) (f g) g) gs ≡ g ∷ gs
    by true e rest = absurd (true≢false e)
    by false e rest = λ j. g ∷ rest e j

-- ---- a claim

pub any_held : (txns : List Txn) (k worker : ℕ) (cs : List TxnGroup) (hs : List GroupProgress) → AreWithinGroups cs hs
    → list_any (λ (h : GroupProgress). is_held_by worker h.holder) hs
    ≡ list_any (λ (g : GroupState). is_held_by worker g.holder) (group_states_from txns k cs hs)
any_held txns k worker [] [] held = refl
any_held txns k worker [] (h ∷ hs) held = absurd held
any_held txns k worker (c ∷ cs) [] held = absurd held
any_held txns k worker (c ∷ cs) (h ∷ hs) held =
    ap (λ b. is_held_by worker h.holder || b) (any_held txns (k + 1) worker cs hs held.1)

not_equal : (a b : ℕ) → a < b → (b == a) ≡ false
not_equal a b l = by (b == a) refl
  where
    by : (t : Bool) → (b == a) ≡ t → (b == a) ≡ false
    by false e = e
    by true e = let same = eqb-true b a e in absurd (omega arith)

not_equal_above : (a b : ℕ) → a < b → (a == b) ≡ false
not_equal_above a b l = by (a == b) refl
  where
    by : (t : Bool) → (a == b) ≡ t → (a == b) ≡ false
    by false e = e
    by true e = let same = eqb-true a b e in absurd (omega arith)

claims_none : (txns : List Txn) (worker next k : ℕ) (cs : List TxnGroup) (hs : List GroupProgress) → next < k
    → map (claimed_by worker next) (group_states_from txns k cs hs) ≡ group_states_from txns k cs hs
claims_none txns worker next k [] hs l = refl
claims_none txns worker next k (c ∷ cs) [] l = refl
claims_none txns worker next k (c ∷ cs) (h ∷ hs) l = λ j.
    cond (not_equal next k l j) (record (group_state_of txns k c h) { holder = Held worker })
    (group_state_of txns k c h)
    ∷ claims_none txns worker next (k + 1) cs hs (omega arith) j

pub claims_next : (txns : List Txn) (worker next k i : ℕ) (cs : List TxnGroup) (hs : List GroupProgress)
    (h : GroupProgress)
    → i < length hs → k + i ≡ next → h ≡ get_or hs i h
    → group_states_from txns k cs (set hs i (record h { holder = Held worker }))
    ≡ map (claimed_by worker next) (group_states_from txns k cs hs)
claims_next txns worker next k i cs [] h l e is = absurd (omega arith)
claims_next txns worker next k i [] (x ∷ hs) h l e is = refl
claims_next txns worker next k zero (c ∷ cs) (x ∷ hs) h l e is =
    let same : k ≡ next = omega arith in
    ap (λ x. group_state_of txns k c (record x { holder = Held worker }) ∷ group_states_from txns (k + 1) cs hs) is
    ∙ ap (λ gs. record (group_state_of txns k c x) { holder = Held worker } ∷ gs)
    (sym (claims_none txns worker next (k + 1) cs hs (omega arith)))
    ∙ ap (λ b. cond b (record (group_state_of txns k c x) { holder = Held worker }) (group_state_of txns k c x)
    ∷ map (claimed_by worker next) (group_states_from txns (k + 1) cs hs)) (sym (eq-eqb k next same))
claims_next txns worker next k (suc i) (c ∷ cs) (x ∷ hs) h l e is =
    (λ j. group_state_of txns k c x ∷ claims_next txns worker next (k + 1) i cs hs h (omega arith) (omega arith) is j)
    ∙ ap (λ b. cond b (record (group_state_of txns k c x) { holder = Held worker }) (group_state_of txns k c x)
    ∷ map (claimed_by worker next) (group_states_from txns (k + 1) cs hs)) (sym (not_equal_above k next (omega arith)))

-- The groups, with the number of the group that is claimed next.
abbrev pub progress_at : List Txn → ℕ → List TxnGroup → List GroupProgress → Progress
progress_at txns next cs hs = record { next = next; groups = group_states_from txns 0 cs hs }

-- A claim that is skipped.
pub passed_over : (p : Progress) (worker : ℕ) → can_be_taken p (Claim worker) ≡ false
    → (false ≡ can_be_taken p (Claim worker)) × (p ≡ try_step p (Claim worker))
passed_over p worker e =
    (sym e, ap (λ b. cond b (record { next = p.next + 1; groups = map (claimed_by worker p.next) p.groups }) p) (sym e))

and_false : (b : Bool) → (b && false) ≡ false
and_false true = refl
and_false false = refl

pub none_left_to_claim : (txns : List Txn) (next worker : ℕ) (cs : List TxnGroup) (hs : List GroupProgress)
    → AreWithinGroups cs hs
    → length hs ≤ next → can_be_taken (progress_at txns next cs hs) (Claim worker) ≡ false
none_left_to_claim txns next worker cs hs held l =
    let groups = group_states_from txns 0 cs hs in
    let count = shown_length txns 0 cs hs held in
    let past : nat_lt next (length groups) ≡ false = grind (arith, nat_tests) in
    ap (λ b. not (list_any (λ (g : GroupState). is_held_by worker g.holder) groups) && b) past
    ∙ and_false (not (list_any (λ (g : GroupState). is_held_by worker g.holder) groups))

pub has_one : (txns : List Txn) (next worker : ℕ) (cs : List TxnGroup) (hs : List GroupProgress) → AreWithinGroups cs hs
    → list_any (λ (h : GroupProgress). is_held_by worker h.holder) hs ≡ true
    → can_be_taken (progress_at txns next cs hs) (Claim worker) ≡ false
has_one txns next worker cs hs held e =
    ap (λ b. not b && nat_lt next (length (group_states_from txns 0 cs hs)))
    (sym (any_held txns 0 worker cs hs held) ∙ e)

-- A claim that is taken.
pub claim_is_taken : (txns : List Txn) (next worker : ℕ) (cs : List TxnGroup) (hs : List GroupProgress)
    (old new : GroupProgress)
    → AreWithinGroups cs hs → list_any (λ (h : GroupProgress). is_held_by worker h.holder) hs ≡ false → next < length hs
    → old ≡ get_or hs next old → new ≡ record old { holder = Held worker }
    → (true ≡ can_be_taken (progress_at txns next cs hs) (Claim worker))
    × (progress_at txns (next + 1) cs (set hs next new) ≡ try_step (progress_at txns next cs hs) (Claim worker))
claim_is_taken txns next worker cs hs old new held free l was is = (
  sym can,
  (λ i. record { next = next + 1; groups = groups i })
      ∙ ap (λ b. cond b (record {
        next = next + 1;
        groups =
            map (claimed_by worker next) (group_states_from txns 0 cs hs);
      })
      (progress_at txns next cs hs)) (sym can),
)
  where
    count : length (group_states_from txns 0 cs hs) ≡ length hs
    count = shown_length txns 0 cs hs held

    below : nat_lt next (length (group_states_from txns 0 cs hs)) ≡ true
    below = grind (arith, nat_tests, count, l)

    can : can_be_taken (progress_at txns next cs hs) (Claim worker) ≡ true
    can =
        ap (λ b. not b && nat_lt next (length (group_states_from txns 0 cs hs)))
        (sym (any_held txns 0 worker cs hs held) ∙ free)
        ∙ below

    groups : group_states_from txns 0 cs (set hs next new)
        ≡ map (claimed_by worker next) (group_states_from txns 0 cs hs)
    groups =
        ap (λ h. group_states_from txns 0 cs (set hs next h)) is
        ∙ claims_next txns worker next 0 next cs hs old l (omega arith) was

pub claimed_held : (cs : List TxnGroup) (hs : List GroupProgress) (i worker : ℕ) (old new : GroupProgress)
    → AreWithinGroups cs hs
    → i < length hs → old ≡ get_or hs i old → new ≡ record old { holder = Held worker }
    → AreWithinGroups cs (set hs i new)
claimed_held cs hs i worker old new held l was is =
    held_set cs hs i empty_group new held l
    (subst (λ (h : GroupProgress). length h.outcomes ≤ length (get_or cs i empty_group).members) (sym is)
    (subst (λ (h : GroupProgress). length h.outcomes ≤ length (get_or cs i empty_group).members) (sym was)
    (held_at cs hs i empty_group old held l)))

-- ---- the other steps

pub done_step : (p : Progress) (worker : ℕ)
    → record p { groups = map (done_by worker) p.groups } ≡ try_step p (Do worker)
done_step p worker = by (list_any (has_work worker) p.groups) refl
  where
    by : (b : Bool) → list_any (has_work worker) p.groups ≡ b
        → record p { groups = map (done_by worker) p.groups }
        ≡ cond b (record p { groups = map (done_by worker) p.groups }) p
    by true e = refl
    by false e =
        ap (λ (gs : List GroupState). record p { groups = gs })
        (nothing_changes (has_work worker) (λ g. with_next_done g g.left) p.groups e)

pub given_step : (p : Progress) (worker : ℕ)
    → record p { groups = map (given_by worker) p.groups } ≡ try_step p (Give worker)
given_step p worker = by (list_any (is_finished_by worker) p.groups) refl
  where
    by : (b : Bool) → list_any (is_finished_by worker) p.groups ≡ b
        → record p { groups = map (given_by worker) p.groups }
        ≡ cond b (record p { groups = map (given_by worker) p.groups }) p
    by true e = refl
    by false e =
        ap (λ (gs : List GroupState). record p { groups = gs })
        (nothing_changes (is_finished_by worker) (λ g. record g { holder = Home }) p.groups e)

-- ---- the rest is applied

shown_none : (txns : List Txn) (k : ℕ) (cs : List TxnGroup) → group_states_from txns k cs [] ≡ []
shown_none txns k [] = refl
shown_none txns k (c ∷ cs) = refl

abbrev pub cells_left : List GroupState → List State
cells_left groups = map (λ (g : GroupState). g.cells) (map with_rest_done groups)

abbrev pub all_answers : List GroupState → List (List Outcome)
all_answers groups = map (λ (g : GroupState). g.outcomes) (map with_rest_done groups)

-- The invariant while the first n groups are finished.
pub record FinishedTo (txns : List Txn) (cs : List TxnGroup) (first : List GroupProgress) (n : ℕ)
    (left : List GroupProgress)
    (cells : List State) (answers : List (List Outcome)) : Type 0 where
  pub held : AreWithinGroups (drop n cs) left
  pub cells_are : cells ++ cells_left (group_states_from txns n (drop n cs) left)
      ≡ cells_left (group_states_from txns 0 cs first)
  pub answers_are : answers ++ all_answers (group_states_from txns n (drop n cs) left)
      ≡ all_answers (group_states_from txns 0 cs first)

pub finish_begins : (txns : List Txn) (cs : List TxnGroup) (first : List GroupProgress) → AreWithinGroups cs first
    → FinishedTo txns cs first 0 first [] []
finish_begins txns cs first held = record { held = held; cells_are = refl; answers_are = refl }

-- A group that is left is one of them.
pub one_left : (n : ℕ) (cs : List TxnGroup) (left : List GroupProgress) (h : GroupProgress) (more : List GroupProgress)
    → AreWithinGroups (drop n cs) left → left ≡ h ∷ more → n < length cs
one_left n [] left h more held e = none n (subst (AreWithinGroups (drop n [])) e held)
  where
    none : (n : ℕ) → AreWithinGroups (drop n []) (h ∷ more) → n < 0
    none zero held = absurd held
    none (suc n) held = absurd held
one_left zero (c ∷ cs) left h more held e = omega arith
one_left (suc n) (c ∷ cs) left h more held e = omega (arith, one_left n cs left h more held e)

pub first_left : (n : ℕ) (cs : List TxnGroup) (c : TxnGroup) (left : List GroupProgress) (h : GroupProgress)
    (more : List GroupProgress)
    → AreWithinGroups (drop n cs) left → left ≡ h ∷ more → c ≡ get_or cs n c
    → AreWithinGroups (c ∷ drop (n + 1) cs) (h ∷ more)
first_left n cs c left h more held e is =
    subst₂ AreWithinGroups (next_is cs n c (one_left n cs left h more held e) is) e held

pub finish_goes_on : (txns : List Txn) (cs : List TxnGroup) (first left more : List GroupProgress) (n : ℕ)
    (c : TxnGroup) (h : GroupProgress)
    (cells cells' : List State) (answers answers' : List (List Outcome)) (x : State) (os : List Outcome)
    → FinishedTo txns cs first n left cells answers → left ≡ h ∷ more → c ≡ get_or cs n c
    → x ≡ (with_rest_done (group_state_of txns n c h)).cells
    → os ≡ (with_rest_done (group_state_of txns n c h)).outcomes
    → cells' ≡ cells ++ x ∷ [] → answers' ≡ answers ++ os ∷ []
    → FinishedTo txns cs first (n + 1) more cells' answers'
finish_goes_on txns cs first left more n c h cells cells' answers answers' x os done e is left_so answered put said =
    record {
      held = (first_left n cs c left h more done.held e is).1;
      cells_are =
          ap (λ ss. ss ++ cells_left rest) (put ∙ ap (λ y. cells ++ y ∷ []) left_so)
          ∙ append_assoc cells ((with_rest_done (group_state_of txns n c h)).cells ∷ []) (cells_left rest)
          ∙ ap (λ gs. cells ++ cells_left gs) (sym split)
          ∙ done.cells_are;
      answers_are =
          ap (λ ss. ss ++ all_answers rest) (said ∙ ap (λ y. answers ++ y ∷ []) answered)
          ∙ append_assoc answers ((with_rest_done (group_state_of txns n c h)).outcomes ∷ []) (all_answers rest)
          ∙ ap (λ gs. answers ++ all_answers gs) (sym split)
          ∙ done.answers_are;
    }
  where
    rest : List GroupState
    rest = group_states_from txns (n + 1) (drop (n + 1) cs) more

    split : group_states_from txns n (drop n cs) left ≡ group_state_of txns n c h ∷ rest
    split =
        ap (λ ds. group_states_from txns n ds left) (next_is cs n c (one_left n cs left h more done.held e) is)
        ∙ ap (λ hs. group_states_from txns n (c ∷ drop (n + 1) cs) hs) e

pub record AllFinished (txns : List Txn) (cs : List TxnGroup) (first : List GroupProgress) (cells : List State)
    (answers : List (List Outcome)) : Type 0 where
  pub cells_are : cells ≡ cells_left (group_states_from txns 0 cs first)
  pub answers_are : answers ≡ all_answers (group_states_from txns 0 cs first)

pub finish_ends : (txns : List Txn) (cs : List TxnGroup) (first left : List GroupProgress) (n : ℕ) (cells : List State)
    (answers : List (List Outcome)) → FinishedTo txns cs first n left cells answers → left ≡ []
    → AllFinished txns cs first cells answers
finish_ends txns cs first left n cells answers done e = record {
  cells_are = sym (ap (λ gs. cells ++ cells_left gs) none ∙ append-nil cells) ∙ done.cells_are;
  answers_are = sym (ap (λ gs. answers ++ all_answers gs) none ∙ append-nil answers) ∙ done.answers_are;
}
  where
    none : group_states_from txns n (drop n cs) left ≡ []
    none = ap (λ hs. group_states_from txns n (drop n cs) hs) e ∙ shown_none txns n (drop n cs)
