-- The steps of a turn, one after the other.
use Rattle.std.proofs.Common.{◌≡◌, ◌≢◌, ◌≤◌, ◌<◌, ◌+◌, ◌-◌, ℕ, zero, suc, true, false, Bool, List, [], ◌∷◌, ◌++◌, length, take, drop, get_or, Option, Some, None, Result, Ok, Err, refl, ap, sym, ◌∙◌, subst, inl, inr, append_assoc, arith}
use Rattle.std.specs.Prelude.{Contains, IsSome, OnOk, if◌then◌else◌}
use Rattle.std.specs.List.Sorted.{IsPermutation, IsStrictlyIncreasing}
use Rattle.std.specs.FinMap as finmap
use Rattle.std.proofs.lemmas.List.{append-nil, length-append, drop_at, take_all, take_more}
use Rattle.std.proofs.lemmas.List.Elements.{Contains-append_left, Contains-append_right, Contains-append_cases}
use Rattle.std.proofs.lemmas.List.Sorted.{Contains-permutation}
use Rattle.std.proofs.lemmas.Bool.Decides.{eqb_tells}
use Rattle.world.specs.declared.output.Output.{Output}
use Rattle.world.specs.Steps.{StepResult}
use Rattle.observer_core.specs.Machine.{Machine}
use Rattle.observer_core.specs.Play.{play}
use Rattle.observer_core.specs.Plays.{PlaysEvents}
use Rattle.observer_core.specs.declared.engine.Stop.TheVariants as stops
use Rattle.intake.specs.Messages.{PortMessage, events_of, part_of_port, share_of_port, LeaderComesFirst, ComeByNumber}
use Rattle.intake.specs.Links.{Links, taken_at, waiting_at, room_at, seen_at, owed_at, TakesSeen, PutsShares, KeepOnlyIfFull}
use Rattle.intake.specs.Desk.{Desk, IsRemembered, ForgetsNone, KeepsPorts, TakesTurn, AnswersTurn}
use Rattle.intake.specs.Steps.{BeginsTurn, AreOfPorts, FeedsPort, ServesPorts}
use Rattle.intake.specs.Agreement.{outputs_of}
use Rattle.intake.proofs.Parts.{part_joined, part_own, part_others, share_joined, leader_alone, leader_before}
use Rattle.intake.proofs.Keeping.{rests_same, all_stay_on, still_open, same_room, room_for_seen}
use Rattle.intake.proofs.Agreeing.{joined}
use Rattle.intake.proofs.Numbering.{adds_on, adds_nothing, adds_none, adds_fed, adds_first, come_by_number}

contains_one : (k n : ℕ) → Contains (k ∷ []) n → n ≡ k
contains_one k n (zero, within, is) = sym is
contains_one k n (suc i, within, is) = absurd (let e : suc i < 1 = within in omega (arith, e))

-- ---- a port is fed

pub engine_is : (closed : Bool) (engine : Option Machine) (m : Machine) → (if closed then None else engine) ≡ Some m
    → engine ≡ Some m
engine_is true engine m is = cc
engine_is false engine m is = is

-- The messages after those that came before.
pub rest_after : (all before rest : List PortMessage) (n : ℕ) → all ≡ before ++ rest → n ≡ length before
    → take (length all - n) (drop n all) ≡ rest
rest_after all before rest n is at =
    let dropped : drop n all ≡ rest = ap (drop n) is ∙ drop_at before rest n (sym at) in
    let long : length all ≡ length before + length rest = ap length is ∙ length-append before rest in
    ap (take (length all - n)) dropped ∙ take_all (length all - n) rest (omega arith)

pub plays_seen : (closed : Bool) (engine after : Option Machine) (messages seen : List PortMessage)
    (before outputs : List Output) (m : Machine) → PlaysEvents (Ok tt) engine (events_of messages) before outputs after
    → messages ≡ seen → before ≡ [] → (if closed then None else engine) ≡ Some m
    → (outputs ≡ (play m (events_of seen)).outputs) × (after ≡ Some (play m (events_of seen)).after)
plays_seen closed engine after messages seen before outputs m plays same none is =
    let P : Option Machine → Type 0 = λ e. PlaysEvents (Ok tt) e (events_of messages) before outputs after in
    let p = subst P (engine_is closed engine m is) plays in (
      p.0 ∙ ap (λ l. l ++ (play m (events_of messages)).outputs) none
          ∙ ap (λ (l : List PortMessage). (play m (events_of l)).outputs) same,
      p.1 ∙ ap (λ (l : List PortMessage). Some (play m (events_of l)).after) same,
    )

pub fed : (n : ℕ) (old new : Desk) (links : Links) (outputs : List Output)
    → TakesSeen n old.links old.fresh links new.fresh → PutsShares links outputs new.links
    → ((m : Machine) → old.machine ≡ Some m → (outputs ≡ (play m (events_of (seen_at old.links n))).outputs)
    × (new.machine ≡ Some (play m (events_of (seen_at old.links n))).after))
    → new.next ≡ old.next → new.later ≡ old.later → FeedsPort n old new
fed n old new links outputs takes puts plays next later = record {
  fresh = takes.list;
  machine = λ m is. (plays m is).1;
  took = λ k. puts.took k ∙ takes.took k;
  owes = λ m is k live.
      puts.owes k (still_open (finmap.get old.links k) (finmap.get links k) (takes.stay.at k) live)
      ∙ ap (λ l. l ++ share_of_port k outputs) (takes.owes k)
      ∙ ap (λ o. owed_at old.links k ++ share_of_port k o) (plays m is).0;
  none_waits = puts.waits n ∙ takes.none_waits;
  others_wait = λ k apart. puts.waits k ∙ takes.others_wait k apart;
  stay = all_stay_on old.links links new.links takes.stay puts.stay;
  full = λ full. puts.full (takes.full full);
  next = next;
  later = later;
}

forgets_none_fed : (n : ℕ) (old new : Desk) → FeedsPort n old new → ForgetsNone old new
forgets_none_fed n old new f k _ r = elim (eqb_tells k n) [
  | inl h ↦ inl (ap (λ j. waiting_at new.links j) h.1 ∙ f.none_waits)
  | inr h ↦ elim r [
    | inl none ↦ inl (f.others_wait k h.1 ∙ none)
    | inr there ↦ inr (let P : List ℕ → Type 0 = λ l. Contains l k in subst P (sym f.later) there)
  ]
]

-- The messages taken in a turn, and those that wait, are no more than a port has room for.
abbrev HasRoomFor : ℕ → Desk → Type 0
HasRoomFor n d = length (part_of_port n d.fresh) + length (waiting_at d.links n) ≤ room_at d.links n

room_fed : (k : ℕ) (old new : Desk) → FeedsPort k old new → (n : ℕ) → HasRoomFor n old → HasRoomFor n new
room_fed k old new f n fits =
    let seen = seen_at old.links k in
    let room : room_at new.links n ≡ room_at old.links n =
    same_room (finmap.get old.links n) (finmap.get new.links n) (f.stay.at n) in
    let part : part_of_port n new.fresh ≡ part_of_port n old.fresh ++ part_of_port n seen =
    ap (part_of_port n) f.fresh ∙ part_joined n old.fresh seen in
    let both : length (part_of_port n new.fresh) ≡ length (part_of_port n old.fresh) + length (part_of_port n seen) =
    ap length part ∙ length-append (part_of_port n old.fresh) (part_of_port n seen) in
    elim (eqb_tells n k) [
      | inl h ↦
          let own : length (part_of_port n seen) ≡ length (waiting_at old.links n) =
          ap length (ap (λ j. part_of_port n (seen_at old.links j)) (sym h.1) ∙ part_own n (waiting_at old.links n)) in
          let none : length (waiting_at new.links n) ≡ 0 =
          ap length (ap (waiting_at new.links) h.1 ∙ f.none_waits) in
          omega arith
      | inr h ↦
          let none : length (part_of_port n seen) ≡ 0 = ap length (part_others n k (waiting_at old.links k) h.1) in
          let same : length (waiting_at new.links n) ≡ length (waiting_at old.links n) =
          ap length (f.others_wait n h.1) in
          omega arith
    ]

room_at_first : (d : Desk) → d.fresh ≡ [] → (n : ℕ) → HasRoomFor n d
room_at_first d none n =
    let fits = room_for_seen d.links n in
    let part : length (part_of_port n d.fresh) ≡ 0 = ap (λ (l : List PortMessage). length (part_of_port n l)) none in
    omega arith

-- ---- the leader's port

pub turn_of_none : (m : Machine) (d : Desk) → d.machine ≡ Some m → d.fresh ≡ [] → KeepOnlyIfFull d.links
    → waiting_at d.links 0 ≡ [] → TakesTurn m d d
turn_of_none m d machine fresh full whole = record {
  full = full;
  machine = machine ∙ ap (λ (l : List PortMessage). Some (play m (events_of l)).after) (sym fresh);
  took = λ n. sym (append-nil (taken_at d.links n)) ∙ ap (λ l. taken_at d.links n ++ part_of_port n l) (sym fresh);
  owes = λ n live. sym (append-nil (owed_at d.links n))
      ∙ ap (λ (l : List PortMessage). owed_at d.links n ++ share_of_port n (play m (events_of l)).outputs) (sym fresh);
  stay = (rests_same d.links).stay;
  next = refl;
  in_room = room_at_first d fresh;
  leader_first = (let P : List PortMessage → Type 0 = λ l. LeaderComesFirst l in subst P (sym fresh) refl);
  leader_whole = whole;
  forgets_none = λ n apart r. r;
}

pub turn_of_leader : (m : Machine) (old new : Desk) → old.machine ≡ Some m → old.fresh ≡ [] → KeepOnlyIfFull old.links
    → FeedsPort 0 old new → TakesTurn m old new
turn_of_leader m old new machine fresh full f =
    let is : new.fresh ≡ seen_at old.links 0 = f.fresh ∙ ap (λ l. l ++ seen_at old.links 0) fresh in
    record {
      machine = f.machine m machine
          ∙ ap (λ (l : List PortMessage). Some (play m (events_of l)).after) (sym is);
      took = λ n. f.took n ∙ ap (λ l. taken_at old.links n ++ part_of_port n l) (sym is);
      owes = λ n live. f.owes m machine n live
          ∙ ap (λ (l : List PortMessage). owed_at old.links n ++ share_of_port n (play m (events_of l)).outputs)
          (sym is);
      stay = f.stay;
      full = f.full full;
      next = f.next;
      in_room = λ n. room_fed 0 old new f n (room_at_first old fresh n);
      leader_first = (let P : List PortMessage → Type 0 = λ l. LeaderComesFirst l in
          subst P (sym is) (leader_alone (waiting_at old.links 0)));
      leader_whole = f.none_waits;
      forgets_none = forgets_none_fed 0 old new f;
    }

pub own_of_leader : (old new : Desk) → old.fresh ≡ [] → FeedsPort 0 old new → AreOfPorts (0 ∷ []) new.fresh
own_of_leader old new none f = adds_first (0 ∷ []) old.fresh new.fresh none (adds_fed 0 old new f)

-- ---- a client's port

pub serves_none : (d : Desk) → ServesPorts [] d d
serves_none d = record {
  adds = adds_nothing d.fresh;
  goes_on = λ m first t. t;
  served = λ n apart h. absurd (let e : h.0 < 0 = h.1 in omega (arith, e));
  forgets_none = λ n apart r. r;
}

pub serves_idle : (k : ℕ) (d : Desk) → (k ≢ 0 → waiting_at d.links k ≡ []) → ServesPorts (k ∷ []) d d
serves_idle k d none = record {
  adds = adds_none k d.fresh;
  goes_on = λ m first t. t;
  served = λ n apart h.
      let is = contains_one k n h in
      inl (ap (λ j. waiting_at d.links j) is ∙ none (λ zero. apart (is ∙ zero)));
  forgets_none = λ n apart r. r;
}

left_too : (k : ℕ) (d : Desk) → ForgetsNone d (record d { later = d.later ++ k ∷ [] })
left_too k d n apart r = elim r [
  | inl none ↦ inl none
  | inr there ↦ inr (Contains-append_left d.later (k ∷ []) n there)
]

pub serves_left : (k : ℕ) (d new : Desk) → new ≡ record d { later = d.later ++ k ∷ [] } → ServesPorts (k ∷ []) d new
serves_left k d new is =
    let P : Desk → Type 0 = λ x. ServesPorts (k ∷ []) d x in
    subst P (sym is) (record {
      adds = adds_none k d.fresh;
      goes_on = λ m first t. record {
        machine = t.machine;
        took = t.took;
        owes = t.owes;
        stay = t.stay;
        next = t.next;
        in_room = t.in_room;
        full = t.full;
        leader_first = t.leader_first;
        leader_whole = t.leader_whole;
        forgets_none = λ n apart r. left_too k d n apart (t.forgets_none n apart r);
      };
      served = λ n apart h. inr (Contains-append_right d.later (k ∷ []) n h);
      forgets_none = left_too k d;
    })

pub left_ok : {E : Type 0} (r : Result (Unit {0}) E) (k : ℕ) (d old new : Desk) → d ≡ old
    → OnOk r (new ≡ record d { later = d.later ++ k ∷ [] }) → OnOk r (ServesPorts (k ∷ []) old new)
left_ok (Ok u) k d old new same is =
    let P : Desk → Type 0 = λ x. ServesPorts (k ∷ []) x new in subst P same (serves_left k d new is)
left_ok (Err e) k d old new same is = tt

turn_goes_on : (k : ℕ) (m : Machine) (first old new : Desk) → k ≢ 0 → FeedsPort k old new → TakesTurn m first old
    → TakesTurn m first new
turn_goes_on k m first old new apart f t =
    let seen = seen_at old.links k in
    let outs : List PortMessage → List Output = λ l. (play m (events_of l)).outputs in
    let next : Machine = (play m (events_of old.fresh)).after in
    record {
      machine = f.machine next t.machine
          ∙ ap (λ (h : StepResult Machine). Some h.after) (sym (joined m old.fresh seen))
          ∙ ap (λ (l : List PortMessage). Some (play m (events_of l)).after) (sym f.fresh);
      took = λ n. f.took n ∙ ap (λ l. l ++ part_of_port n seen) (t.took n)
          ∙ append_assoc (taken_at first.links n) (part_of_port n old.fresh) (part_of_port n seen)
          ∙ ap (λ l. taken_at first.links n ++ l) (sym (part_joined n old.fresh seen))
          ∙ ap (λ l. taken_at first.links n ++ part_of_port n l) (sym f.fresh);
      owes = λ n live.
          f.owes next t.machine n
          (still_open (finmap.get first.links n) (finmap.get old.links n) (t.stay.at n) live)
          ∙ ap (λ l. l ++ share_of_port n (play next (events_of seen)).outputs) (t.owes n live)
          ∙ append_assoc (owed_at first.links n) (share_of_port n (outs old.fresh))
          (share_of_port n (play next (events_of seen)).outputs)
          ∙ ap (λ l. owed_at first.links n ++ l)
          (sym (share_joined n (outs old.fresh) (play next (events_of seen)).outputs)
          ∙ ap (λ (h : StepResult Machine). share_of_port n h.outputs) (sym (joined m old.fresh seen)))
          ∙ ap (λ (l : List PortMessage). owed_at first.links n ++ share_of_port n (outs l)) (sym f.fresh);
      stay = all_stay_on first.links old.links new.links t.stay f.stay;
      next = f.next ∙ t.next;
      full = f.full t.full;
      in_room = λ n. room_fed k old new f n (t.in_room n);
      leader_first = (let P : List PortMessage → Type 0 = λ l. LeaderComesFirst l in
          subst P (sym f.fresh) (leader_before old.fresh k (waiting_at old.links k) apart t.leader_first));
      leader_whole = f.others_wait 0 (λ e. apart (sym e)) ∙ t.leader_whole;
      forgets_none = λ n client r. forgets_none_fed k old new f n client (t.forgets_none n client r);
    }

pub serves_fed : (k : ℕ) (old new : Desk) → k ≢ 0 → FeedsPort k old new → ServesPorts (k ∷ []) old new
serves_fed k old new apart f = record {
  adds = adds_fed k old new f;
  goes_on = λ m first t. turn_goes_on k m first old new apart f t;
  served = λ n _ h. inl (ap (λ j. waiting_at new.links j) (contains_one k n h) ∙ f.none_waits);
  forgets_none = forgets_none_fed k old new f;
}

-- ---- one port after the other

serves_on : (xs ys : List ℕ) (a b c : Desk) → ServesPorts xs a b → ServesPorts ys b c → ServesPorts (xs ++ ys) a c
serves_on xs ys a b c x y = record {
  adds = adds_on xs ys a.fresh b.fresh c.fresh x.adds y.adds;
  goes_on = λ m first t. y.goes_on m first (x.goes_on m first t);
  served = λ n apart h. elim (Contains-append_cases xs ys n h) [
    | inl p ↦ y.forgets_none n apart (x.served n apart p)
    | inr q ↦ y.served n apart q
  ];
  forgets_none = λ n apart r. y.forgets_none n apart (x.forgets_none n apart r);
}

pub serves_next : (numbers : List ℕ) (k d : ℕ) (a b c : Desk) → k < length numbers → ServesPorts (take k numbers) a b
    → ServesPorts (get_or numbers k d ∷ []) b c → ServesPorts (take (k + 1) numbers) a c
serves_next numbers k d a b c within x y =
    let P : List ℕ → Type 0 = λ l. ServesPorts l a c in
    subst P (sym (take_more numbers k d within)) (serves_on (take k numbers) (get_or numbers k d ∷ []) a b c x y)

pub serves_all : (numbers : List ℕ) (k : ℕ) (a b : Desk) → length numbers ≤ k → ServesPorts (take k numbers) a b
    → ServesPorts numbers a b
serves_all numbers k a b all x =
    let P : List ℕ → Type 0 = λ l. ServesPorts l a b in subst P (take_all k numbers all) x

-- ---- the whole turn

pub ports_same : (d : Desk) → KeepsPorts d d
ports_same d = record { stay = (rests_same d.links).stay; next = refl }

pub ports_on : (a b c : Desk) → KeepsPorts a b → KeepsPorts b c → KeepsPorts a c
ports_on a b c x y = record {
  stay = all_stay_on a.links b.links c.links x.stay y.stay;
  next = y.next ∙ x.next;
}

-- A turn that begins with another list in the place of `later` is one that begins with `later`, if each port of `later`
-- is served, or left for the next turn.
turn_of_list : (m : Machine) (old begun new : Desk) → begun ≡ record old { later = begun.later } → TakesTurn m begun new
    → ((n : ℕ) → n ≢ 0 → Contains old.later n → IsRemembered n new) → TakesTurn m old new
turn_of_list m old begun new is turn there =
    let P : Desk → Type 0 = λ d. TakesTurn m d new in
    let t = subst P is turn in
    record {
      machine = t.machine;
      took = t.took;
      owes = t.owes;
      stay = t.stay;
      next = t.next;
      in_room = t.in_room;
      full = t.full;
      leader_first = t.leader_first;
      leader_whole = t.leader_whole;
      forgets_none = λ n apart r. elim r [
        | inl none ↦ t.forgets_none n apart (inl none)
        | inr h ↦ there n apart h
      ];
    }

pub ports_of_list : (old begun : Desk) → begun ≡ record old { later = begun.later } → KeepsPorts old begun
ports_of_list old begun is =
    let P : Desk → Type 0 = λ d. KeepsPorts old d in
    subst P (sym is) (record { stay = (rests_same old.links).stay; next = refl })

-- The leader's port is served, and then the clients' ports that were in `later`.
pub served : (m : Machine) (numbers : List ℕ) (old begun one two : Desk) → begun ≡ record old { later = begun.later }
    → numbers ≡ old.later
    → (begun.machine ≡ Some m → begun.fresh ≡ [] → KeepOnlyIfFull begun.links → TakesTurn m begun one)
    → ServesPorts numbers one two → old.machine ≡ Some m → old.fresh ≡ [] → KeepOnlyIfFull old.links → TakesTurn m old two
served m numbers old begun one two is same leader clients machine fresh full =
    let first = leader (ap (λ (d : Desk). d.machine) is ∙ machine) (ap (λ (d : Desk). d.fresh) is ∙ fresh)
    (subst KeepOnlyIfFull (sym (ap (λ (d : Desk). d.links) is)) full) in
    turn_of_list m old begun two is (clients.goes_on m begun first) (λ n apart there.
    let P : List ℕ → Type 0 = λ l. Contains l n in clients.served n apart (subst P (sym same) there))

pub served_in_order : (numbers : List ℕ) (old begun one two : Desk) → begun ≡ record old { later = begun.later }
    → numbers ≡ old.later → (begun.fresh ≡ [] → AreOfPorts (0 ∷ []) one.fresh) → ServesPorts numbers one two
    → old.fresh ≡ [] → IsStrictlyIncreasing old.later → ComeByNumber two.fresh
served_in_order numbers old begun one two is same leader clients fresh up =
    let P : List ℕ → Type 0 = λ l. IsStrictlyIncreasing l in
    come_by_number numbers one.fresh two.fresh (subst P (sym same) up)
    (leader (ap (λ (d : Desk). d.fresh) is ∙ fresh)) clients.adds

-- The ports that the turn is to come to are put in another order.
pub reordered : (m : Machine) (old begun new : Desk) → begun ≡ record old { later = begun.later }
    → IsPermutation old.later begun.later
    → (begun.machine ≡ Some m → begun.fresh ≡ [] → KeepOnlyIfFull begun.links → TakesTurn m begun new)
    → old.machine ≡ Some m → old.fresh ≡ [] → KeepOnlyIfFull old.links → TakesTurn m old new
reordered m old begun new is same turn machine fresh full =
    let t = turn (ap (λ (d : Desk). d.machine) is ∙ machine) (ap (λ (d : Desk). d.fresh) is ∙ fresh)
    (subst KeepOnlyIfFull (sym (ap (λ (d : Desk). d.links) is)) full) in
    turn_of_list m old begun new is t
    (λ n apart there. t.forgets_none n apart (inr (Contains-permutation old.later begun.later n same there)))

some_of : (o : Option Machine) → IsSome o → (m : Machine) × (o ≡ Some m)
some_of None is = cc
some_of (Some m) is = (m, refl)

turn_from : (m : Machine) (a b c : Desk) → BeginsTurn a b → TakesTurn m b c → TakesTurn m a c
turn_from m a b c begins t = record {
  machine = t.machine;
  took = λ n. t.took n ∙ ap (λ l. l ++ part_of_port n c.fresh) (begins.rests.links.took n);
  owes = λ n live.
      t.owes n (still_open (finmap.get a.links n) (finmap.get b.links n) (begins.rests.links.stay.at n) live)
      ∙ ap (λ l. l ++ share_of_port n (outputs_of m c.fresh)) (begins.rests.links.owes n);
  stay = all_stay_on a.links b.links c.links begins.rests.links.stay t.stay;
  next = t.next ∙ begins.rests.next;
  in_room = t.in_room;
  full = t.full;
  leader_first = t.leader_first;
  leader_whole = t.leader_whole;
  forgets_none = λ n apart r. t.forgets_none n apart (begins.forgets_none n apart r);
}

pub answers_ok : (count : ℕ) (a b c : Desk) → BeginsTurn a b
    → ((m : Machine) → b.machine ≡ Some m → b.fresh ≡ [] → KeepOnlyIfFull b.links → TakesTurn m b c)
    → count ≡ length c.fresh
    → AnswersTurn (Ok count) a.machine a c
answers_ok count a b c begins turn counts =
    let s = some_of a.machine begins.is_open in
    let P : Option Machine → Type 0 = λ o. AnswersTurn (Ok count) o a c in
    subst P (sym s.1) (counts, turn_from s.0 a b c begins (turn s.0 (begins.rests.machine ∙ s.1) begins.fresh begins.full))

-- Nothing was taken yet, and nothing is.
pub answers_refused : (a b : Desk) → BeginsTurn a b → AnswersTurn (Err stops.NoMemory) a.machine a b
answers_refused a b begins =
    let s = some_of a.machine begins.is_open in
    let P : Option Machine → Type 0 = λ o. AnswersTurn (Err stops.NoMemory) o a b in
    subst P (sym s.1) (inr (begins.fresh, begins.rests, begins.forgets_none))

pub answers_closed : (a b c : Desk) → BeginsTurn a b → KeepsPorts b c → c.machine ≡ None
    → AnswersTurn (Err stops.NoMemory) a.machine a c
answers_closed a b c begins keeps closed =
    let s = some_of a.machine begins.is_open in
    let P : Option Machine → Type 0 = λ o. AnswersTurn (Err stops.NoMemory) o a c in
    subst P (sym s.1) (inl (
      closed,
      ports_on a b c (record {
        stay = begins.rests.links.stay;
        next = begins.rests.next;
      }) keeps,
    ))
