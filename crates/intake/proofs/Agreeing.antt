-- A desk keeps agreeing with the messages that it took.
use Rattle.std.proofs.Common.{◌≡◌, ◌≢◌, ◌≤◌, ◌+◌, ℕ, true, cond, List, [], ◌++◌, Option, Some, None, refl, ap, sym, ◌∙◌, subst, inl, inr, append_assoc, arith}
use Rattle.std.specs.Prelude.{is_some}
use Rattle.std.specs.Ordering.{nat_cmp}
use Rattle.std.specs.FinMap as finmap
use Rattle.std.specs.Cmp.{nat_cmp_total}
use Rattle.std.proofs.lemmas.List.{append-nil}
use Rattle.std.proofs.lemmas.Bool.Decides.{eqb_tells}
use Rattle.world.specs.declared.output.Output.{Output}
use Rattle.observer_core.specs.Machine.{Machine}
use Rattle.world.specs.Steps.{StepResult, prepend_outputs}
use Rattle.observer_core.specs.Play.{play}
use Rattle.observer_core.proofs.Playing.{play_on}
use Rattle.world.proofs.NatMaps.{still_there, get-removed, get-kept}
use Rattle.intake.specs.declared.port.PortEnd.{PortEnd}
use Rattle.intake.specs.declared.message.Message.{Message}
use Rattle.intake.specs.declared.link.Link.{Link}
use Rattle.intake.specs.Messages.{PortMessage, events_of, part_of_port, share_of_port}
use Rattle.intake.specs.Links.{Links, is_open_port, taken_from, owed_to, taken_at, owed_at, StaysOpen}
use Rattle.intake.specs.Desk.{Desk, new_desk, AddsPort, TakesTurn, TakesNothing}
use Rattle.intake.specs.Agreement.{DeskAgrees, outputs_of, with_port, DesksAgree}
use Rattle.intake.proofs.Keeping.{nothing_is_open}
use Rattle.intake.proofs.Parts.{part_joined, share_joined, events_joined}

-- ---- ports that are live, before and after

was_open : (x y : Option Link) → StaysOpen x y → is_some y ≡ true → is_some x ≡ true
was_open None None s live = live
was_open None (Some l) s live = absurd s
was_open (Some l) None s live = absurd s
was_open (Some x) (Some y) s live = refl

none_stays : (x y : Option Link) → StaysOpen x y → x ≡ None → y ≡ None
none_stays None None s e = refl
none_stays None (Some l) s e = absurd s
none_stays (Some l) None s e = refl
none_stays (Some x) (Some y) s e = cc

-- ---- a turn

pub joined : (began : Machine) (taken fresh : List PortMessage) → play began (events_of (taken ++ fresh))
    ≡ prepend_outputs (outputs_of began taken) (play (play began (events_of taken)).after (events_of fresh))
joined began taken fresh =
    ap (play began) (events_joined taken fresh) ∙ play_on began (events_of taken) (events_of fresh)

turns_machine : (began m : Machine) (old new : Desk) (taken : List PortMessage) (before : ℕ → List PortMessage)
    → DeskAgrees began old taken before → old.machine ≡ Some m → m ≡ (play began (events_of taken)).after
turns_machine began m old new taken before a is = cc (sym is ∙ a.machine)

turns_owes : (began m : Machine) (old new : Desk) (taken : List PortMessage) (before : ℕ → List PortMessage)
    → DeskAgrees began old taken before → m ≡ (play began (events_of taken)).after → TakesTurn m old new → (n : ℕ)
    → is_open_port n old.links ≡ true
    → share_of_port n (outputs_of began (before n)) ++ owed_at new.links n
    ≡ share_of_port n (outputs_of began (taken ++ new.fresh))
turns_owes began m old new taken before a is t n live =
    let outs : Machine → List Output = λ (x : Machine). (play x (events_of new.fresh)).outputs in
    ap (λ l. share_of_port n (outputs_of began (before n)) ++ l) (t.owes n live)
    ∙ sym (append_assoc (share_of_port n (outputs_of began (before n))) (owed_at old.links n)
    (share_of_port n (outs m)))
    ∙ ap (λ l. l ++ share_of_port n (outs m)) (a.owes n live)
    ∙ ap (λ (x : Machine). share_of_port n (outputs_of began taken) ++ share_of_port n (outs x)) is
    ∙ sym (share_joined n (outputs_of began taken) (outs (play began (events_of taken)).after))
    ∙ ap (λ (h : StepResult Machine). share_of_port n h.outputs) (sym (joined began taken new.fresh))

nothing_came : (x y : Option Link) (ms : List Message) → x ≡ None → y ≡ None → taken_from y ≡ taken_from x ++ ms
    → ms ≡ []
nothing_came x y ms ex ey e = sym (sym (ap taken_from ey) ∙ e ∙ ap (λ o. taken_from o ++ ms) ex)

turns : (began m : Machine) (old new : Desk) (taken : List PortMessage) (before : ℕ → List PortMessage)
    → DeskAgrees began old taken before → old.machine ≡ Some m → TakesTurn m old new
    → DeskAgrees began new (taken ++ new.fresh) before
turns began m old new taken before a machine t =
    let is = turns_machine began m old new taken before a machine in
    record {
      machine = t.machine
          ∙ ap (λ (x : Machine). Some (play x (events_of new.fresh)).after) is
          ∙ ap (λ (h : StepResult Machine). Some h.after) (sym (joined began taken new.fresh));
      took = λ n live.
          let was = was_open (finmap.get old.links n) (finmap.get new.links n) (t.stay.at n) live in
          t.took n ∙ ap (λ l. l ++ part_of_port n new.fresh) (a.took n was) ∙ sym (part_joined n taken new.fresh);
      owes = λ n live. turns_owes began m old new taken before a is t n
          (was_open (finmap.get old.links n) (finmap.get new.links n) (t.stay.at n) live);
      unused = λ n above.
          let P : ℕ → Type 0 = λ k. k ≤ n in
          let u = a.unused n (subst P t.next above) in
          let none = none_stays (finmap.get old.links n) (finmap.get new.links n) (t.stay.at n) u.0 in (
            none,
            part_joined n taken new.fresh ∙ ap (λ l. l ++ part_of_port n new.fresh) u.1
                ∙ nothing_came (finmap.get old.links n) (finmap.get new.links n) (part_of_port n new.fresh) u.0 none
                (t.took n),
          );
    }

waits : (began : Machine) (old new : Desk) (taken : List PortMessage) (before : ℕ → List PortMessage)
    → DeskAgrees began old taken before → TakesNothing old new → DeskAgrees began new taken before
waits began old new taken before a w = record {
  machine = w.machine ∙ a.machine;
  took = λ n live. w.links.took n
      ∙ a.took n (was_open (finmap.get old.links n) (finmap.get new.links n) (w.links.stay.at n) live);
  owes = λ n live. ap (λ l. share_of_port n (outputs_of began (before n)) ++ l) (w.links.owes n)
      ∙ a.owes n (was_open (finmap.get old.links n) (finmap.get new.links n) (w.links.stay.at n) live);
  unused = λ n above.
      let P : ℕ → Type 0 = λ k. k ≤ n in
      let u = a.unused n (subst P w.next above) in
      (none_stays (finmap.get old.links n) (finmap.get new.links n) (w.links.stay.at n) u.0, u.1);
}

-- ---- removing a port

some_is : (o : Option Link) → is_some o ≡ true → (l : Link) × (o ≡ Some l)
some_is None live = cc
some_is (Some l) live = (l, refl)

stayed : (links : Links) (k n : ℕ) → is_open_port n (finmap.remove links k) ≡ true
    → finmap.get (finmap.remove links k) n ≡ finmap.get links n
stayed links k n live =
    let s = some_is (finmap.get (finmap.remove links k) n) live in
    s.1 ∙ sym (still_there links k n s.0 s.1)

gone : (links : Links) (k n : ℕ) → finmap.get links n ≡ None → finmap.get (finmap.remove links k) n ≡ None
gone links k n none = elim (eqb_tells n k) [
  | inl h ↦ ap (λ j. finmap.get (finmap.remove links k) j) h.1 ∙ get-removed links k
  | inr h ↦ get-kept links k n h.1 ∙ none
]

closes : (began : Machine) (old : Desk) (k : ℕ) (taken : List PortMessage) (before : ℕ → List PortMessage)
    → DeskAgrees began old taken before
    → DeskAgrees began (record old { links = finmap.remove old.links k }) taken before
closes began old k taken before a = record {
  machine = a.machine;
  took = λ n live.
      let same = stayed old.links k n live in
      ap taken_from same ∙ a.took n (sym (ap is_some same) ∙ live);
  owes = λ n live.
      let same = stayed old.links k n live in
      ap (λ o. share_of_port n (outputs_of began (before n)) ++ owed_to o) same
      ∙ a.owes n (sym (ap is_some same) ∙ live);
  unused = λ n above. let u = a.unused n above in (gone old.links k n u.0, u.1);
}

-- ---- adding a port

adds_owes : (began : Machine) (old new : Desk) (port : PortEnd) (taken : List PortMessage)
    (before : ℕ → List PortMessage)
    → DeskAgrees began old taken before → AddsPort old port new → (n : ℕ) → is_open_port n new.links ≡ true
    → share_of_port n (outputs_of began (with_port port.number taken before n)) ++ owed_at new.links n
    ≡ share_of_port n (outputs_of began taken)
adds_owes began old new port taken before a d n live = elim (eqb_tells n port.number) [
  | inl h ↦
      ap (λ b. share_of_port n (outputs_of began (cond b taken (before n))) ++ owed_at new.links n) h.0
      ∙ ap (λ l. share_of_port n (outputs_of began taken) ++ l) (ap (owed_at new.links) h.1 ∙ d.owed)
      ∙ append-nil (share_of_port n (outputs_of began taken))
  | inr h ↦
      let same = d.others n h.1 in
      ap (λ b. share_of_port n (outputs_of began (cond b taken (before n))) ++ owed_at new.links n) h.0
      ∙ ap (λ o. share_of_port n (outputs_of began (before n)) ++ owed_to o) same
      ∙ a.owes n (sym (ap is_some same) ∙ live)
]

adds_took : (began : Machine) (old new : Desk) (port : PortEnd) (taken : List PortMessage)
    (before : ℕ → List PortMessage)
    → DeskAgrees began old taken before → AddsPort old port new → (n : ℕ) → is_open_port n new.links ≡ true
    → taken_at new.links n ≡ part_of_port n taken
adds_took began old new port taken before a d n live = elim (eqb_tells n port.number) [
  | inl h ↦
      let P : ℕ → Type 0 = λ k. old.next ≤ k in
      let above : old.next ≤ n = subst P (sym (h.1 ∙ d.number)) (omega arith) in
      ap (taken_at new.links) h.1 ∙ d.taken ∙ sym (a.unused n above).1
  | inr h ↦ let same = d.others n h.1 in ap taken_from same ∙ a.took n (sym (ap is_some same) ∙ live)
]

adds_unused : (began : Machine) (old new : Desk) (port : PortEnd) (taken : List PortMessage)
    (before : ℕ → List PortMessage)
    → DeskAgrees began old taken before → AddsPort old port new → (n : ℕ) → new.next ≤ n
    → (finmap.get new.links n ≡ None) × (part_of_port n taken ≡ [])
adds_unused began old new port taken before a d n above =
    let next : old.next + 1 ≤ n = (let P : ℕ → Type 0 = λ k. k ≤ n in subst P d.next above) in
    let u = a.unused n (omega arith) in
    let apart : n ≢ port.number = λ e. (let f : n ≡ old.next = e ∙ d.number in omega arith) in
    (d.others n apart ∙ u.0, u.1)

adds : (began : Machine) (old new : Desk) (port : PortEnd) (taken : List PortMessage) (before : ℕ → List PortMessage)
    → DeskAgrees began old taken before → AddsPort old port new
    → DeskAgrees began new taken (with_port port.number taken before)
adds began old new port taken before a d = record {
  machine = d.machine ∙ a.machine;
  took = adds_took began old new port taken before a d;
  owes = adds_owes began old new port taken before a d;
  unused = adds_unused began old new port taken before a d;
}

-- ---- all steps

nothing_there : (n : ℕ) → finmap.get (finmap.empty {X = Link} {R = nat_cmp}) n ≡ None
nothing_there n = finmap.get-from_entries {X = Link} nat_cmp_total [] n

pub desks_agree : DesksAgree
desks_agree = record {
  opens = λ m before. record {
    machine = refl;
    took = λ n live. ap taken_from (nothing_there n);
    owes = λ n live. absurd (nothing_is_open (finmap.get (new_desk m).links n) (sym (nothing_there n)) live);
    unused = λ n above. (nothing_there n, refl);
  };
  adds = adds;
  turns = turns;
  waits = waits;
  closes = closes;
}
