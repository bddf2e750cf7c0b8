-- Overwriting one port's ends, and a list of such writes.
use Rattle.std.proofs.Common.{◌≡◌, ◌≢◌, ◌≤◌, ℕ, true, List, [], ◌∷◌, ◌++◌, length, Option, Some, None, Result, Ok, Err, refl, ap, sym, ◌∙◌, subst, inl, inr, append_assoc, arith}
use Rattle.std.specs.Prelude.{OnOk, is_some}
use Rattle.std.specs.Ordering.{nat_cmp}
use Rattle.std.specs.BTreeMap as tree
use Rattle.std.specs.BTreeMap.{BTreeMap}
use Rattle.std.specs.FinMap as finmap
use Rattle.std.proofs.lemmas.List.{append-nil}
use Rattle.std.proofs.lemmas.Bool.Decides.{eqb_tells}
use Rattle.std.specs.declared.alloc.Global.{Global}
use Rattle.rtrb.specs.declared.producer.Producer.{Producer}
use Rattle.rtrb.specs.declared.consumer.Consumer.{Consumer}
use Rattle.rtrb.specs.declared.AnyItems.{AnyItems}
use Rattle.rtrb.specs.declared.end.End.{End}
use Rattle.rtrb.specs.Ends.{SameRing}
use Rattle.values.specs.declared.fault.NoMemory.{NoMemory}
use Rattle.rtrb.specs.Ring.{sent, received, known_free, known_items, SameProducer, SameConsumer}
use Rattle.world.specs.declared.output.Output.{Output}
use Rattle.world.proofs.NatMaps.{seen, get-seen, seen-insert, get-inserted, get-beside}
use Rattle.intake.specs.declared.message.Message.{Message}
use Rattle.intake.specs.declared.link.Link.{Link}
use Rattle.intake.specs.declared.port.PortEnd.{PortEnd}
use Rattle.intake.specs.Messages.{PortMessage, messages_of_port, part_of_port, port_of, share_of_port}
use Rattle.intake.specs.Links.{Links, outputs_owed, taken_from, waiting_from, room_from, owed_to, taken_at, waiting_at, room_at, seen_at, owed_at, IsEndBy, IsSameLink, StaysOpen, AllStay, SameWait, TakesNoMessage, LooksAt, TakesSeen, PutsShares, KeepsIfFull, KeepOnlyIfFull}
use Rattle.intake.proofs.Parts.{part_own, part_others, share_joined, share_own, share_other}

-- ---- one port's ends are overwritten

pub record Written (old : Links) (k : ℕ) (was is : Link) (new : Links) : Type 0 where
  pub there : finmap.get old k ≡ Some was
  pub written : new ≡ finmap.insert old k is

pub written_over : (m n : BTreeMap ℕ Link) (links : Links) (k : ℕ) (was is : Link) → seen m.entries ≡ links
    → Some was ≡ tree.get nat_cmp m k → tree.UpdatesBy nat_cmp (nat_cmp k) m n (Some is)
    → Written links k was is (seen n.entries)
written_over m n links k was is view there updates = record {
  there = sym (there ∙ sym (get-seen m k) ∙ ap (λ (l : Links). finmap.get l k) view);
  written = seen-insert k m n is updates ∙ ap (λ (l : Links). finmap.insert l k is) view;
}

pub each_at : (R : ℕ → Option Link → Option Link → Type 0) (old : Links) (k : ℕ) (was is : Link) (new : Links)
    → Written old k was is new → R k (Some was) (Some is)
    → ((n : ℕ) → n ≢ k → R n (finmap.get old n) (finmap.get old n))
    → (n : ℕ) → R n (finmap.get old n) (finmap.get new n)
each_at R old k was is new w at others n = elim (eqb_tells n k) [
  | inl h ↦
      let before : finmap.get old n ≡ Some was = ap (λ j. finmap.get old j) h.1 ∙ w.there in
      let after : finmap.get new n ≡ Some is =
      ap (λ (l : Links). finmap.get l n) w.written ∙ ap (λ j. finmap.get (finmap.insert old k is) j) h.1
      ∙ get-inserted old k is in
      let P : Option Link → Type 0 = λ x. R n x (finmap.get new n) in
      let Q : Option Link → Type 0 = λ y. R n (Some was) y in
      let S : ℕ → Type 0 = λ j. R j (Some was) (Some is) in
      subst P (sym before) (subst Q (sym after) (subst S (sym h.1) at))
  | inr h ↦
      let after : finmap.get new n ≡ finmap.get old n =
      ap (λ (l : Links). finmap.get l n) w.written ∙ get-beside old k n is h.1 in
      let P : Option Link → Type 0 = λ y. R n (finmap.get old n) y in
      subst P (sym after) (others n h.1)
]

pub same_link : (o : Option Link) → StaysOpen o o
same_link None = tt
same_link (Some l) = record {
  inbox = ((refl, refl, refl, refl), refl);
  outbox = ((refl, refl, refl, refl), refl);
  slot = refl;
}

pub all_stay : (old : Links) (k : ℕ) (was is : Link) (new : Links) → Written old k was is new → IsSameLink was is
    → AllStay old new
all_stay old k was is new w stays = record {
  at = each_at (λ n x y. StaysOpen x y) old k was is new w stays (λ n apart. same_link (finmap.get old n));
}

same_taken : (old : Links) (k : ℕ) (was is : Link) (new : Links) → Written old k was is new
    → received is.inbox ≡ received was.inbox → (n : ℕ) → taken_at new n ≡ taken_at old n
same_taken old k was is new w e =
    each_at (λ n x y. taken_from y ≡ taken_from x) old k was is new w e (λ n apart. refl)

same_owed : (old : Links) (k : ℕ) (was is : Link) (new : Links) → Written old k was is new
    → outputs_owed is ≡ outputs_owed was → (n : ℕ) → owed_at new n ≡ owed_at old n
same_owed old k was is new w e = each_at (λ n x y. owed_to y ≡ owed_to x) old k was is new w e (λ n apart. refl)

pub rests_at : (old : Links) (k : ℕ) (was is : Link) (new : Links) → Written old k was is new → IsSameLink was is
    → received is.inbox ≡ received was.inbox → outputs_owed is ≡ outputs_owed was → TakesNoMessage old new
rests_at old k was is new w stays took owes = record {
  stay = all_stay old k was is new w stays;
  took = same_taken old k was is new w took;
  owes = same_owed old k was is new w owes;
}

pub is_there : (old : Links) (k : ℕ) (was is : Link) (new : Links) → Written old k was is new
    → finmap.get new k ≡ Some is
is_there old k was is new w = ap (λ (l : Links). finmap.get l k) w.written ∙ get-inserted old k is

-- What waits in a port is what was seen there.
pub waits_there : (old : Links) (k : ℕ) (was is : Link) (new : Links) → Written old k was is new
    → waiting_at old k ≡ known_items was.inbox
waits_there old k was is new w = ap waiting_from w.there

others_same : (old : Links) (k : ℕ) (was is : Link) (new : Links) → Written old k was is new → (n : ℕ) → n ≢ k
    → waiting_at new n ≡ waiting_at old n
others_same old k was is new w n apart =
    ap waiting_from (ap (λ (l : Links). finmap.get l n) w.written ∙ get-beside old k n is apart)

pub same_wait : (old : Links) (k : ℕ) (was is : Link) (new : Links) → Written old k was is new
    → is.inbox ≡ was.inbox → SameWait old new
same_wait old k was is new w e =
    each_at (λ n x y. waiting_from y ≡ waiting_from x) old k was is new w (ap (λ i. known_items i) e) (λ n apart. refl)

same_owed_ends : (a b : Link) → (b.outbox ≡ a.outbox) × (b.kept ≡ a.kept) → outputs_owed b ≡ outputs_owed a
same_owed_ends a b h = ap (λ p. sent p ++ b.kept.items) h.0 ∙ ap (λ k. sent a.outbox ++ k.items) h.1

full_same : (a b : Link) → (b.outbox ≡ a.outbox) × (b.kept ≡ a.kept) → KeepsIfFull (Some a) → KeepsIfFull (Some b)
full_same a b same full = elim full [
  | inl none ↦ inl (ap (λ k. k.items) same.1 ∙ none)
  | inr full ↦ inr (ap (λ p. known_free p) same.0 ∙ full)
]

full_at : (old : Links) (k : ℕ) (was is : Link) (new : Links) → Written old k was is new
    → (KeepsIfFull (Some was) → KeepsIfFull (Some is)) → KeepOnlyIfFull old → KeepOnlyIfFull new
full_at old k was is new w at full n =
    each_at (λ j x y. KeepsIfFull x → KeepsIfFull y) old k was is new w at (λ j apart h. h) n (full n)

pub looks_there : (old : Links) (k : ℕ) (was is : Link) (new : Links) → Written old k was is new → IsSameLink was is
    → received is.inbox ≡ received was.inbox → (is.outbox ≡ was.outbox) × (is.kept ≡ was.kept) → LooksAt (k ∷ []) old new
looks_there old k was is new w stays took same = record {
  rests = rests_at old k was is new w stays took (same_owed_ends was is same);
  full = full_at old k was is new w (full_same was is same);
  others = λ n. elim (eqb_tells n k) [
    | inl h ↦ inr (0, omega arith, sym h.1)
    | inr h ↦ inl (others_same old k was is new w n h.1)
  ];
}

pub takes_at : (old : Links) (k : ℕ) (was is : Link) (new : Links) (before after : List PortMessage)
    → Written old k was is new → IsSameLink was is
    → after ≡ before ++ messages_of_port k (known_items was.inbox)
    → received is.inbox ≡ received was.inbox ++ known_items was.inbox → known_items is.inbox ≡ []
    → (is.outbox ≡ was.outbox) × (is.kept ≡ was.kept) → TakesSeen k old before new after
takes_at old k was is new before after w stays list took none same =
    let seen = waits_there old k was is new w in record {
      stay = all_stay old k was is new w stays;
      list = list ∙ ap (λ ms. before ++ messages_of_port k ms) (sym seen);
      took = each_at (λ n x y. taken_from y ≡ taken_from x ++ part_of_port n (seen_at old k)) old k was is new w
          (took ∙ ap (λ ms. received was.inbox ++ ms) (sym seen ∙ sym (part_own k (waiting_at old k))))
          (λ n apart. sym (append-nil (taken_at old n))
          ∙ ap (λ ms. taken_at old n ++ ms) (sym (part_others n k (waiting_at old k) apart)));
      none_waits = ap waiting_from (is_there old k was is new w) ∙ none;
      others_wait = others_same old k was is new w;
      owes = same_owed old k was is new w (same_owed_ends was is same);
      full = full_at old k was is new w (full_same was is same);
    }

pub puts_at : (old : Links) (was is : Link) (new : Links) (o : Output) → Written old (port_of o) was is new
    → IsSameLink was is → is.inbox ≡ was.inbox → outputs_owed is ≡ outputs_owed was ++ o ∷ []
    → (KeepsIfFull (Some was) → KeepsIfFull (Some is)) → PutsShares old (o ∷ []) new
puts_at old was is new o w stays same owes full = record {
  full = full_at old (port_of o) was is new w full;
  stay = all_stay old (port_of o) was is new w stays;
  took = same_taken old (port_of o) was is new w (ap (λ i. received i) same);
  waits = same_wait old (port_of o) was is new w same;
  owes = each_at (λ n x y. is_some x ≡ true → owed_to y ≡ owed_to x ++ share_of_port n (o ∷ [])) old (port_of o) was is
      new w
      (λ live. owes ∙ ap (λ l. outputs_owed was ++ l) (sym (share_own o)))
      (λ n apart live. sym (append-nil (owed_at old n)) ∙ ap (λ l. owed_at old n ++ l) (sym (share_other n o apart)));
}

-- ---- a port that isn't live is ignored

pub rests_same : (links : Links) → TakesNoMessage links links
rests_same links = record {
  stay = record { at = λ n. same_link (finmap.get links n) };
  took = λ n. refl;
  owes = λ n. refl;
}

none_waits_there : (o : Option Link) → None ≡ o → waiting_from o ≡ []
none_waits_there o none = sym (ap waiting_from none)

pub takes_none : (links : Links) (k : ℕ) (came : List PortMessage) → None ≡ finmap.get links k
    → TakesSeen k links came links came
takes_none links k came none =
    let nothing : waiting_at links k ≡ [] = none_waits_there (finmap.get links k) none in record {
      stay = (rests_same links).stay;
      list = sym (append-nil came) ∙ ap (λ ms. came ++ messages_of_port k ms) (sym nothing);
      took = λ n. sym (append-nil (taken_at links n))
          ∙ ap (λ ms. taken_at links n ++ part_of_port n (messages_of_port k ms)) (sym nothing);
      none_waits = nothing;
      others_wait = λ n apart. refl;
      owes = λ n. refl;
      full = λ full. full;
    }

pub nothing_is_open : (o : Option Link) → None ≡ o → is_some o ≡ true → ⊥
nothing_is_open o none live = cc (ap is_some none)

pub drops : (links : Links) (o : Output) → None ≡ finmap.get links (port_of o) → PutsShares links (o ∷ []) links
drops links o none = record {
  full = λ full. full;
  stay = (rests_same links).stay;
  took = λ n. refl;
  waits = λ n. refl;
  owes = λ n live. elim (eqb_tells n (port_of o)) [
    | inl h ↦ absurd (nothing_is_open (finmap.get links n) (none ∙ ap (λ j. finmap.get links j) (sym h.1)) live)
    | inr h ↦ sym (append-nil (owed_at links n)) ∙ ap (λ l. owed_at links n ++ l) (sym (share_other n o h.1))
  ];
}

pub puts_none : (links : Links) → PutsShares links [] links
puts_none links = record {
  full = λ full. full;
  stay = (rests_same links).stay;
  took = λ n. refl;
  waits = λ n. refl;
  owes = λ n live. sym (append-nil (owed_at links n));
}

-- ---- one write and then others

-- Two ends are of one ring if a third is of the ring of each.
module _ {T A P : Type 0} where
  pub ring_on : (a b c : End T A P) → SameRing a b → SameRing b c → SameRing a c
  ring_on a b c x y = (y.0 ∙ x.0, y.1 ∙ x.1, y.2 ∙ x.2, y.3 ∙ x.3)

  pub ring_over : (a b c : End T A P) → SameRing a b → SameRing a c → SameRing b c
  ring_over a b c x y = (y.0 ∙ sym x.0, y.1 ∙ sym x.1, y.2 ∙ sym x.2, y.3 ∙ sym x.3)

stays_on : (x y z : Option Link) → StaysOpen x y → StaysOpen y z → StaysOpen x z
stays_on None None None a b = tt
stays_on None None (Some l) a b = b
stays_on None (Some l) z a b = absurd a
stays_on (Some l) None z a b = absurd a
stays_on (Some x) (Some y) None a b = b
stays_on (Some x) (Some y) (Some z) a b = record {
  inbox = (ring_on x.inbox.end y.inbox.end z.inbox.end a.inbox.0 b.inbox.0, b.inbox.1 ∙ a.inbox.1);
  outbox = (ring_on x.outbox.end y.outbox.end z.outbox.end a.outbox.0 b.outbox.0, b.outbox.1 ∙ a.outbox.1);
  slot = b.slot ∙ a.slot;
}

pub all_stay_on : (a b c : Links) → AllStay a b → AllStay b c → AllStay a c
all_stay_on a b c x y = record {
  at =
      λ n. stays_on (finmap.get a n) (finmap.get b n) (finmap.get c n) (x.at n) (y.at n);
}

pub still_open : (x y : Option Link) → StaysOpen x y → is_some x ≡ true → is_some y ≡ true
still_open None None s live = live
still_open None (Some l) s live = absurd s
still_open (Some l) None s live = absurd s
still_open (Some x) (Some y) s live = refl

pub same_room : (x y : Option Link) → StaysOpen x y → room_from y ≡ room_from x
same_room None None s = refl
same_room None (Some l) s = absurd s
same_room (Some l) None s = absurd s
same_room (Some x) (Some y) s = s.inbox.1

-- An inbox has room for the messages that were seen there.
room_for : (o : Option Link) → length (waiting_from o) ≤ room_from o
room_for None = omega arith
room_for (Some l) = l.inbox.counts

pub room_for_seen : (links : Links) (n : ℕ) → length (waiting_at links n) ≤ room_at links n
room_for_seen links n = room_for (finmap.get links n)

pub rests_on : (a b c : Links) → TakesNoMessage a b → TakesNoMessage b c → TakesNoMessage a c
rests_on a b c x y = record {
  stay = all_stay_on a b c x.stay y.stay;
  took = λ n. y.took n ∙ x.took n;
  owes = λ n. y.owes n ∙ x.owes n;
}

pub puts_on : (a b c : Links) (xs ys : List Output) → PutsShares a xs b → PutsShares b ys c → PutsShares a (xs ++ ys) c
puts_on a b c xs ys x y = record {
  full = λ full. y.full (x.full full);
  stay = all_stay_on a b c x.stay y.stay;
  took = λ n. y.took n ∙ x.took n;
  waits = λ n. y.waits n ∙ x.waits n;
  owes = λ n live.
      y.owes n (still_open (finmap.get a n) (finmap.get b n) (x.stay.at n) live)
      ∙ ap (λ l. l ++ share_of_port n ys) (x.owes n live)
      ∙ append_assoc (owed_at a n) (share_of_port n xs) (share_of_port n ys)
      ∙ ap (λ l. owed_at a n ++ l) (sym (share_joined n xs ys));
}

-- ---- a link's ends, and equal maps

pub stays_put : (a b : Link) → SameProducer a.outbox b.outbox → b.inbox ≡ a.inbox → b.slot ≡ a.slot → IsSameLink a b
stays_put a b out in_same slot = record {
  slot = slot;
  inbox = (let P : Consumer Message Global AnyItems → Type 0 = λ c. SameConsumer a.inbox c in
      subst P (sym in_same) ((refl, refl, refl, refl), refl));
  outbox = out;
}

pub stays_took : (a b : Link) → SameConsumer a.inbox b.inbox → b.outbox ≡ a.outbox → b.slot ≡ a.slot → IsSameLink a b
stays_took a b taken same slot = record {
  slot = slot;
  inbox = taken;
  outbox = (let P : Producer Output Global AnyItems → Type 0 = λ p. SameProducer a.outbox p in
      subst P (sym same) ((refl, refl, refl, refl), refl));
}

pub rests_is : (old new : Links) → new ≡ old → TakesNoMessage old new
rests_is old new is = let P : Links → Type 0 = λ l. TakesNoMessage old l in subst P (sym is) (rests_same old)

pub takes_is : (old new : Links) (k : ℕ) (came : List PortMessage) → new ≡ old → None ≡ finmap.get old k
    → TakesSeen k old came new came
takes_is old new k came is none = let P : Links → Type 0 = λ l. TakesSeen k old came l came in
    subst P (sym is) (takes_none old k came none)

pub looks_is : (old new : Links) (numbers : List ℕ) → new ≡ old → LooksAt numbers old new
looks_is old new numbers is = let P : Links → Type 0 = λ l. LooksAt numbers old l in
    subst P (sym is) (record { rests = rests_same old; full = λ full. full; others = λ n. inl refl })

pub waits_is : (old new : Links) → new ≡ old → SameWait old new
waits_is old new is = let P : Links → Type 0 = λ l. SameWait old l in subst P (sym is) (λ n. refl)

pub drops_is : (old new : Links) (o : Output) → new ≡ old → None ≡ finmap.get old (port_of o)
    → PutsShares old (o ∷ []) new
drops_is old new o is none = let P : Links → Type 0 = λ l. PutsShares old (o ∷ []) l in
    subst P (sym is) (drops old o none)

pub none_there : (m : BTreeMap ℕ Link) (links : Links) (k : ℕ) → seen m.entries ≡ links → None ≡ tree.get nat_cmp m k
    → None ≡ finmap.get links k
none_there m links k view none = none ∙ sym (get-seen m k) ∙ ap (λ (l : Links). finmap.get l k) view

pub seen_none : (m : BTreeMap ℕ Link) (links : Links) (k : ℕ) → seen m.entries ≡ links → None ≡ tree.get nat_cmp m k
    → waiting_at links k ≡ []
seen_none m links k view none = none_waits_there (finmap.get links k) (none_there m links k view none)

-- ---- a finished port's end

pub no_end : (end : PortEnd) (o : Option Link) → None ≡ o → IsEndBy end o → ⊥
no_end end o none is = let P : Option Link → Type 0 = λ x. IsEndBy end x in subst P (sym none) is

pub end_there : (end : PortEnd) (o : Option Link) (l : Link) → Some l ≡ o → IsEndBy end o → IsEndBy end (Some l)
end_there end o l some is = let P : Option Link → Type 0 = λ x. IsEndBy end x in subst P (sym some) is

-- ---- an allocation may be refused

pub takes_ok : (result : Result (Unit {0}) NoMemory) (old : Links) (k : ℕ) (was is : Link) (new : Links)
    (before after : List PortMessage) → Written old k was is new → IsSameLink was is
    → OnOk result (after ≡ before ++ messages_of_port k (known_items was.inbox))
    → OnOk result (received is.inbox ≡ received was.inbox ++ known_items was.inbox)
    → OnOk result (known_items is.inbox ≡ []) → (is.outbox ≡ was.outbox) × (is.kept ≡ was.kept)
    → OnOk result (TakesSeen k old before new after)
takes_ok (Ok u) old k was is new before after w stays list took none same =
    takes_at old k was is new before after w stays list took none same
takes_ok (Err e) old k was is new before after w stays list took none same = tt

pub puts_ok : (result : Result (Unit {0}) NoMemory) (old : Links) (k : ℕ) (was is : Link) (new : Links) (o : Output)
    → k ≡ port_of o → Written old k was is new → IsSameLink was is → is.inbox ≡ was.inbox
    → OnOk result (outputs_owed is ≡ outputs_owed was ++ o ∷ []) → (KeepsIfFull (Some was) → KeepsIfFull (Some is))
    → OnOk result (PutsShares old (o ∷ []) new)
puts_ok (Ok u) old k was is new o number w stays same owes full =
    let P : ℕ → Type 0 = λ j. Written old j was is new in
    puts_at old was is new o (subst P number w) stays same owes full
puts_ok (Err e) old k was is new o number w stays same owes full = tt
