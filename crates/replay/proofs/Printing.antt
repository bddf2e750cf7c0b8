-- From feeding an engine to the output.
use Rattle.std.proofs.lemmas.Grind.{flat_map-append}
use Rattle.std.proofs.lemmas.List.Concat.{flat_map-cons}
use Rattle.std.proofs.Math.Seq.{drop-cons}
use Rattle.std.proofs.Common.{◌≡◌, ℕ, suc, ◌<◌, List, [], ◌∷◌, ◌++◌, length, get_or, take, drop, take-append-drop, Option, Some, None, Result, Ok, Err, refl, sym, ap, ◌∙◌, subst, append_assoc, append-nil, inl, inr, true≢false}
use Rattle.std.specs.List.{flat_map}
use Rattle.std.specs.Io.KnownBytes.{Appends, Keeps}
use Rattle.std.specs.Prelude.{IfSome, IsOk, OnOk}
use Rattle.observer_core.specs.declared.engine.Stop.{Stop}
use Rattle.observer_core.specs.declared.engine.Stop.TheVariants as stops
use Rattle.observer_core.specs.declared.event.Event.{Event}
use Rattle.world.specs.declared.output.Output.{Output}
use Rattle.observer_core.specs.Machine.{Machine}
use Rattle.observer_core.specs.Plays.{PlaysEvents}
use Rattle.observer_core.specs.Play.{play}
use Rattle.values.specs.Gains.{Gains}
use Rattle.values.proofs.Gaining.{gains_all}
use Rattle.replay_script.specs.declared.script.Script.{Script}
use Rattle.replay.specs.Lines.{output_line}
use Rattle.replay.specs.Writing.{WritesPart}
use Rattle.replay.specs.Replay.{replay_of, printed_lines, end_line_of, WritesFront, PrintsFront, EndsReplay}
use Rattle.replay.specs.declared.ending.Ending.{Ending}
use Rattle.replay.specs.declared.ending.Ending.TheVariants.{Done, BadLine, Failed, NoMemory, NotClean, NoNode}

pub appends_both : (a b c : Option (List ℕ)) (xs ys : List ℕ) → Appends a b xs → Appends b c ys → Appends a c (xs ++ ys)
appends_both None b c xs ys p q = tt
appends_both (Some x) None c xs ys p q = absurd p
appends_both (Some x) (Some y) None xs ys p q = absurd q
appends_both (Some x) (Some y) (Some z) xs ys p q = q ∙ ap (λ l. l ++ ys) p ∙ append_assoc x xs ys

-- The outputs of an engine that was fed are the first of all.
first_at : (fed : Result (Unit {0}) Stop) (m : Machine) (events : List Event) (outputs : List Output)
    (after : Option Machine) → PlaysEvents fed (Some m) events [] outputs after
    → Gains [] (play m events).outputs outputs
first_at (Ok u) m events outputs after p = gains_all [] _ _ p.0
first_at (Err stops.NoMemory) m events outputs after p = p.0
first_at (Err stops.Closed) m events outputs after p = absurd p

plays_from : (fed : Result (Unit {0}) Stop) (engine : Option Machine) (m : Machine) (events : List Event)
    (old outputs : List Output) (after : Option Machine) → engine ≡ Some m → old ≡ []
    → PlaysEvents fed engine events old outputs after → PlaysEvents fed (Some m) events [] outputs after
plays_from fed engine m events old outputs after is_engine none p =
    subst (λ e. PlaysEvents fed e events [] outputs after) is_engine
    (subst (λ o. PlaysEvents fed engine events o outputs after) none p)

pub fed_first : (fed : Result (Unit {0}) Stop) (engine : Option Machine) (m : Machine) (events : List Event)
    (old outputs : List Output) (after : Option Machine) → engine ≡ Some m → old ≡ []
    → PlaysEvents fed engine events old outputs after → Gains [] (play m events).outputs outputs
fed_first fed engine m events old outputs after is_engine none p =
    first_at fed m events outputs after (plays_from fed engine m events old outputs after is_engine none p)

-- If no allocation was refused they are all, and the machine is the one that is left.
all_at : (fed : Result (Unit {0}) Stop) (m : Machine) (events : List Event) (outputs : List Output)
    (after : Option Machine) → IsOk fed → PlaysEvents fed (Some m) events [] outputs after
    → (outputs ≡ (play m events).outputs)
    × (after ≡ Some (play m events).after)
all_at (Ok u) m events outputs after ok p = (p.0, p.1)
all_at (Err e) m events outputs after ok p = absurd (true≢false (sym ok))

pub fed_all : (fed : Result (Unit {0}) Stop) (engine : Option Machine) (m : Machine) (events : List Event)
    (old outputs : List Output) (after : Option Machine) → engine ≡ Some m → old ≡ []
    → PlaysEvents fed engine events old outputs after → IsOk fed → (outputs ≡ (play m events).outputs)
    × (after ≡ Some (play m events).after)
fed_all fed engine m events old outputs after is_engine none p ok =
    all_at fed m events outputs after ok (plays_from fed engine m events old outputs after is_engine none p)

-- The lines of all outputs are those of the first ones.
pub all_written : {a b : Option (List ℕ)} (outputs : List Output) → Appends a b (flat_map output_line outputs)
    → WritesFront a b outputs
all_written outputs lines = record { front = outputs; first = gains_all [] outputs outputs refl; written = lines }

pub on_ok_both : {T E P Q R : Type 0} (r : Result T E) → (P → Q → R) → OnOk r P → OnOk r Q → OnOk r R
on_ok_both (Ok x) f p q = f p q
on_ok_both (Err e) f p q = tt

-- The first of the first outputs.
pub first_of_first : {a b : Option (List ℕ)} {outputs all : List Output} → WritesFront a b outputs
    → Gains [] all outputs → WritesFront a b all
first_of_first w f = record {
  front = w.front;
  first = record {
    front = w.first.front;
    rest = w.first.rest ++ f.rest;
    gained = w.first.gained;
    of = f.of ∙ ap (λ o. o ++ f.rest) (sym f.gained ∙ w.first.of) ∙ append_assoc w.first.front w.first.rest f.rest;
  };
  written = w.written;
}

pub keeps_both : (a b c : Option (List ℕ)) → Keeps a b → Keeps b c → Keeps a c
keeps_both None b c p q = tt
keeps_both (Some x) None c p q = absurd p
keeps_both (Some x) (Some y) None p q = absurd q
keeps_both (Some x) (Some y) (Some z) p q = q ∙ p

pub appends_kept : (a b c : Option (List ℕ)) (xs : List ℕ) → Appends a b xs → Keeps b c → Appends a c xs
appends_kept None b c xs p q = tt
appends_kept (Some x) None c xs p q = absurd p
appends_kept (Some x) (Some y) None xs p q = absurd q
appends_kept (Some x) (Some y) (Some z) xs p q = q ∙ p

front_kept : (script : Script) (a b c : Option (List ℕ)) → PrintsFront script a b → Keeps b c → PrintsFront script a c
front_kept script a b c p q =
    elim p as (λ _. PrintsFront script a c) [
      | inl same ↦ inl (keeps_both a b c same q)
      | inr w ↦ inr (record {
        front = w.front;
        first = w.first;
        written = appends_kept a b c (flat_map output_line w.front) w.written q;
      })
    ]

-- ---- a front of the bytes

pub part_kept : (a b c : Option (List ℕ)) {bytes : List ℕ} → WritesPart a b bytes → Keeps b c → WritesPart a c bytes
part_kept a b c p q = record {
  front = p.front;
  rest = p.rest;
  whole = p.whole;
  written = appends_kept a b c p.front p.written q;
}

-- All bytes are a front of more.
pub part_of_more : {a b : Option (List ℕ)} (bytes more : List ℕ) → Appends a b bytes → WritesPart a b (bytes ++ more)
part_of_more bytes more p = record { front = bytes; rest = more; whole = refl; written = p }

pub part_more : {a b : Option (List ℕ)} {bytes : List ℕ} (more : List ℕ) → WritesPart a b bytes
    → WritesPart a b (bytes ++ more)
part_more more p = record {
  front = p.front;
  rest = p.rest ++ more;
  whole = ap (λ l. l ++ more) p.whole ∙ append_assoc p.front p.rest more;
  written = p.written;
}

-- A front of the bytes that come after those that were written.
pub part_after : {a b c : Option (List ℕ)} (before : List ℕ) {bytes : List ℕ} → Appends a b before
    → WritesPart b c bytes → WritesPart a c (before ++ bytes)
part_after {a} {b} {c} before p q = record {
  front = before ++ q.front;
  rest = q.rest;
  whole = ap (λ l. before ++ l) q.whole ∙ sym (append_assoc before q.front q.rest);
  written = appends_both a b c before q.front p q.written;
}

-- The lines before that of an output, its line, and those after it.
pub lines_at : (outputs : List Output) (i : ℕ) (o : Output) → i < length outputs → o ≡ get_or outputs i o
    → flat_map output_line outputs
    ≡ flat_map output_line (take i outputs) ++ (output_line o ++ flat_map output_line (drop (suc i) outputs))
lines_at outputs i o within is =
    let before = flat_map output_line (take i outputs) in
    ap (flat_map output_line) (sym (take-append-drop i outputs))
    ∙ flat_map-append output_line (take i outputs) (drop i outputs)
    ∙ ap (λ l. before ++ flat_map output_line l)
    (drop-cons outputs i o within ∙ ap (λ x. x ∷ drop (suc i) outputs) (sym is))
    ∙ ap (λ l. before ++ l) (flat_map-cons output_line o (drop (suc i) outputs))

-- A front of the lines of the first outputs is one of all that is printed.
pub part_of_first : {a b : Option (List ℕ)} (all outputs : List Output) (end : List ℕ) → Gains [] all outputs
    → WritesPart a b (flat_map output_line outputs) → WritesPart a b (flat_map output_line all ++ end)
part_of_first all outputs end g p =
    let rest = g.rest in
    let lines : flat_map output_line all ≡ flat_map output_line outputs ++ flat_map output_line rest =
    ap (flat_map output_line) (g.of ∙ ap (λ o. o ++ rest) (sym g.gained))
    ∙ flat_map-append output_line outputs rest
    in
    subst (WritesPart _ _) (ap (λ l. l ++ end) (sym lines)) (part_more end (part_more (flat_map output_line rest) p))

front_part : {a b : Option (List ℕ)} (script : Script) → WritesFront a b (replay_of script).outputs
    → WritesPart a b (printed_lines (replay_of script))
front_part script w =
    let all = replay_of script in
    let lines = flat_map output_line w.front in
    part_of_first all.outputs w.front (end_line_of all.after) w.first
    (subst (WritesPart _ _) (append-nil lines) (part_of_more lines [] w.written))

-- What was printed stays.
pub ends_kept : (ending : Ending) (text : List ℕ) (a b c : Option (List ℕ)) → EndsReplay ending text a b → Keeps b c
    → EndsReplay ending text a c
ends_kept Done text a b c p q = (p.0, p.1, appends_kept a b c (printed_lines (replay_of p.0)) p.2 q)
ends_kept (BadLine number) text a b c p q = (p.0, keeps_both a b c p.1 q)
ends_kept Failed text a b c p q =
    elim p as (λ _. EndsReplay Failed text a c) [
      | inl same ↦ inl (keeps_both a b c same q)
      | inr found ↦ inr (found.0, found.1, part_kept a b c found.2 q)
    ]
ends_kept NoMemory text a b c p q =
    elim p as (λ _. EndsReplay NoMemory text a c) [
      | inl same ↦ inl (keeps_both a b c same q)
      | inr found ↦ inr (found.0, found.1, front_kept found.0 a b c found.2 q)
    ]
ends_kept NotClean text a b c p q = p
ends_kept NoNode text a b c p q = p

-- A replay whose last flush failed.
pub flush_failed : (ending : Ending) (text : List ℕ) (a b c : Option (List ℕ)) → EndsReplay ending text a b → Keeps b c
    → EndsReplay Failed text a c
flush_failed Done text a b c p q =
    let lines = printed_lines (replay_of p.0) in
    inr (p.0, p.1, subst (WritesPart a c) (append-nil lines) (part_of_more lines [] (appends_kept a b c lines p.2 q)))
flush_failed (BadLine number) text a b c p q = inl (keeps_both a b c p.1 q)
flush_failed Failed text a b c p q = ends_kept Failed text a b c p q
flush_failed NoMemory text a b c p q =
    elim p as (λ _. EndsReplay Failed text a c) [
      | inl same ↦ inl (keeps_both a b c same q)
      | inr found ↦
          elim found.2 as (λ _. EndsReplay Failed text a c) [
            | inl same ↦ inl (keeps_both a b c same q)
            | inr w ↦ inr (found.0, found.1, part_kept a b c (front_part found.0 w) q)
          ]
    ]
flush_failed NotClean text a b c p q = absurd p
flush_failed NoNode text a b c p q = absurd p

pub if_some : {A : Type 0} (o : Option A) (P Q : A → Type 0) → ((x : A) → P x → Q x) → IfSome o P → IfSome o Q
if_some None P Q f h = tt
if_some (Some x) P Q f h = f x h
