-- What is read in parts is what the relation says, and so is what is refused.
use Rattle.std.proofs.Common.{◌≡◌, ℕ, zero, suc, ◌<◌, Bool, true, false, List, [], ◌∷◌, ◌++◌, length, Result, Ok, Err, refl, sym, ap, subst, ◌∙◌, append_assoc, arith, ◌⊎◌, inl, inr}
use Rattle.values.specs.declared.fault.Fault.{Fault}
use Rattle.jute.specs.Format.{Format, ◌>>=◌}
use Rattle.jute.specs.Laws.{IsBytes, IsSound}
use Rattle.jute.specs.Relation.{SpellsItems, AreLawful}
use Rattle.jute.specs.Stream.{PhasedStream, IsStreamable, IsStream}
use Rattle.jute.specs.Loading.{LoadRules, unless_last, load_from, made_of, EndsAt, EndsOnce, NoneIsLast, IsLoaded, SpellsNext, IsRefused, AreSound}
use Rattle.jute.proofs.Steps.{bind_ok, bind_err, ok_is, not_refused}
use Rattle.jute.proofs.Streaming.{shorter_rest}
use Rattle.jute.proofs.Loading.{load_read, load_refused}

-- ---- one format

streamed_in : {A : Type 0} (f : Format A) → IsSound f → IsStreamable f
streamed_in f s = record { pieced = s.pieced; some = s.some }

pub sound_streamed : {S A : Type 0} (stream : PhasedStream S A) → AreSound stream → IsStream stream
sound_streamed stream s = record { streamed = λ phase. streamed_in (stream.format phase) (s.sound phase) }

pub sound_lawful : {S A : Type 0} (stream : PhasedStream S A) → AreSound stream → AreLawful stream
sound_lawful stream s = record { lawful = λ phase. (s.sound phase).lawful }

-- The value that was read is spelled at the front.
record Front {A : Type 0} (f : Format A) (bytes : List ℕ) (v : A) (rest : List ℕ) : Type 0 where
  text : List ℕ
  parts : bytes ≡ text ++ rest
  spells : f.Spells v text
  rest_fits : IsBytes rest

front_in : {A : Type 0} (f : Format A) → IsSound f → (bytes rest : List ℕ) (v : A) → IsBytes bytes
    → f.read bytes ≡ Ok (v, rest) → Front f bytes v rest
front_in f s bytes rest v fits e =
    let t = s.lawful.takes bytes v rest fits e in
    record { text = t.text; parts = t.parts; spells = t.spells; rest_fits = t.rest_fits }

again_in : {A : Type 0} (f : Format A) → IsSound f → (v : A) (text rest : List ℕ) → f.Spells v text
    → f.read (text ++ rest) ≡ Ok (v, rest)
again_in f s v text rest h = s.lawful.again v text rest h

names_in : {A : Type 0} (f : Format A) → IsSound f → (bytes : List ℕ) (e : Fault) → IsBytes bytes
    → f.read bytes ≡ Err e → f.against e bytes
names_in f s bytes e fits h = s.named.names bytes e fits h

answers_in : {A : Type 0} (f : Format A) → IsSound f → (bytes : List ℕ) (e : Fault) → f.against e bytes
    → f.read bytes ≡ Err e
answers_in f s bytes e h = s.named.answers bytes e h

-- ---- bytes, and those that follow

module _ {S A : Type 0} (stream : PhasedStream S A) where
  pub stand_on : (vs : List A) (phase end : S) (text rest : List ℕ) → SpellsItems stream vs phase text end []
      → SpellsItems stream vs phase (text ++ rest) end rest
  stand_on [] phase end text rest h = (h.0, ap (λ (t : List ℕ). t ++ rest) h.1)
  stand_on (v ∷ vs) phase end text rest h = (
    h.0,
    h.1 ++ rest,
    ap (λ (t : List ℕ). t ++ rest) h.2 ∙ append_assoc h.0 h.1 rest,
    h.3,
    stand_on vs (stream.after phase v) end h.1 rest h.4,
  )

  pub stand_front : (vs : List A) (phase end : S) (bytes rest : List ℕ) → SpellsItems stream vs phase bytes end rest
      → (text : List ℕ) × (bytes ≡ text ++ rest) × SpellsItems stream vs phase text end []
  stand_front [] phase end bytes rest h = ([], h.1, (h.0, refl))
  stand_front (v ∷ vs) phase end bytes rest h =
      let others = stand_front vs (stream.after phase v) end h.1 rest h.4 in (
        h.0 ++ others.0,
        h.2 ∙ ap (λ (t : List ℕ). h.0 ++ t) others.1 ∙ sym (append_assoc h.0 others.0 rest),
        (h.0, others.0, refl, h.3, others.2),
      )

module _ {S A L : Type 0} (load : LoadRules S A L) (sound : AreSound load.stream) where
  abbrev streamed : IsStream load.stream
  streamed = sound_streamed load.stream sound

  -- The result for the values after this one.
  abbrev left : S → A → L → List ℕ → Result (L × List ℕ) Fault
  left phase v next rest = unless_last (load.is_last v) next rest (load_from load (load.stream.after phase v) next rest)

  read_of : (phase : S) (v : A) (bytes text rest : List ℕ) → bytes ≡ text ++ rest
      → (load.stream.format phase).Spells v text → (load.stream.format phase).read bytes ≡ Ok (v, rest)
  read_of phase v bytes text rest is spells =
      ap (load.stream.format phase).read is
      ∙ again_in (load.stream.format phase) (sound.sound phase) v text rest spells

  -- One value is spelled at the front and taken.
  step_on : (phase : S) (v : A) (old next : L) (bytes text rest : List ℕ) → bytes ≡ text ++ rest
      → (load.stream.format phase).Spells v text → load.takes old v ≡ Ok next
      → load_from load phase old bytes ≡ left phase v next rest
  step_on phase v old next bytes text rest is spells took =
      load_read load streamed phase old bytes rest v (read_of phase v bytes text rest is spells)
      ∙ ap (λ (q : Result L Fault). q >>= λ n. left phase v n rest) took

  -- ---- the values in the bytes are loaded

  again_from : (vs : List A) (phase end : S) (old new : L) (bytes rest : List ℕ)
      → SpellsItems load.stream vs phase bytes end rest → EndsOnce load vs → made_of load old vs ≡ Ok new
      → load_from load phase old bytes ≡ Ok (new, rest)
  again_from [] phase end old new bytes rest h ends e = absurd ends
  again_from (v ∷ vs) phase end old new bytes rest h ends e =
      step_on phase v old step.0 bytes h.0 h.1 h.2 h.3 step.1
      ∙ by (λ k f. again_from vs (load.stream.after phase v) end step.0 new h.1 rest h.4 k f) (load.is_last v) ends
    where
      step : (next : L) × (load.takes old v ≡ Ok next) × (made_of load next vs ≡ Ok new)
      step = bind_ok (load.takes old v) (λ next. made_of load next vs) new e

      -- Nothing follows the last value.
      none_behind : (ws : List A) → ws ≡ [] → SpellsItems load.stream ws (load.stream.after phase v) h.1 end rest
          → made_of load step.0 ws ≡ Ok new → (let r : Result (L × List ℕ) Fault = Ok (step.0, h.1) in r
          ≡ Ok (new, rest))
      none_behind [] is st f = let same : step.0 ≡ new = ok_is step.0 new f in (λ i. Ok (same i, st.1 i))
      none_behind (w ∷ ws) is st f = absurd cc

      by : (EndsOnce load vs → made_of load step.0 vs ≡ Ok new
          → load_from load (load.stream.after phase v) step.0 h.1 ≡ Ok (new, rest))
          → (last : Bool) → EndsAt last vs (EndsOnce load vs)
          → unless_last last step.0 h.1 (load_from load (load.stream.after phase v) step.0 h.1) ≡ Ok (new, rest)
      by others true ended = none_behind vs ended h.4 step.2
      by others false ends_later = others ends_later step.2

  pub loaded_again : (phase : S) (old new : L) (bytes rest : List ℕ) → IsLoaded load phase old bytes new rest
      → load_from load phase old bytes ≡ Ok (new, rest)
  loaded_again phase old new bytes rest l = again_from l.found phase l.end old new bytes rest l.stand l.ends l.made

  -- ---- the values that are loaded are in the bytes

  abbrev Loaded : S → L → List ℕ → L → List ℕ → Type 0
  Loaded phase old bytes new rest = IsLoaded load phase old bytes new rest × IsBytes rest

  loaded_step : (phase : S) (old new : L) (bytes rest : List ℕ) (r : Result (A × List ℕ) Fault) → IsBytes bytes
      → (load.stream.format phase).read bytes ≡ r → load_from load phase old bytes ≡ Ok (new, rest)
      → ((p : S) (next : L) (b : List ℕ) → length b < length bytes → IsBytes b
      → load_from load p next b ≡ Ok (new, rest) → Loaded p next b new rest)
      → Loaded phase old bytes new rest
  loaded_step phase old new bytes rest (Err e) fits h loads others =
      absurd (not_refused (new, rest) e (sym loads ∙ load_refused load streamed phase old bytes e h))
  loaded_step phase old new bytes rest (Ok x) fits h loads others = by (load.is_last x.0) refl behind_it.2
    where
      front : Front (load.stream.format phase) bytes x.0 x.1
      front = front_in (load.stream.format phase) (sound.sound phase) bytes x.1 x.0 fits h

      behind_it : (next : L) × (load.takes old x.0 ≡ Ok next) × (left phase x.0 next x.1 ≡ Ok (new, rest))
      behind_it = bind_ok (load.takes old x.0) (λ next. left phase x.0 next x.1) (new, rest)
          (sym (load_read load streamed phase old bytes x.1 x.0 h) ∙ loads)

      by : (last : Bool) → load.is_last x.0 ≡ last
          → unless_last (load.is_last x.0) behind_it.0 x.1 (load_from load
          (load.stream.after phase x.0) behind_it.0 x.1)
          ≡ Ok (new, rest) → Loaded phase old bytes new rest
      by true l k =
          let both : ◌≡◌ {A = L × List ℕ} (behind_it.0, x.1) (new, rest) =
          ok_is (behind_it.0, x.1) (new, rest) (subst (λ b. unless_last b behind_it.0 x.1
          (load_from load (load.stream.after phase x.0) behind_it.0 x.1) ≡ Ok (new, rest)) l k) in
          let made : behind_it.0 ≡ new = ap (λ (y : L × List ℕ). y.0) both in
          let same : x.1 ≡ rest = ap (λ (y : L × List ℕ). y.1) both in (
            record {
              found = x.0 ∷ [];
              end = load.stream.after phase x.0;
              stand = (front.text, x.1, front.parts, front.spells, (refl, same));
              ends = subst (λ b. EndsAt {A = A} b [] (EndsOnce load [])) (sym l) refl;
              made = ap (λ (q : Result L Fault). q >>= λ next. made_of load next []) behind_it.1 ∙ ap (λ u. Ok u) made;
            },
            subst IsBytes same front.rest_fits,
          )
      by false l k =
          let later = others (load.stream.after phase x.0) behind_it.0 x.1
          (shorter_rest load.stream streamed phase bytes x.1 x.0 h) front.rest_fits
          (subst (λ b. unless_last b behind_it.0 x.1 (load_from load (load.stream.after phase x.0) behind_it.0 x.1)
          ≡ Ok (new, rest)) l k) in (
            record {
              found = x.0 ∷ later.0.found;
              end = later.0.end;
              stand = (front.text, x.1, front.parts, front.spells, later.0.stand);
              ends = subst (λ b. EndsAt {A = A} b later.0.found (EndsOnce load later.0.found)) (sym l) later.0.ends;
              made = ap (λ (q : Result L Fault). q >>= λ next. made_of load next later.0.found) behind_it.1
                  ∙ later.0.made;
            },
            later.1,
          )

  loaded_within : (n : ℕ) (phase : S) (old new : L) (bytes rest : List ℕ) → length bytes < n → IsBytes bytes
      → load_from load phase old bytes ≡ Ok (new, rest) → Loaded phase old bytes new rest
  loaded_within zero phase old new bytes rest lt fits loads = absurd (omega (arith, lt))
  loaded_within (suc n) phase old new bytes rest lt fits loads =
      loaded_step phase old new bytes rest ((load.stream.format phase).read bytes) fits refl loads
      (λ p next b shorter fit k. loaded_within n p next new b rest (omega (arith, shorter, lt)) fit k)

  pub load_takes : (phase : S) (old new : L) (bytes rest : List ℕ) → IsBytes bytes
      → load_from load phase old bytes ≡ Ok (new, rest) → Loaded phase old bytes new rest
  load_takes phase old new bytes rest fits loads =
      loaded_within (suc (length bytes)) phase old new bytes rest (omega arith) fits loads

  -- ---- refusals

  refused_from : (vs : List A) (phase end : S) (old so_far : L) (bytes rest : List ℕ)
      → SpellsItems load.stream vs phase bytes end rest → NoneIsLast load vs → made_of load old vs ≡ Ok so_far
      → load_from load phase old bytes ≡ load_from load end so_far rest
  refused_from [] phase end old so_far bytes rest h none e =
      let same : old ≡ so_far = ok_is old so_far e in
      λ i. load_from load (h.0 i) (same i) (h.1 i)
  refused_from (v ∷ vs) phase end old so_far bytes rest h none e =
      let step = bind_ok (load.takes old v) (λ next. made_of load next vs) so_far e in
      step_on phase v old step.0 bytes h.0 h.1 h.2 h.3 step.1
      ∙ ap (λ b. unless_last b step.0 h.1 (load_from load (load.stream.after phase v) step.0 h.1)) none.0
      ∙ refused_from vs (load.stream.after phase v) end step.0 so_far h.1 rest h.4 none.1 step.2

  pub load_answers : (phase : S) (old : L) (bytes : List ℕ) (e : Fault) → IsRefused load phase old bytes e
      → load_from load phase old bytes ≡ Err e
  load_answers phase old bytes e r =
      refused_from r.found phase r.end old r.so_far bytes r.rest r.stand r.none_last r.made
      ∙ elim r.next [
        | inl field ↦
            load_refused load streamed r.end r.so_far r.rest e
            (answers_in (load.stream.format r.end) (sound.sound r.end) r.rest e field)
        | inr value ↦
            load_read load streamed r.end r.so_far r.rest value.2 value.0
            (read_of r.end value.0 r.rest value.1 value.2 value.3 value.4)
            ∙ ap (λ (q : Result L Fault). q >>= λ n. left r.end value.0 n value.2) value.5
      ]

  at_once : (phase : S) (old : L) (bytes : List ℕ) (e : Fault)
      → (load.stream.format phase).against e bytes ⊎ SpellsNext (load.stream.format phase) (λ v. load.takes old v
      ≡ Err e) bytes
      → IsRefused load phase old bytes e
  at_once phase old bytes e h =
      record {
        found = [];
        end = phase;
        rest = bytes;
        stand =
            (refl, refl);
        none_last = tt;
        so_far = old;
        made = refl;
        next = h;
      }

  later_refused : (phase : S) (old next : L) (bytes rest : List ℕ) (v : A) (e : Fault)
      → Front (load.stream.format phase) bytes v rest → load.takes old v ≡ Ok next → load.is_last v ≡ false
      → IsRefused load (load.stream.after phase v) next rest e → IsRefused load phase old bytes e
  later_refused phase old next bytes rest v e front took going r = record {
    found = v ∷ r.found;
    end = r.end;
    rest = r.rest;
    stand = (front.text, rest, front.parts, front.spells, r.stand);
    none_last = (going, r.none_last);
    so_far = r.so_far;
    made = ap (λ (q : Result L Fault). q >>= λ n. made_of load n r.found) took ∙ r.made;
    next = r.next;
  }

  refused_step : (phase : S) (old : L) (bytes : List ℕ) (e : Fault) (r : Result (A × List ℕ) Fault) → IsBytes bytes
      → (load.stream.format phase).read bytes ≡ r → load_from load phase old bytes ≡ Err e
      → ((p : S) (next : L) (b : List ℕ) → length b < length bytes → IsBytes b → load_from load p next b ≡ Err e
      → IsRefused load p next b e)
      → IsRefused load phase old bytes e
  refused_step phase old bytes e (Err d) fits h loads others =
      let same : (let q : Result (L × List ℕ) Fault = Err d in q ≡ Err e) =
      sym (load_refused load streamed phase old bytes d h) ∙ loads in
      let is : d ≡ e = cc in
      at_once phase old bytes e (inl (names_in (load.stream.format phase) (sound.sound phase) bytes e fits
      (h ∙ ap (λ x. Err x) is)))
  refused_step phase old bytes e (Ok x) fits h loads others =
      elim (bind_err (load.takes old x.0) (λ next. left phase x.0 next x.1) e
      (sym (load_read load streamed phase old bytes x.1 x.0 h) ∙ loads)) [
        | inl refuses ↦ at_once phase old bytes e (inr (x.0, front.text, x.1, front.parts, front.spells, refuses))
        | inr took ↦ goes_on took.0 took.1 (load.is_last x.0) refl took.2
      ]
    where
      front : Front (load.stream.format phase) bytes x.0 x.1
      front = front_in (load.stream.format phase) (sound.sound phase) bytes x.1 x.0 fits h

      goes_on : (next : L) → load.takes old x.0 ≡ Ok next → (last : Bool) → load.is_last x.0 ≡ last
          → left phase x.0 next x.1 ≡ Err e → IsRefused load phase old bytes e
      goes_on next took true l k =
          absurd (not_refused (next, x.1) e (subst (λ b. unless_last b next x.1
          (load_from load (load.stream.after phase x.0) next x.1) ≡ Err e) l k))
      goes_on next took false l k =
          later_refused phase old next bytes x.1 x.0 e front took l
          (others (load.stream.after phase x.0) next x.1 (shorter_rest load.stream streamed phase bytes x.1 x.0 h)
          front.rest_fits (subst (λ b. unless_last b next x.1
          (load_from load (load.stream.after phase x.0) next x.1) ≡ Err e) l k))

  refused_within : (n : ℕ) (phase : S) (old : L) (bytes : List ℕ) (e : Fault) → length bytes < n → IsBytes bytes
      → load_from load phase old bytes ≡ Err e → IsRefused load phase old bytes e
  refused_within zero phase old bytes e lt fits loads = absurd (omega (arith, lt))
  refused_within (suc n) phase old bytes e lt fits loads =
      refused_step phase old bytes e ((load.stream.format phase).read bytes) fits refl loads
      (λ p next b shorter fit k. refused_within n p next b e (omega (arith, shorter, lt)) fit k)

  pub load_names : (phase : S) (old : L) (bytes : List ℕ) (e : Fault) → IsBytes bytes
      → load_from load phase old bytes ≡ Err e → IsRefused load phase old bytes e
  load_names phase old bytes e fits loads =
      refused_within (suc (length bytes)) phase old bytes e (omega arith) fits loads
