-- The end of a session is sound.
use Rattle.std.proofs.Common.{◌≡◌, ℕ, suc, ◌+◌, ◌≤◌, ◌==◌, Bool, true, false, ◌||◌, ◌&&◌, List, [], ◌∷◌, ◌++◌, length, Option, Some, None, Result, Ok, Err, refl, sym, ap, subst, ◌∙◌, arith, inl, inr, if◌then◌else◌}
use Rattle.std.specs.Prelude.{IsTrue, pos}
use Rattle.std.specs.Int.{w32}
use Rattle.std.specs.List.{AllByRecursion, flat_map}
use Rattle.std.proofs.lemmas.List.{append-nil, length-append}
use Rattle.values.specs.declared.fault.Fault.{Fault}
use Rattle.jute.specs.Format.{◌>>=◌, SpellsEach, text_format, vector_of, count_limit, number_bytes}
use Rattle.jute.specs.Laws.{IsBytes, TakesSpelling, IsSound, IsSoundAtEnd}
use Rattle.jute.proofs.Public.{ok_is, not_refused, text_sound, vector_sound}
use Rattle.paths_and_acls.specs.Paths.{is_child_path}
use Rattle.paths_and_acls.specs.Fields.{child_path}
use Rattle.txn_codec.specs.Endings.{digest_length, lists_nothing, starts_as_digest, Texts, listed_texts, listed_path, listed_paths, with_paths, closing_bytes, closing_format, unlisted_format, closing_if}
use Rattle.txn_codec.proofs.Endings.{trailer_sound, ended, number_long}
use Rattle.txn_codec.proofs.Spelled.{tested_is, path_sound}

abbrev Paths : Type 0
Paths = List (List ℕ)

child_sound : IsSound child_path
child_sound = path_sound is_child_path

paths_sound : IsSound (vector_of child_path)
paths_sound = vector_sound child_path child_sound

texts_at_end : IsSoundAtEnd listed_texts
texts_at_end = trailer_sound (vector_of text_format) (vector_sound text_format text_sound)

-- ---- what is read

found : (r : Result (Texts × List ℕ) Fault) (v : Paths) (rest : List ℕ) → (r >>= with_paths) ≡ Ok (v, rest)
    → (a : Texts) × (v ≡ listed_paths a) × (r ≡ Ok (a, rest))
found (Ok a) v rest e =
    let is = ok_is (listed_paths a.0, a.1) (v, rest) e in (
      a.0,
      sym (ap (λ (y : Paths × List ℕ). y.0) is),
      ap (λ (y : Paths × List ℕ). let r : Result (Texts × List ℕ) Fault = Ok (a.0, y.1) in r) is,
    )
found (Err e) v rest h = absurd cc

unfound : (r : Result (Texts × List ℕ) Fault) (e : Fault) → (r >>= with_paths) ≡ Err e → r ≡ Err e
unfound (Ok a) e h = absurd (not_refused (listed_paths a.0, a.1) e h)
unfound (Err d) e h = cc

abbrev nothing_listed : Paths × List ℕ
nothing_listed = ([], [])

abbrev closing_by : Bool → List ℕ → Result (Paths × List ℕ) Fault
closing_by true bytes = Ok nothing_listed
closing_by false bytes = listed_texts.read bytes >>= with_paths

closing_takes : (nothing : Bool) (bytes : List ℕ) (v : Paths) (rest : List ℕ) → lists_nothing bytes ≡ nothing
    → IsBytes bytes → closing_by nothing bytes ≡ Ok (v, rest) → TakesSpelling closing_format bytes v rest
closing_takes true bytes v rest is fits e =
    let made : TakesSpelling closing_format bytes [] [] =
    record { text = bytes; parts = sym (append-nil bytes); spells = inl (is, refl); rest_fits = λ i. omega arith } in
    subst (λ (y : Paths × List ℕ). TakesSpelling closing_format bytes y.0 y.1) (ok_is nothing_listed (v, rest) e) made
closing_takes false bytes v rest is fits e =
    let p = found (listed_texts.read bytes) v rest e in
    let t = texts_at_end.takes bytes p.0 rest fits p.2 in
    let whole : bytes ≡ t.text =
    t.parts ∙ ap (λ (r : List ℕ). t.text ++ r) (ended (vector_of text_format) bytes p.0 rest p.2)
    ∙ append-nil t.text in
    record {
      text = t.text;
      parts = t.parts;
      spells = inr (p.0, subst (λ (b : List ℕ). lists_nothing b ≡ false) whole is, p.1, t.spells);
      rest_fits = t.rest_fits;
    }

closing_again : (nothing : Bool) (bytes : List ℕ) (v : Paths) → lists_nothing bytes ≡ nothing
    → closing_format.Spells v bytes → closing_by nothing bytes ≡ Ok (v, [])
closing_again true bytes v is (inl s) =
    ap (λ (x : Paths). let r : Result (Paths × List ℕ) Fault = Ok (x, []) in r) (sym s.1)
closing_again true bytes v is (inr s) = absurd cc
closing_again false bytes v is (inl s) = absurd cc
closing_again false bytes v is (inr s) =
    rw (texts_at_end.again s.0 bytes s.3)
    (ap (λ (x : Paths). let r : Result (Paths × List ℕ) Fault = Ok (x, []) in r) (sym s.2))

closing_names : (nothing : Bool) (bytes : List ℕ) (e : Fault) → lists_nothing bytes ≡ nothing → IsBytes bytes
    → closing_by nothing bytes ≡ Err e → closing_format.against e bytes
closing_names true bytes e is fits h = absurd (not_refused nothing_listed e h)
closing_names false bytes e is fits h =
    (is, texts_at_end.named.names bytes e fits (unfound (listed_texts.read bytes) e h))

closing_is : (nothing : Bool) (bytes : List ℕ) → lists_nothing bytes ≡ nothing
    → closing_format.read bytes ≡ closing_by nothing bytes
closing_is true bytes is = rw is refl
closing_is false bytes is = rw is refl

-- ---- what is written

-- Texts that are paths are these paths.
texts_of : (vs : Paths) (x : List ℕ) → SpellsEach child_path.Spells vs x
    → (texts : List (Option (List ℕ))) × (vs ≡ flat_map listed_path texts) × (length texts ≡ length vs)
    × SpellsEach text_format.Spells texts x
texts_of [] x s = ([], refl, refl, s)
texts_of (v ∷ vs) x s =
    let t = tested_is is_child_path s.3.0 v s.3.1 in
    let rest = texts_of vs s.1 s.4 in (
      s.3.0 ∷ rest.0,
      ap (λ (l : Paths). v ∷ l) rest.1
          ∙ ap (λ (b : Bool). (if b then v ∷ [] else []) ++ flat_map listed_path rest.0) (sym t.0)
          ∙ ap (λ (o : Option (List ℕ)). listed_path o ++ flat_map listed_path rest.0) (sym t.1),
      ap (λ (n : ℕ). suc n) rest.2,
      (s.0, s.1, s.2, s.3.2, rest.3),
    )

has_slash : (p : List ℕ) → is_child_path p ≡ true → 1 ≤ length p
has_slash [] is = absurd cc
has_slash (b ∷ names) is = omega arith

child_long : (p : List ℕ) → child_path.Fits p → 5 ≤ length (child_path.written p)
child_long p h =
    omega (
      arith,
      has_slash p (tested_is is_child_path (Some p) p h.0).0,
      length-append (number_bytes w32 (pos (length p))) p,
      number_long (pos (length p)),
    )

longer : (n k : ℕ) → k + 1 ≤ n → (n == k) ≡ false
longer n k h = grind arith

or_false : (a b : Bool) → a ≡ false → b ≡ false → (a || b) ≡ false
or_false a b h k = rw (h, k) refl

and_first : (a b : Bool) → a ≡ false → (a && b) ≡ false
and_first a b h = rw h refl

and_second : (a b : Bool) → b ≡ false → (a && b) ≡ false
and_second true b h = h
and_second false b h = refl

one_listed : (x : List ℕ) → starts_as_digest (number_bytes w32 (pos 1) ++ x) ≡ false
unfolding number_bytes
one_listed x = refl

-- A list that is written isn't taken for a digest.
not_digest : (p : List ℕ) (ps : Paths) → (vector_of child_path).Fits (Some (p ∷ ps))
    → lists_nothing (closing_bytes (p ∷ ps)) ≡ false
not_digest p [] h =
    let rest : List ℕ = flat_map child_path.written (p ∷ []) in
    or_false _ _
    (longer (length (closing_bytes (p ∷ []))) 0 (omega (
      arith,
      length-append (number_bytes w32 (pos 1)) rest,
      number_long (pos 1),
    )))
    (and_second _ _ (one_listed rest))
not_digest p (q ∷ qs) h =
    let front : List ℕ = number_bytes w32 (pos (length (p ∷ q ∷ qs))) in
    let last : List ℕ = flat_map child_path.written qs in
    let long : 14 ≤ length (closing_bytes (p ∷ q ∷ qs)) =
    omega (
      arith,
      length-append front (child_path.written p ++ (child_path.written q ++ last)),
      length-append (child_path.written p) (child_path.written q ++ last),
      length-append (child_path.written q) last,
      number_long (pos (length (p ∷ q ∷ qs))),
      child_long p h.1.0,
      child_long q h.1.1.0,
    ) in
    or_false _ _ (longer (length (closing_bytes (p ∷ q ∷ qs))) 0 (omega (arith, long)))
    (and_first _ _ (longer (length (closing_bytes (p ∷ q ∷ qs))) digest_length (omega (arith, long))))

closing_writes : (v : Paths) → closing_format.Fits v → closing_format.Spells v (closing_bytes v)
closing_writes [] h = inl (refl, refl)
closing_writes (p ∷ ps) h =
    let s = paths_sound.lawful.writes (Some (p ∷ ps)) h in
    let t = texts_of (p ∷ ps) s.1 s.3 in
    inr (
      Some t.0,
      not_digest p ps h,
      t.1,
      (
        closing_bytes (p ∷ ps),
        [],
        sym (append-nil (closing_bytes (p ∷ ps))),
        (
          subst (λ (n : ℕ). n ≤ count_limit) (sym t.2) s.0,
          s.1,
          subst (λ (n : ℕ). closing_bytes (p ∷ ps) ≡ number_bytes w32 (pos n) ++ s.1) (sym t.2) s.2,
          t.3,
        ),
        refl,
      ),
    )

-- ---- what is spelled is within the limits

kept_fits : (o : Option (List ℕ)) → text_format.Fits o → AllByRecursion child_path.Fits (listed_path o)
    × (length (listed_path o) ≤ 1)
kept_fits None h = (tt, omega arith)
kept_fits (Some p) h = by (is_child_path p) refl
  where
    by : (b : Bool) → is_child_path p ≡ b
        → AllByRecursion child_path.Fits (if b then p ∷ [] else []) × (length (if b then p ∷ [] else []) ≤ 1)
    by true is = (((rw is refl, h), tt), omega arith)
    by false is = (tt, omega arith)

all_append : {A : Type 0} (P : A → Type 0) (xs ys : List A) → AllByRecursion P xs → AllByRecursion P ys
    → AllByRecursion P (xs ++ ys)
all_append P [] ys h k = k
all_append P (x ∷ xs) ys h k = (h.0, all_append P xs ys h.1 k)

each_fits : (texts : List (Option (List ℕ))) → AllByRecursion text_format.Fits texts
    → AllByRecursion child_path.Fits (flat_map listed_path texts)
    × (length (flat_map listed_path texts) ≤ length texts)
each_fits [] h = (tt, omega arith)
each_fits (o ∷ os) h =
    let first = kept_fits o h.0 in
    let rest = each_fits os h.1 in (
      all_append child_path.Fits (listed_path o) (flat_map listed_path os) first.0 rest.0,
      omega (arith, first.1, rest.1, length-append (listed_path o) (flat_map listed_path os)),
    )

texts_fit : (texts : Texts) → (vector_of text_format).Fits texts
    → (vector_of child_path).Fits (Some (listed_paths texts))
texts_fit None h = (omega arith, tt)
texts_fit (Some texts) h =
    let each = each_fits texts h.1 in
    let le : length texts ≤ count_limit = h.0 in (omega (arith, each.1), each.0)

closing_fits : (v : Paths) (text : List ℕ) → closing_format.Spells v text → closing_format.Fits v
closing_fits v text (inl s) =
    subst (λ (x : Paths). (vector_of child_path).Fits (Some x)) (sym s.1) (omega arith, tt)
closing_fits v text (inr s) =
    subst (λ (x : Paths). (vector_of child_path).Fits (Some x)) (sym s.2)
    (texts_fit s.0 (texts_at_end.limited s.0 text s.3))

pub closing_at_end : IsSoundAtEnd closing_format
closing_at_end = record {
  takes = λ bytes v rest fits e. closing_takes (lists_nothing bytes) bytes v rest refl fits
      (sym (closing_is (lists_nothing bytes) bytes refl) ∙ e);
  again = λ v text s. closing_is (lists_nothing text) text refl ∙ closing_again (lists_nothing text) text v refl s;
  writes = closing_writes;
  named = record {
    names = λ bytes e fits h. closing_names (lists_nothing bytes) bytes e refl fits
        (sym (closing_is (lists_nothing bytes) bytes refl) ∙ h);
    answers = λ bytes e s. rw (s.0, texts_at_end.named.answers bytes e s.1) refl;
  };
  limited = closing_fits;
  writable = λ v h. paths_sound.writable (Some v) h;
}

-- ---- where no paths are listed

unlisted_at_end : IsSoundAtEnd unlisted_format
unlisted_at_end = record {
  takes = λ bytes v rest fits e. (
      let made : TakesSpelling unlisted_format bytes [] bytes =
      record { text = []; parts = refl; spells = (refl, refl); rest_fits = fits } in
      subst (λ (y : Paths × List ℕ). TakesSpelling unlisted_format bytes y.0 y.1) (ok_is ([], bytes) (v, rest) e) made
      );
  again = λ v text s. (
      λ i. let r : Result (Paths × List ℕ) Fault = Ok (sym s.0 i, s.1 i) in r
      );
  writes = λ v h. (h, ap closing_bytes h);
  named = record { names = λ bytes e fits h. absurd cc; answers = λ bytes e s. absurd s };
  limited = λ v text s. s.0;
  writable = λ v h. subst (λ (x : Paths). (vector_of child_path).Writable (Some x)) (sym h)
      (paths_sound.writable (Some []) (omega arith, tt));
}

pub closing_if_sound : (are_listed : Bool) → IsSoundAtEnd (closing_if are_listed)
closing_if_sound false = unlisted_at_end
closing_if_sound true = closing_at_end

-- ---- the paths are those of nodes that have a parent

abbrev IsChild : List ℕ → Type 0
IsChild path = IsTrue (is_child_path path)

fitting_children : (v : Paths) → AllByRecursion child_path.Fits v → AllByRecursion IsChild v
fitting_children [] h = tt
fitting_children (p ∷ ps) h = ((tested_is is_child_path (Some p) p h.0.0).0, fitting_children ps h.1)

pub closing_children : (are_listed : Bool) (v : Paths) (text : List ℕ) → (closing_if are_listed).Spells v text
    → AllByRecursion IsChild v
closing_children true v text s = fitting_children v (closing_fits v text s).1
closing_children false v text s = subst (AllByRecursion IsChild) (sym s.0) tt
