-- A script, read line by line.
use Rattle.std.proofs.Common.{◌≡◌, ℕ, ◌+◌, Bool, true, false, List, [], ◌∷◌, Option, None, Some, Result, Err, cond, length, take, drop, ◌≤◌, ltb-true, ltb-false, length-drop, refl, ap, sym, ◌∙◌, arith}
use Rattle.std.specs.Prelude.{◌==◌, nat_lt}
use Rattle.std.specs.Option.{option_map}
use Rattle.std.specs.List.{before_first, position_or_len}
use Rattle.std.proofs.lemmas.List.Splits.{slice_split_first, slice_split_none}
use Rattle.std.proofs.lemmas.List.Sums.{fails_before_first}
use Rattle.std.proofs.lemmas.Grind.{common_steps}
use Rattle.texts.specs.Cut.{cut_at}
use Rattle.replay_script.specs.Script.{PartialScript, lines_of, with_text, or_bad, script_after}
use Rattle.replay_script.specs.declared.script.Script.{Script}
use Rattle.texts.specs.declared.cut.Cut.{Cut}
use Rattle.replay_script.specs.declared.parser.ScriptError.{ScriptError}
use Rattle.replay_script.specs.declared.parser.ScriptError.TheVariants.{BadLine}

take_whole : (xs : List ℕ) (n : ℕ) → length xs ≤ n → take n xs ≡ xs
take_whole xs n h = grind (arith, common_steps)

-- The lines after a cut.
abbrev pub lines_behind : Option (List ℕ) → List (List ℕ)
lines_behind None = []
lines_behind (Some text) = lines_of text

cut_line : (text : List ℕ) (found : Bool) → nat_lt (position_or_len (λ b. b == 10) text) (length text) ≡ found
    → lines_of text ≡ before_first (λ b. b == 10) text ∷ lines_behind
    (option_map (λ i. drop (i + 1) text) (cond found (Some (position_or_len (λ b. b == 10) text)) None))
cut_line text true e = slice_split_first (λ b. b == 10) text 0 (ltb-true _ _ e)
cut_line text false e =
    let all : length text ≤ position_or_len (λ b. b == 10) text = ltb-false _ _ e in
    slice_split_none (λ b. b == 10) text (λ k d h. fails_before_first (λ b. b == 10) text k d (omega arith))
    ∙ ap (λ t. t ∷ []) (sym (take_whole text (position_or_len (λ b. b == 10) text) all))

-- A text is its first line and the lines after it.
pub lines_of_cut : (text : List ℕ) → lines_of text ≡ (cut_at 10 text).front ∷ lines_behind (cut_at 10 text).behind
lines_of_cut text = cut_line text (nat_lt (position_or_len (λ b. b == 10) text) (length text)) refl

-- The result with the next line.
pub script_behind_cut : (count : ℕ) (kept : PartialScript) (text : List ℕ)
    → script_after count kept (lines_of text) ≡ or_bad (count + 1) (with_text kept (cut_at 10 text).front)
    (λ more. script_after (count + 1) more (lines_behind (cut_at 10 text).behind))
script_behind_cut count kept text = ap (script_after count kept) (lines_of_cut text)

-- The text after a cut is shorter.
abbrev pub length_behind : Option (List ℕ) → ℕ
length_behind None = 0
length_behind (Some text) = length text + 1

shorter : (text : List ℕ) (found : Bool) → nat_lt (position_or_len (λ b. b == 10) text) (length text) ≡ found
    → length_behind (option_map (λ i. drop (i + 1) text)
    (cond found (Some (position_or_len (λ b. b == 10) text)) None)) ≤ length text
shorter text true e =
    let lt = ltb-true _ _ e in
    omega (arith, lt, length-drop (position_or_len (λ b. b == 10) text + 1) text)
shorter text false e = omega arith

pub length_behind_cut : (text : List ℕ) → length_behind (cut_at 10 text).behind ≤ length text
length_behind_cut text = shorter text (nat_lt (position_or_len (λ b. b == 10) text) (length text)) refl

-- One more line is read.
pub reads : (count : ℕ) (kept : PartialScript) (rest : Option (List ℕ)) (bytes : List ℕ) (cut : Cut) (front : List ℕ)
    (after : Option PartialScript) → rest ≡ Some bytes → cut ≡ cut_at 10 bytes → front ≡ cut.front
    → with_text kept front ≡ after
    → script_after count kept (lines_behind rest) ≡ or_bad (count + 1) after
    (λ more. script_after (count + 1) more (lines_behind cut.behind))
reads count kept rest bytes cut front after is_some is_cut is_front is_after =
    ap (λ r. script_after count kept (lines_behind r)) is_some
    ∙ script_behind_cut count kept bytes
    ∙ ap (λ (c : Cut). or_bad (count + 1) (with_text kept c.front)
    (λ more. script_after (count + 1) more (lines_behind c.behind))) (sym is_cut)
    ∙ ap (λ t. or_bad (count + 1) (with_text kept t) (λ more. script_after (count + 1) more (lines_behind cut.behind)))
    (sym is_front)
    ∙ ap (λ o. or_bad (count + 1) o (λ more. script_after (count + 1) more (lines_behind cut.behind))) is_after

-- The number of the bad line is the one that is returned.
pub named : (found : Result Script ℕ) (m n : ℕ)
    → ◌≡◌ {A = Result Script ScriptError} (Err (BadLine m)) (Err (BadLine n)) → found ≡ Err m → found ≡ Err n
named found m n e h = cc
