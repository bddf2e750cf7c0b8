-- One option more is spelled by the words that were read.
use Rattle.std.proofs.Common.{rules, ◌≡◌, ◌<◌, ◌+◌, ℕ, zero, suc, List, [], ◌∷◌, ◌++◌, Option, Some, None, length, take, drop, get_or, nat_eq, if◌then◌else◌, sym, ap, ◌∙◌, arith, append_assoc, below_more, refl}
use Rattle.std.proofs.Math.Seq.{take-append_seam, get_or-append_seam}
use Rattle.std.proofs.Math.ListN.{get_or-append}
use Rattle.std.proofs.lemmas.List.{take-append-le, length-append, flat_map_more}
use Rattle.std.specs.Prelude.{true, false, is_some}
use Rattle.std.specs.Prelude.{flat_map, All}
use Rattle.serve_options.specs.Rows.{option_word}
use Rattle.serve_options.specs.Given.{words_of_value, words_of_option, given_of, IsOnce}
use Rattle.serve_options.specs.Places.{name_place}
use Rattle.serve_options.specs.declared.given.Given.{Given}
use Rattle.serve_options.specs.declared.row.Name.{Name}

pub one_more : (given : List Given) (option : Given) (all others after : List (List ℕ)) (word : List ℕ)
    → all ≡ flat_map words_of_option given ++ word ∷ others → option_word option.name ≡ word
    → others ≡ words_of_value option.value ++ after
    → all ≡ flat_map words_of_option (given ++ option ∷ []) ++ after
one_more given option all others after word read named spelled =
    read
    ∙ ap (λ w. flat_map words_of_option given ++ w ∷ others) (sym named)
    ∙ ap (λ o. flat_map words_of_option given ++ option_word option.name ∷ o) spelled
    ∙ sym (append_assoc (flat_map words_of_option given) (words_of_option option) after)
    ∙ ap (λ l. l ++ after) (flat_map_more words_of_option [] given option)

pub all_of_one : {X : Type 0} (P : X → Type 0) (x : X) → P x → All P (x ∷ [])
all_of_one P x p zero d below = p
all_of_one P x p (suc k) d below = absurd (omega arith)

-- An option of a name that none before it has.
pub once_more : (given : List Given) (option : Given) → IsOnce given → given_of option.name given ≡ None
    → IsOnce (given ++ option ∷ [])
once_more given option old none k d below =
    let all = given ++ option ∷ [] in
    let P : ℕ → Type 0 = λ k. given_of (get_or all k d).name (take k all) ≡ None in
    let less : k < length given + 1 = omega (arith, length-append given (option ∷ [])) in
    below_more P (length given)
    (λ k h.
    ap (λ (o : Given). given_of o.name (take k all)) (get_or-append given (option ∷ []) d k h)
    ∙ ap (λ l. given_of (get_or given k d).name l) (take-append-le k given (option ∷ []) (omega arith))
    ∙ old k d h)
    (ap (λ (o : Given). given_of o.name (take (length given) all)) (get_or-append_seam given option [] d)
    ∙ ap (λ l. given_of option.name l) (take-append_seam given (option ∷ []))
    ∙ none)
    k less

pub none_at : (found : Option Given) → is_some found ≡ false → found ≡ None
none_at None e = refl
none_at (Some option) e = cc

-- The option at a place is found where none before it has its name.
pub found_at : (name : Name) (given : List Given) (k : ℕ) (d : Given) → k < length given
    → (get_or given k d).name ≡ name → given_of name (drop k given) ≡ Some (get_or given k d)
found_at name [] k d below e = absurd (omega arith)
found_at name (option ∷ given) zero d below e =
    let same : nat_eq (name_place option.name) (name_place name) ≡ true = search (rules, e) in
    ap (λ found. if found then Some option else given_of name given) same
found_at name (option ∷ given) (suc k) d below e = found_at name given k d (omega arith) e
