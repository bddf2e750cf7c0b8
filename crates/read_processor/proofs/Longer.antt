-- Bytes after a body.
use Rattle.std.proofs.Common.{◌≡◌, refl, ℕ, ◌+◌, ◌-◌, ◌≤◌, ◌<◌, List, ◌++◌, length, drop, Option, Some, None, Bool, true, false, cond, nat_le, sym, ap, ◌∙◌, append_assoc, arith, rules}
use Rattle.std.proofs.lemmas.List.{drop-append-le, length-append, length-drop}
use Rattle.read_processor.specs.Limits.{body_limit, fitting_body}
use Rattle.read_processor.specs.Inner.Parts.{body_followed_by}
use Rattle.read_processor.specs.MultiReads.{and_then_shown}
use Rattle.read_processor.proofs.Filling.{fits, too_long}

-- The room and a body, which the bytes follow.
module _ (bytes more body : List ℕ) (room : 20 ≤ length bytes)
    (within : length bytes ≤ 20 + body_limit) (is : drop 20 bytes ≡ body) where
  whole : length (body ++ more) + 20 ≡ length bytes + length more
  whole =
      let two = length-append body more in
      let one : length body ≡ length bytes - 20 = ap (λ (l : List ℕ). length l) (sym is) ∙ length-drop 20 bytes in
      omega (arith, two, one, room)

  pub longer : length more ≤ 20 + body_limit - length bytes → (new : List ℕ) → new ≡ bytes ++ more
      → Some (drop 20 new) ≡ fitting_body (body ++ more)
  longer le new e =
      let there : drop 20 new ≡ body ++ more = ap (drop 20) e ∙ drop-append-le 20 bytes more room
      ∙ ap (λ (l : List ℕ). l ++ more) is in
      ap (λ (l : List ℕ). Some l) there ∙ sym (fits (body ++ more) (omega (arith, whole, le, room, within)))

  pub no_longer : 20 + body_limit - length bytes < length more → fitting_body (body ++ more) ≡ None
  no_longer lt = too_long (body ++ more) (omega (arith, whole, lt, room, within))

kept : (t : Bool) (a b : List ℕ) → cond t (Some a) None ≡ Some b → b ≡ a
kept true a b e = cc
kept false a b e = absurd cc

-- Bytes that follow others which the body holds already.
pub follows_both : (body first more mid : List ℕ) → fitting_body (body ++ first) ≡ Some mid
    → fitting_body (mid ++ more) ≡ fitting_body (body ++ (first ++ more))
follows_both body first more mid e =
    let is = kept (nat_le (length (body ++ first)) body_limit) (body ++ first) mid e in
    ap (λ (l : List ℕ). fitting_body (l ++ more)) is ∙ ap fitting_body (append_assoc body first more)

refused : (a : List ℕ) → fitting_body a ≡ None → body_limit < length a
refused a e = by_test (nat_le (length a) body_limit) refl
  where
    by_test : (t : Bool) → nat_le (length a) body_limit ≡ t → body_limit < length a
    by_test true is =
        let fitted : fitting_body a ≡ Some a = rw is refl in
        let both : None ≡ Some a = sym e ∙ fitted in
        absurd cc
    by_test false is = search rules

-- ---- parts

-- What is shown after the body and a part that fits.
pub shown_after : (body mid : List ℕ) (first others : Option (List ℕ)) → body_followed_by body first ≡ Some mid
    → body_followed_by mid others ≡ body_followed_by body (and_then_shown first others)
shown_after body mid None others e = absurd cc
shown_after body mid (Some x) None e = refl
shown_after body mid (Some x) (Some y) e = follows_both body x y mid e

-- What doesn't fit can't be followed.
pub none_after : (body : List ℕ) (first others : Option (List ℕ)) → body_followed_by body first ≡ None
    → body_followed_by body (and_then_shown first others) ≡ None
none_after body None others e = refl
none_after body (Some x) None e = refl
none_after body (Some x) (Some y) e =
    let long = refused (body ++ x) e in
    let one = length-append body x in
    let two = length-append body (x ++ y) in
    let three = length-append x y in
    too_long (body ++ (x ++ y)) (omega (arith, long, one, two, three))
