-- Filling the room before a body.
use Rattle.std.proofs.Common.{◌≡◌, ℕ, ◌+◌, ◌-◌, ◌≤◌, ◌<◌, List, [], ◌++◌, length, take, drop, Some, None, w32, to_z, pos, sym, ap, ◌∙◌, append_assoc, arith, rules}
use Rattle.std.proofs.lemmas.List.{drop_all, take_all, drop_at, take_at, drop-drop, length-append, length-drop, append-nil}
use Rattle.std.proofs.lemmas.Int.{to_z_pos}
use borrow.Rule.Slice.PartMut.{mid_of, put_mid}
use Rattle.jute.specs.Format.{number_bytes}
use Rattle.jute.specs.Frame.{frame_bytes}
use Rattle.jute.specs.Records.{reply_header}
use Rattle.jute.specs.declared.message.ReplyHeader.{ReplyHeader}
use Rattle.read_processor.specs.Limits.{body_limit, fitting_body}
use Rattle.read_processor.specs.Reply.{with_header}
use Rattle.read_processor.proofs.Counting.{counted_length}

pub fits : (text : List ℕ) → length text ≤ body_limit → fitting_body text ≡ Some text
fits text h = search rules

pub too_long : (text : List ℕ) → body_limit < length text → fitting_body text ≡ None
too_long text h = search rules

-- Four bytes were written at the front of xs, which gave ys, and then some after them, whose end of ys became zs.
module _ (n : ℕ) (xs ys zs first more : List ℕ)
    (four : length first ≡ 4) (long : 4 + n ≤ length xs)
    (y : ys ≡ first ++ drop 4 xs) (z : zs ≡ more ++ drop n (mid_of 4 (length ys - 4) ys)) where
  front : take 4 ys ≡ first
  front = ap (take 4) y ∙ take_at first (drop 4 xs) 4 four

  back : drop 4 ys ≡ drop 4 xs
  back = ap (drop 4) y ∙ drop_at first (drop 4 xs) 4 four

  past : drop (length ys - 4) (drop 4 ys) ≡ []
  past = drop_all (length ys - 4) (drop 4 ys) (search rules)

  part : zs ≡ more ++ drop (4 + n) xs
  part =
      let mid = take_all (length ys - 4) (drop 4 ys) (search rules) ∙ back in
      z ∙ ap (λ (l : List ℕ). more ++ l) (ap (drop n) mid ∙ drop-drop n 4 xs)

  pub filled : put_mid 4 (length ys - 4) ys zs ≡ (first ++ more) ++ drop (4 + n) xs
  filled =
      ap (λ (l : List ℕ). l ++ (zs ++ drop (length ys - 4) (drop 4 ys))) front
      ∙ ap (λ (l : List ℕ). first ++ (zs ++ l)) past
      ∙ ap (λ (l : List ℕ). first ++ l) (append-nil zs ∙ part)
      ∙ sym (append_assoc first more (drop (4 + n) xs))

headed_length : (h : ReplyHeader) (body : List ℕ) → length (with_header h body) ≡ 16 + length body
unfolding reply_header number_bytes
headed_length h body = simp length-append (omega arith)

-- The room at the front of `old` was filled; `new` has the same length.
module _ (h : ReplyHeader) (old new : List ℕ) (len : ℕ) (all : length old ≡ len) (room : 20 ≤ len)
    (small : len ≤ 20 + body_limit)
    (n : new ≡ (number_bytes w32 (to_z w32 (len - 4)) ++ reply_header.written h) ++ drop 20 old) where
  abbrev text : List ℕ
  text = with_header h (drop 20 old)

  size : length text ≡ len - 4
  size = omega (arith, headed_length h (drop 20 old), length-drop 20 old, all, room)

  shown : to_z w32 (len - 4) ≡ pos (length text)
  shown = ap (to_z w32) (sym size) ∙ to_z_pos w32 (length text) (omega (arith, size, small))

  whole : new ≡ frame_bytes text
  whole =
      n ∙ append_assoc (number_bytes w32 (to_z w32 (len - 4))) (reply_header.written h) (drop 20 old)
      ∙ ap (λ z. number_bytes w32 z ++ text) shown

  -- The vector holds what was written.
  pub filled_whole : {out : List ℕ} → out ≡ take len (new ++ drop (length new) old) → out ≡ frame_bytes text
  filled_whole o =
      let long = ap (λ (l : List ℕ). length l) whole ∙ counted_length (length text) text ∙ omega (arith, size, room) in
      o ∙ take_at new (drop (length new) old) len long ∙ whole
