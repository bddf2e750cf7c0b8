use Rattle.std.proofs.Common.{◌≡◌, ◌+◌, None, drop, get_or, sym, ap, subst, ◌<◌, IfSome, ◌∙◌, arith}
use Rattle.values.specs.Maybe.{◌>>=◌}
use Rattle.values.specs.Hex.{bytes_of_digits, without_blanks, at_least_one}
use Rattle.replay_script.proofs.Digits.{bytes_behind, bytes_behind_none, first_read, onto, second_read, without_blanks_kept}
use Rattle.replay_script.proofs.hex.read_hex.Goals as goal
use Rattle.replay_script.proofs.hex.read_hex.Goals.{in-None, in-Some-high+in_ok-push-in-Some-high}

pub returns-in_default : goal.returns-in_default
returns-in_default c =
    let text = c.args.text.now in
    let i = c.loop-byte.byte-index in
    let bytes = c.loop-byte.bytes.items in
    let kept = without_blanks_kept text i (omega arith) c.if-byte-eq32.false in
    let none = bytes_behind_none c.loop-byte.high (get_or text i 0) (without_blanks (drop (i + 1) text))
    (sym c.digit_of.ensures.value ∙ c.in_default.is) in
    let all : bytes_of_digits (without_blanks text) ≡ None = sym c.loop-byte.invariant.same
    ∙ ap (λ t. onto bytes (bytes_behind c.loop-byte.high t)) kept ∙ ap (onto bytes) none in
    ap (λ bs. bs >>= at_least_one) (sym all)

pub loop-byte-preserved : goal.loop-byte-preserved
loop-byte-preserved c =
    let text = c.args.text.now in
    let i = c.loop-byte.byte-index in
    let before = c.loop-byte.bytes.items in
    let now = c.match-high in
    let digit = c.in-Some.digit in
    let spelled = sym c.digit_of.ensures.value ∙ c.in-Some.is in
    elim c.match-high.branch [
      | in-None w ↦
          record {
            small = subst (λ h. IfSome h (λ d. d < 16)) (sym w.high-is) c.in-Some.ensures.small;
            same = first_read text before now.bytes.items i digit c.loop-byte.high now.high _ (omega arith)
                c.if-byte-eq32.false spelled w.in-None.is w.high-is (ap (λ v. v.items) w.bytes-is)
                c.loop-byte.invariant.same;
          }
      | in-Some-high+in_ok-push-in-Some-high w ↦
          record {
            small = subst (λ h. IfSome h (λ d. d < 16)) (sym w.high-is) tt;
            same = second_read text before now.bytes.items i w.in-Some-high.first digit c.loop-byte.high now.high _
                (omega arith) c.if-byte-eq32.false spelled w.in-Some-high.is w.high-is (ap (λ v. v.items) w.bytes-is
                ∙ w.in_ok-push-in-Some-high.ensures.items) c.loop-byte.invariant.same;
          }
    ]
