use Rattle.std.proofs.Common.{sym, ◌∙◌, arith, rules}
use Rattle.texts.proofs.Numbers.{none_up_to}
use Rattle.texts.proofs.number.number_up_to.Goals as goal

-- The number is above the limit: ten times the digits before it are already more than 64 bits hold, ..
pub returns-in_err-checked_mul-clause-value : goal.returns-in_err-checked_mul-clause-value
returns-in_err-checked_mul-clause-value c =
    c.from_residual.ensures
    ∙ sym (none_up_to c.args.limit c.loop-byte.number c.loop-byte.byte-index c.args.text.now c.loop-byte.invariant.same
    (omega arith) (search rules) (omega arith))

-- .. or they are with the digit, ..
pub returns-in_err-number-clause-value : goal.returns-in_err-number-clause-value
returns-in_err-number-clause-value c =
    c.from_residual-in_err-number.ensures
    ∙ sym (none_up_to c.args.limit c.loop-byte.number c.loop-byte.byte-index c.args.text.now c.loop-byte.invariant.same
    (omega arith) (search rules) (omega arith))

-- .. or more than the limit.
pub returns-then-number-limit-clause-value : goal.returns-then-number-limit-clause-value
returns-then-number-limit-clause-value c =
    sym (none_up_to c.args.limit c.loop-byte.number c.loop-byte.byte-index c.args.text.now c.loop-byte.invariant.same
    (omega arith) (search rules) (omega arith))
