use Rattle.std.proofs.Common.{◌≡◌, Some, None, drop, arith, sym, ◌∙◌}
use Rattle.std.proofs.lemmas.List.{length-drop}
use Rattle.jute.specs.Texts.{behind_surrogate, is_generalized_utf8}
use Rattle.jute.proofs.Utf8.{begins, behind_shorter, next_byte, ends_here, not_text_here, at_end}
use Rattle.jute.proofs.text.is_generalized_utf8.Goals as goal

pub loop-len-init : goal.loop-len-init
loop-len-init c = record { within = omega arith; shorter = omega arith; so_far = begins c.args.bytes.now }

pub loop-len-preserved-in-None : goal.loop-len-preserved-in-None
loop-len-preserved-in-None c =
    let found : behind_surrogate (drop c.loop-len.len c.loop-len.span.now) ≡ None =
    sym (rw (c.in-None.is, c.split_at.ensures.back) at c.behind_surrogate.ensures) in
    record {
      within = omega (arith, c.loop-len-test.true);
      shorter = c.loop-len.invariant.shorter;
      so_far = next_byte c.loop-len.span.now c.loop-len.len (is_generalized_utf8 c.args.bytes.now) (omega arith) found
          c.loop-len.invariant.so_far;
    }

pub returns-then-not-is_utf8 : goal.returns-then-not-is_utf8
returns-then-not-is_utf8 c =
    let found : behind_surrogate (drop c.loop-len.len c.loop-len.span.now) ≡ Some c.in-Some.behind.now =
    sym (rw (c.in-Some.is, c.split_at.ensures.back) at c.behind_surrogate.ensures) in
    not_text_here c.loop-len.span.now c.loop-len.len (is_generalized_utf8 c.args.bytes.now) c.in-Some.behind.now found
    (sym (rw (c.if-not-is_utf8.true, c.split_at.ensures.front) at c.is_utf8.ensures)) c.loop-len.invariant.so_far

pub loop-len-preserved : goal.loop-len-preserved
loop-len-preserved c =
    let found : behind_surrogate (drop c.loop-len.len c.loop-len.span.now) ≡ Some c.in-Some.behind.now =
    sym (rw (c.in-Some.is, c.split_at.ensures.back) at c.behind_surrogate.ensures) in
    let shorter = behind_shorter (drop c.loop-len.len c.loop-len.span.now) c.in-Some.behind.now found in
    record {
      within = omega arith;
      shorter = omega (arith, shorter, c.loop-len.invariant.shorter, length-drop c.loop-len.len c.loop-len.span.now);
      so_far = ends_here c.loop-len.span.now c.loop-len.len (is_generalized_utf8 c.args.bytes.now) c.in-Some.behind.now found
          (sym (rw (c.if-not-is_utf8.false, c.split_at.ensures.front) at c.is_utf8.ensures)) c.loop-len.invariant.so_far;
    }

pub returns : goal.returns
returns c = c.is_utf8-2.ensures ∙ at_end c.loop-len.span.now c.loop-len.len (is_generalized_utf8 c.args.bytes.now) (omega arith)
    c.loop-len.invariant.so_far
