use borrow.Rule.Slice.PartMut.{same_len_mid}
use Rattle.std.proofs.Common.{◌≡◌, ◌*◌, bit_xor, sym, ap, ◌∙◌, w64}
use Rattle.std.specs.Int.{cast_unsigned}
use Rattle.std.proofs.lemmas.Int.{to_z-of_z}
use Rattle.sessions.specs.Credentials.{first_state, next_state, state_bytes, random_bytes, java_password}
use Rattle.sessions.proofs.RandomBytes.{one_step, all_steps}
use Rattle.sessions.proofs.credentials.java_password.Goals as goal

pub loop-place-preserved : goal.loop-place-preserved
loop-place-preserved c =
    let word : c.copy_from_slice.new.self ≡ state_bytes (next_state c.loop-place.state) =
    c.copy_from_slice.ensures.after ∙ c.state_bytes.ensures ∙ ap state_bytes c.next_state-state.ensures.state in (
      same_len_mid (4 * c.loop-place.place) _ c.loop-place.password c.copy_from_slice.new.self
          c.copy_from_slice.ensures.len
          ∙ c.loop-place.invariant.0,
      rw c.next_state-state.ensures.state (one_step c.loop-place.password c.copy_from_slice.new.self
          c.loop-place.place _ c.loop-place.state c.loop-place-test.true c.loop-place.invariant.0 word
          ∙ c.loop-place.invariant.1),
    )

pub returns : goal.returns
unfolding java_password
returns c =
    sym (all_steps c.loop-place.password c.loop-place.place c.loop-place.state c.loop-place-test.false
    c.loop-place.auto.place-end c.loop-place.invariant.0)
    ∙ c.loop-place.invariant.1
    ∙ ap (random_bytes 4) (c.first_state-state.ensures
    ∙ ap (λ s. first_state (bit_xor (cast_unsigned w64 s) 0xB3415C00)) (to_z-of_z w64 c.args.session c.ranges.session))
