use Rattle.std.proofs.Common.{◌-◌}
use Rattle.forwarding.specs.Queue.{pending_limit}
use Rattle.leader_answers.specs.Answering.{answer_front, answer_up_to}
use Rattle.world.specs.Results.{SoFar}
use Rattle.leader_answers.proofs.ready.answer_front.Given as goal

-- Answering the requests of the turns that are left completes what was to be answered.
abbrev pub invariant-loop : goal.invariant-loop
invariant-loop l = SoFar l.fn.stage.outputs (answer_front l.number l.fn.stage.after) l.stage.outputs
    (answer_up_to (pending_limit - l.counter) l.number l.stage.after)
