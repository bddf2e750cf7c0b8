use Rattle.std.proofs.Common.{drop}
use Rattle.world.specs.Results.{SoFar}
use Rattle.leader_answers.proofs.Admission.{served}
use Rattle.leader_answers.proofs.admitting.serve_frames.Given as goal

-- Serving what is left completes what was to be served.
abbrev pub invariant-loop-frame : goal.invariant-loop-frame
invariant-loop-frame l = SoFar l.fn.stage.outputs (served l.number l.session l.fn.stage.after l.frames) l.stage.outputs
    (served l.number l.session l.stage.after (drop l.frame-index l.frames))
