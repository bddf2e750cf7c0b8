use Rattle.std.proofs.Common.{◌≡◌, [], true, length}
use Rattle.jute.specs.Stream.{items_in, place_at}
use Rattle.world.specs.Clients.{is_heard}
use Rattle.world.specs.Steps.{and_then}
use Rattle.client_service.specs.Serve.{serve_all, frames_of_client}
use Rattle.client_service.specs.Runs.{answer_all_asked}
use Rattle.client_service.specs.Inner.{waiting_bytes}
use Rattle.world.proofs.Steps.{SoFar}
use Rattle.client_service.proofs.client.serve_all.Given as goal

-- Answering the reads that wait and serving what is left completes what was to be done. The connection is heard, and
-- its bytes are taken out.
abbrev pub invariant-frame : goal.invariant-frame
invariant-frame g l =
    record {
      so_far : SoFar l.fn.stage.outputs
          (and_then (answer_all_asked l.fn.asked.items l.fn.stage.after)
          (λ w. serve_all l.serving l.number w (items_in frames_of_client (place_at tt l.fn.waiting))))
          l.stage.outputs
          (and_then (answer_all_asked l.asked.items l.stage.after)
          (λ w. serve_all l.serving l.number w (items_in frames_of_client (place_at tt l.waiting))));
      heard : is_heard l.number l.stage.after.clients ≡ true;
      taken : waiting_bytes l.number l.stage.after ≡ [];
    }

abbrev pub decreases-frame : goal.decreases-frame
decreases-frame g l = length l.waiting
