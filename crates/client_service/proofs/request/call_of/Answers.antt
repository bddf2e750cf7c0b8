use Rattle.std.proofs.Common.{subst, ◌≡◌}
use Rattle.std.specs.Prelude.{IfOk}
use Rattle.world.specs.World.{World}
use Rattle.client_service.specs.Serve.{call_of}
use Rattle.client_service.proofs.request.call_of.Goals as goal

-- src/request.rt:21:1
pub returns : goal.returns
returns c =
    subst (λ (w : World). IfOk c.call_in.result (λ read. read ≡ call_of w c.args.frame.now)) c.world.view_is
    c.call_in.ensures
