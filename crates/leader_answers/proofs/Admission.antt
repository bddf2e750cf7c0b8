-- The frames that were held behind a connect, and the session that its connection gets.
use Rattle.std.proofs.Common.{◌≡◌, ℕ, suc, ◌+◌, ℤ, Bool, true, false, cond, not, List, ◌∷◌, drop, length, ◌≤◌, Option, Some, None, refl, ap, ◌∙◌, arith}
use Rattle.std.proofs.lemmas.List.{drop_all}
use Rattle.std.specs.FinMap as finmap
use Rattle.std.specs.Ordering.{is_eq}
use Rattle.std.specs.Cmp.{nat_cmp_total}
use Rattle.std.proofs.lemmas.Cmp.{tied_itself}
use Rattle.sessions.specs.State.{ConnectedClient, SessionTable}
use Rattle.sessions.specs.Sessions.{close_as, close_connection}
use Rattle.world.specs.World.{World}
use Rattle.world.specs.Steps.{StepResult, no_output, and_then, fold_steps}
use Rattle.world.specs.Clients.{is_heard}
use Rattle.client_service.specs.Serve.{is_unheard}
use Rattle.world.proofs.Steps.{goes_on, passed_over}
use Rattle.leader_answers.specs.Answering.{serve_next}

-- A connection that was closed has no session.
pub closed_has_none : (s : SessionTable) (n : ℕ) → finmap.get (close_connection s n).connections n ≡ None
closed_has_none s n = by (finmap.get s.connections n) refl
  where
    by : (found : Option ConnectedClient) → finmap.get s.connections n ≡ found
        → finmap.get (close_as s n found).connections n ≡ None
    by None is = is
    by (Some c) is =
        finmap.get-remove nat_cmp_total s.connections n n
        ∙ ap (λ (b : Bool). cond b None (finmap.get s.connections n)) (ap is_eq (tied_itself nat_cmp_total n))

module _ (n : ℕ) (session : ℤ) where
  -- The frames are served in order, as long as the connection is heard.
  abbrev pub served : World → List (List ℕ) → StepResult World
  served w frames = fold_steps (is_unheard n) (serve_next n session) w frames

  pub one_frame : (w : World) (frames : List (List ℕ)) (k : ℕ) (frame : List ℕ) → is_heard n w.clients ≡ true
      → drop k frames ≡ frame ∷ drop (suc k) frames
      → served w (drop k frames) ≡ and_then (serve_next n session w frame) (λ (v : World). served v (drop (k + 1) frames))
  one_frame w frames k frame heard is =
      let next : suc k ≡ k + 1 = omega arith in
      ap (served w) is
      ∙ goes_on (is_unheard n) (serve_next n session) w frame (drop (suc k) frames) (ap not heard)
      ∙ ap (λ (j : ℕ). and_then (serve_next n session w frame) (λ (v : World). served v (drop j frames))) next

  pub no_frame : (w : World) (frames : List (List ℕ)) → is_heard n w.clients ≡ false
      → served w frames ≡ no_output w
  no_frame w frames heard = passed_over (is_unheard n) (serve_next n session) w frames (ap not heard)

  -- All frames have been served.
  pub no_frame_left : (w : World) (frames : List (List ℕ)) (k : ℕ) → length frames ≤ k
      → served w (drop k frames) ≡ no_output w
  no_frame_left w frames k above = ap (served w) (drop_all k frames above)
