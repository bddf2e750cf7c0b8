-- Ids of new sessions are new, and a session that has ended is refused.
use Rattle.std.proofs.Common.{◌≡◌, ◌≢◌, ℕ, ◌+◌, ◌^◌, ◌<◌, ◌≤◌, ◌==◌, ℤ, true, refl, ◌∙◌, arith}
use Rattle.std.proofs.lemmas.Bool.{eqb-true}
use Rattle.sessions.specs.Credentials.{session_id_of}
use Rattle.sessions.specs.State.{SessionTable}
use Rattle.sessions.specs.Sessions.{ConnectResult, greatest_counter, name_session}
use Rattle.sessions.specs.Agreement.{IsGivenOut, SessionsAgree, IsNewId, NewIdsAreNew, EndedSessionsAreRefused}
use Rattle.sessions.proofs.Cases.{at_if}
use Rattle.sessions.proofs.Numbers.{counters_apart, never_zero}

raised : (server_id : ℤ) (counter : ℕ) (session : ℤ) → IsGivenOut server_id counter session
    → IsGivenOut server_id (counter + 1) session
raised server_id counter session o =
    record { own = o.own; first = o.first; last = (let h = o.last in omega arith); is = o.is }

next : (server_id : ℤ) (counter : ℕ) → IsGivenOut server_id (counter + 1) (session_id_of server_id (counter + 1))
next server_id counter = record { own = counter + 1; first = omega arith; last = omega arith; is = refl }

-- An id that was given out before isn't the next one.
not_next : (s : SessionTable) (earlier : ℤ) → SessionsAgree s → s.counter + 1 < 2 ^ 56
    → IsGivenOut s.terms.server_id s.counter earlier
    → session_id_of s.terms.server_id (s.counter + 1) ≢ earlier
not_next s earlier a low h e =
    let last : h.own ≤ s.counter = h.last in
    let same : s.counter + 1 ≡ h.own =
    counters_apart s.terms.server_id (s.counter + 1) h.own a.server_id low (omega arith) (e ∙ h.is) in
    omega arith

not_greatest : (counter : ℕ) → counter + 1 < 2 ^ 56 → (counter == greatest_counter) ≡ true → ⊥
not_greatest counter low e = let is : counter ≡ greatest_counter = eqb-true counter greatest_counter e in
    beyond counter low is
  where
    beyond : (k : ℕ) → k + 1 < 2 ^ 56 → k ≡ greatest_counter → ⊥
    beyond k low is = grind arith

is_new : (s : SessionTable) (time_out : ℤ) → SessionsAgree s → s.counter + 1 < 2 ^ 56
    → IsNewId s (name_session s time_out).connected.response.session_id
is_new s time_out a low =
    at_if (λ (x : ConnectResult). IsNewId s x.connected.response.session_id) (s.counter == greatest_counter) _ _
    (λ e. absurd (not_greatest s.counter low e))
    (λ _. record {
      nonzero = never_zero s.terms.server_id (s.counter + 1) a.server_id low;
      unused = λ earlier h. not_next s earlier a low h;
    })

is_given : (s : SessionTable) (time_out : ℤ) → s.counter + 1 < 2 ^ 56
    → IsGivenOut s.terms.server_id (name_session s time_out).after.counter
    (name_session s time_out).connected.response.session_id
is_given s time_out low =
    at_if (λ (x : ConnectResult). IsGivenOut s.terms.server_id x.after.counter x.connected.response.session_id)
    (s.counter == greatest_counter) _ _
    (λ e. absurd (not_greatest s.counter low e)) (λ _. next s.terms.server_id s.counter)

stays : (s : SessionTable) (time_out earlier : ℤ) → IsGivenOut s.terms.server_id s.counter earlier
    → IsGivenOut s.terms.server_id (name_session s time_out).after.counter earlier
stays s time_out earlier h =
    at_if (λ (x : ConnectResult). IsGivenOut s.terms.server_id x.after.counter earlier)
    (s.counter == greatest_counter) _ _ (λ _. h) (λ _. raised s.terms.server_id s.counter earlier h)

pub new_ids_are_new : NewIdsAreNew
new_ids_are_new = record { new = is_new; given = is_given; stay = stays }

pub ended_are_refused : EndedSessionsAreRefused
ended_are_refused s request = refl
