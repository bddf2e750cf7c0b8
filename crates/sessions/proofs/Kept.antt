-- Sessions and connections agree after each step.
use Rattle.std.proofs.Common.{◌≡◌, ℕ, ◌+◌, ◌^◌, ◌<◌, ◌==◌, ℤ, pos, Bool, true, false, List, Option, Some, None, refl, sym, ap, subst, ◌∙◌, arith}
use Rattle.std.specs.Prelude.{if◌then◌else◌}
use Rattle.std.specs.List.{list_any}
use Rattle.std.specs.Ordering.{int_eq}
use Rattle.std.specs.Cmp.{nat_cmp_total, int_cmp_total}
use Rattle.std.proofs.lemmas.Bool.{eqb-false}
use Rattle.std.proofs.lemmas.Map.Lookups.{exact_unsigned, exact_signed}
use Rattle.std.specs.FinMap as finmap
use mathlib.Core.Bool.{true≢false}
use Rattle.jute.specs.declared.owned.Id.{Id}
use Rattle.sessions.specs.declared.request.SessionRequest.{SessionRequest}
use Rattle.sessions.specs.Credentials.{digest_id}
use Rattle.sessions.specs.State.{ConnectedClient, SessionTable}
use Rattle.sessions.specs.Sessions.{ConnectResult, AuthResult, ExpireResult, greatest_counter, are_within_limits, is_same_id, with_id, is_valid, session_of_connection, session_in, connection_of, time_out_in, time_out_of, told_timeout, close_as, close_if_some, expire_owner, give_session, name_session, connect_session, show_in, add_id, super_id, is_super_digest, add_behind, add_digest, digest_text, auth_by}
use Rattle.sessions.specs.Agreement.{SessionsAgree, AgreementIsKept, ResponsesNameSessions, nonzero_session}
use Rattle.sessions.proofs.Cases.{at_if}
use Rattle.values.proofs.Keyed.{inserted}
use Rattle.sessions.proofs.Agreeing.{starts, session_client, closed, closing_agrees, expires_closing, joins, joins_older, gives_free, gives_older, shows, counts}

-- ---- close and expire

closes_as : (s : SessionTable) (n : ℕ) (o : Option ConnectedClient) → finmap.get s.connections n ≡ o → SessionsAgree s
    → SessionsAgree (close_as s n o)
closes_as s n None e a = a
closes_as s n (Some c) e a = closed s n c a e

expires_as : (s : SessionTable) (session : ℤ) (o : Option ℕ) → finmap.get s.owners session ≡ o → SessionsAgree s
    → SessionsAgree (expire_owner s session).after
expires_as s session None e a = subst (λ (o : Option ℕ). SessionsAgree (close_if_some s o)) (sym e) a
expires_as s session (Some n) e a =
    subst (λ (x : ExpireResult). SessionsAgree x.after) (sym (expires_closing s session n a e))
    (closing_agrees s session n a e)

-- ---- auth

shows_in : (s : SessionTable) (n : ℕ) (id : Id) (o : Option ConnectedClient) → finmap.get s.connections n ≡ o
    → SessionsAgree s → SessionsAgree (show_in s n id o).after
shows_in s n id None e a = a
shows_in s n id (Some c) e a =
    at_if (λ (x : AuthResult). SessionsAgree x.after) (list_any (λ shown. is_same_id shown id) c.ids) _ _ (λ _. a)
    (λ _. at_if (λ (x : AuthResult). SessionsAgree x.after) (are_within_limits (with_id c id).ids) _ _
    (λ fit. shows s n c id a e fit) (λ _. a))

shows_id : (s : SessionTable) (n : ℕ) (id : Id) → SessionsAgree s → SessionsAgree (add_id s n id).after
shows_id s n id a = shows_in s n id (finmap.get s.connections n) refl a

shows_behind : (before : AuthResult) (n : ℕ) (id : Id) → SessionsAgree before.after
    → SessionsAgree (add_behind before n id).after
shows_behind before n id a =
    at_if (λ (x : AuthResult). SessionsAgree x.after) before.is_accepted _ _ (λ _. shows_id before.after n id a) (λ _. a)

shows_digest : (s : SessionTable) (n : ℕ) (digest : Id) → SessionsAgree s → SessionsAgree (add_digest s n digest).after
shows_digest s n digest a =
    at_if (λ (x : AuthResult). SessionsAgree x.after) (is_super_digest s.terms.super_digest digest.id) _ _
    (λ _. shows_behind (add_id s n super_id) n digest (shows_id s n super_id a)) (λ _. shows_id s n digest a)

shows_by : (s : SessionTable) (n : ℕ) (o : Option (List ℕ)) → SessionsAgree s → SessionsAgree (auth_by s n o).after
shows_by s n None a = a
shows_by s n (Some text) a = shows_digest s n (digest_id text) a

-- ---- connect

-- The next counter is below the limit, too.
pub below : (s : SessionTable) → SessionsAgree s → (s.counter == greatest_counter) ≡ false → s.counter + 1 < 2 ^ 56
below s a e = let small : s.counter < 2 ^ 56 = a.counter in let other : s.counter ≡ greatest_counter → ⊥ =
    eqb-false s.counter greatest_counter e in at_most s.counter small other
  where
    at_most : (k : ℕ) → k < 2 ^ 56 → (k ≡ greatest_counter → ⊥) → k + 1 < 2 ^ 56
    at_most k small other = grind arith

names : (s : SessionTable) (time_out : ℤ) → SessionsAgree s → SessionsAgree (name_session s time_out).after
names s time_out a =
    at_if (λ (x : ConnectResult). SessionsAgree x.after) (s.counter == greatest_counter) _ _ (λ _. a)
    (λ e. counts s a (below s a e))

gives : (s : SessionTable) (n : ℕ) (session time_out : ℤ) (o : Option ℕ) → finmap.get s.owners session ≡ o
    → SessionsAgree s → finmap.get s.connections n ≡ None → SessionsAgree (give_session s n session time_out).after
gives s n session time_out None e a none =
    subst (λ (x : ConnectResult). SessionsAgree x.after) (sym (gives_free s n session time_out e))
    (joins s n session (session_client s session time_out).time_out a none e)
gives s n session time_out (Some older) e a none =
    subst (λ (x : ConnectResult). SessionsAgree x.after) (sym (gives_older s n session time_out older a none e))
    (joins_older s n session (session_client s session time_out).time_out older a none e)

connects : (s : SessionTable) (n : ℕ) (lives : Bool) (request : SessionRequest) → SessionsAgree s
    → finmap.get s.connections n ≡ None → SessionsAgree (connect_session s n lives request).after
connects s n lives request a none =
    at_if (λ (x : ConnectResult). SessionsAgree x.after) (int_eq request.session_id (pos 0)) _ _
    (λ _. names s request.time_out a)
    (λ _. at_if (λ (x : ConnectResult). SessionsAgree x.after) (is_valid s lives request) _ _
    (λ _. gives s n request.session_id request.time_out (finmap.get s.owners request.session_id) refl a none)
    (λ _. a))

pub agreement_is_kept : AgreementIsKept
agreement_is_kept = record {
  starts = starts;
  connects = connects;
  admits = λ s n session time_out a none. gives s n session time_out (finmap.get s.owners session) refl a none;
  shows = shows_id;
  auths = λ s n scheme bytes a. shows_by s n (digest_text scheme bytes) a;
  closes = λ s n a. closes_as s n (finmap.get s.connections n) refl a;
  expires = λ s session a. expires_as s session (finmap.get s.owners session) refl a;
}

-- ---- what a response tells

abbrev Tells : ℕ → ConnectResult → Type 0
Tells n x = session_of_connection x.after n ≡ nonzero_session x.connected.response.session_id

abbrev HasNone : ℕ → ConnectResult → Type 0
HasNone n x = session_of_connection x.after n ≡ None

given : (s : SessionTable) (n : ℕ) (session time_out : ℤ)
    → session_of_connection (give_session s n session time_out).after n ≡ Some session
given s n session time_out =
    ap session_in (inserted nat_cmp_total exact_unsigned (close_if_some s (connection_of s session)).connections n
    (session_client s session time_out))

tells_timeout : (s : SessionTable) (n : ℕ) (session time_out : ℤ)
    → told_timeout (give_session s n session time_out).after session
    ≡ Some (give_session s n session time_out).connected.response.time_out
tells_timeout s n session time_out =
    let closed = close_if_some s (connection_of s session) in
    ap (time_out_of (give_session s n session time_out).after)
    (inserted int_cmp_total exact_signed closed.owners session n)
    ∙ ap time_out_in (inserted nat_cmp_total exact_unsigned closed.connections n (session_client s session time_out))

asks : (s : SessionTable) (n : ℕ) (lives : Bool) (request : SessionRequest) → finmap.get s.connections n ≡ None
    → int_eq request.session_id (pos 0) ≡ true → HasNone n (connect_session s n lives request)
asks s n lives request none zero =
    at_if (HasNone n) (int_eq request.session_id (pos 0)) _ _
    (λ _. at_if (HasNone n) (s.counter == greatest_counter) _ _ (λ _. ap session_in none) (λ _. ap session_in none))
    (λ other. absurd (true≢false (sym zero ∙ other)))

reconnects : (s : SessionTable) (n : ℕ) (lives : Bool) (request : SessionRequest) → finmap.get s.connections n ≡ None
    → int_eq request.session_id (pos 0) ≡ false → Tells n (connect_session s n lives request)
reconnects s n lives request none other =
    at_if (Tells n) (int_eq request.session_id (pos 0)) _ _ (λ zero. absurd (true≢false (sym zero ∙ other)))
    (λ _. at_if (Tells n) (is_valid s lives request) _ _
    (λ _. given s n request.session_id request.time_out
    ∙ ap (λ b. if b then None else Some request.session_id) (sym other))
    (λ _. ap session_in none))

pub answers_tell : ResponsesNameSessions
answers_tell = record { asks = asks; reconnects = reconnects; admits = given; times_out = tells_timeout }
