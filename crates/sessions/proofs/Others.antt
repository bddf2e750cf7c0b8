-- A step leaves other connections.
use Rattle.std.proofs.Common.{◌≡◌, ◌≢◌, ℕ, ◌==◌, ℤ, pos, Bool, false, List, Option, Some, None, refl, sym, ap, ◌∙◌}
use Rattle.std.specs.List.{list_any}
use Rattle.std.specs.Ordering.{int_eq, eq_by_cmp, nat_cmp}
use Rattle.std.specs.Cmp.{nat_cmp_total}
use Rattle.std.proofs.lemmas.Map.Lookups.{exact_unsigned}
use Rattle.std.specs.FinMap as finmap
use Rattle.jute.specs.declared.owned.Id.{Id}
use Rattle.sessions.specs.declared.request.SessionRequest.{SessionRequest}
use Rattle.sessions.specs.Credentials.{digest_id}
use Rattle.sessions.specs.State.{ConnectedClient, SessionTable}
use Rattle.sessions.specs.Sessions.{ConnectResult, AuthResult, greatest_counter, are_within_limits, is_same_id, with_id, is_valid, connection_of, close_as, close_if_some, give_session, connect_session, show_in, add_id, super_id, is_super_digest, add_behind, add_digest, digest_text, auth_by}
use Rattle.sessions.specs.Agreement.{OtherConnectionsStay}
use Rattle.sessions.proofs.Agreeing.{session_client}
use Rattle.sessions.proofs.Cases.{at_if}
use Rattle.values.proofs.Keyed.{other, inserted_elsewhere, removed_elsewhere}

-- The connection is as it was.
abbrev Stays : SessionTable → ℕ → SessionTable → Type 0
Stays s m new = finmap.get new.connections m ≡ finmap.get s.connections m

elsewhere : (m n : ℕ) → m ≢ n → eq_by_cmp nat_cmp m n ≡ false
elsewhere m n apart = other nat_cmp_total exact_unsigned m n apart

put_elsewhere : (s : SessionTable) (m n : ℕ) (c : ConnectedClient) → m ≢ n
    → finmap.get (finmap.insert s.connections n c) m ≡ finmap.get s.connections m
put_elsewhere s m n c apart = inserted_elsewhere nat_cmp_total exact_unsigned s.connections n c m (elsewhere m n apart)

closes_as : (s : SessionTable) (n : ℕ) (o : Option ConnectedClient) (m : ℕ) → m ≢ n → Stays s m (close_as s n o)
closes_as s n None m apart = refl
closes_as s n (Some c) m apart = removed_elsewhere nat_cmp_total exact_unsigned s.connections n m (elsewhere m n apart)

closes_one : (s : SessionTable) (o : Option ℕ) (m : ℕ) → o ≢ Some m → Stays s m (close_if_some s o)
closes_one s None m apart = refl
closes_one s (Some n) m apart = closes_as s n (finmap.get s.connections n) m (λ e. apart (ap Some (sym e)))

shows_in : (s : SessionTable) (n : ℕ) (id : Id) (o : Option ConnectedClient) (m : ℕ) → m ≢ n
    → Stays s m (show_in s n id o).after
shows_in s n id None m apart = refl
shows_in s n id (Some c) m apart =
    at_if (λ (x : AuthResult). Stays s m x.after) (list_any (λ shown. is_same_id shown id) c.ids) _ _ (λ _. refl)
    (λ _. at_if (λ (x : AuthResult). Stays s m x.after) (are_within_limits (with_id c id).ids) _ _
    (λ _. put_elsewhere s m n (with_id c id) apart) (λ _. refl))

shows : (s : SessionTable) (n : ℕ) (id : Id) (m : ℕ) → m ≢ n → Stays s m (add_id s n id).after
shows s n id m apart = shows_in s n id (finmap.get s.connections n) m apart

shows_behind : (s : SessionTable) (before : AuthResult) (n : ℕ) (id : Id) (m : ℕ) → m ≢ n → Stays s m before.after
    → Stays s m (add_behind before n id).after
shows_behind s before n id m apart stays =
    at_if (λ (x : AuthResult). Stays s m x.after) before.is_accepted _ _
    (λ _. shows before.after n id m apart ∙ stays) (λ _. stays)

shows_digest : (s : SessionTable) (n : ℕ) (digest : Id) (m : ℕ) → m ≢ n → Stays s m (add_digest s n digest).after
shows_digest s n digest m apart =
    at_if (λ (x : AuthResult). Stays s m x.after) (is_super_digest s.terms.super_digest digest.id) _ _
    (λ _. shows_behind s (add_id s n super_id) n digest m apart (shows s n super_id m apart))
    (λ _. shows s n digest m apart)

shows_by : (s : SessionTable) (n : ℕ) (o : Option (List ℕ)) (m : ℕ) → m ≢ n → Stays s m (auth_by s n o).after
shows_by s n None m apart = refl
shows_by s n (Some text) m apart = shows_digest s n (digest_id text) m apart

abbrev Leaves : SessionTable → ℕ → ConnectResult → Type 0
Leaves s m x = x.connected.older ≢ Some m → Stays s m x.after

gives : (s : SessionTable) (n : ℕ) (session time_out : ℤ) (m : ℕ) → m ≢ n
    → Leaves s m (give_session s n session time_out)
gives s n session time_out m apart stays =
    put_elsewhere (close_if_some s (connection_of s session)) m n (session_client s session time_out) apart
    ∙ closes_one s (connection_of s session) m stays

connects : (s : SessionTable) (n : ℕ) (lives : Bool) (request : SessionRequest) (m : ℕ) → m ≢ n
    → Leaves s m (connect_session s n lives request)
connects s n lives request m apart =
    at_if (Leaves s m) (int_eq request.session_id (pos 0)) _ _
    (λ _. at_if (Leaves s m) (s.counter == greatest_counter) _ _ (λ _ _. refl) (λ _ _. refl))
    (λ _. at_if (Leaves s m) (is_valid s lives request) _ _
    (λ _. gives s n request.session_id request.time_out m apart)
    (λ _ _. refl))

pub others_stay : OtherConnectionsStay
others_stay = record {
  connects = connects;
  admits = gives;
  shows = shows;
  auths = λ s n scheme bytes m apart. shows_by s n (digest_text scheme bytes) m apart;
  closes = λ s n m apart. closes_as s n (finmap.get s.connections n) m apart;
  expires = λ s session m apart. closes_one s (connection_of s session) m apart;
}
