-- What an observer knows of its clients' sessions.
use Rattle.std.specs.Prelude.{◌≡◌, ℕ, ℤ, List, Option, Some, None, refl}
use Rattle.std.specs.Ordering.{nat_cmp}
use Rattle.std.specs.Coded.{Coded, code_by, coded×, coded_ℕ, coded_ℤ, coded_list, coded_option}
use Rattle.std.specs.FinMap as finmap
use Rattle.session_map.specs.SessionMap.{ConnectionBySession, connection_by_session_code}
use Rattle.settings.specs.Settings.{TimeoutPair}
use Rattle.jute.specs.declared.owned.Id.{Id}
use Rattle.sessions.specs.declared.passwords.Passwords.{Passwords}
use Rattle.sessions.specs.declared.passwords.Passwords.TheVariants.{Keyed, Java}

-- The settings that new sessions depend on.
pub record SessionSettings : Type 0 where
  pub server_id : ℤ
  pub timeouts : TimeoutPair
  pub passwords : Passwords
  -- Session ids begin after this counter.
  pub first_counter : ℕ
  -- The digest that makes a super user of a client, if there is one.
  pub super_digest : Option (List ℕ)

-- A connection that has a session, and the ids that it has added.
pub record ConnectedClient : Type 0 where
  pub session : ℤ
  -- The timeout of the session that the connection was told, in milliseconds.
  pub time_out : ℤ
  pub ids : List Id

-- For each session that a connection has here, that connection. Which sessions there are, the tree knows.
abbrev pub SessionOwners : Type 0
SessionOwners = ConnectionBySession

-- The connections that have a session, by number.
abbrev pub ConnectedClients : Type 0
ConnectedClients = finmap.FinMap nat_cmp ConnectedClient

pub record SessionTable : Type 0 where
  pub terms : SessionSettings
  -- The counter of the last session id that was given out; at first that after which they begin.
  pub counter : ℕ
  pub owners : SessionOwners
  pub connections : ConnectedClients

abbrev pub session_settings_of : ℤ → TimeoutPair → Passwords → ℕ → Option (List ℕ) → SessionSettings
session_settings_of server_id timeouts passwords first_counter super_digest = record {
  server_id = server_id;
  timeouts = timeouts;
  passwords = passwords;
  first_counter = first_counter;
  super_digest = super_digest;
}

abbrev pub session_table_of : SessionSettings → ℕ → SessionOwners → ConnectedClients → SessionTable
session_table_of terms counter owners connections =
    record { terms = terms; counter = counter; owners = owners; connections = connections }

-- ---- codes

abbrev pub timeouts_code : Coded TimeoutPair
timeouts_code =
    code_by (ℤ × ℤ) (coded× coded_ℤ coded_ℤ) (λ t. (t.least, t.greatest))
    (λ p. record { least = p.0; greatest = p.1 }) (λ _. refl)

abbrev pub secret_in : Passwords → Option (List ℕ)
secret_in (Keyed secret) = Some secret
secret_in Java = None

abbrev pub passwords_with : Option (List ℕ) → Passwords
passwords_with None = Java
passwords_with (Some secret) = Keyed secret

pub passwords_apart : (p : Passwords) → passwords_with (secret_in p) ≡ p
passwords_apart (Keyed secret) = refl
passwords_apart Java = refl

abbrev pub passwords_code : Coded Passwords
passwords_code =
    code_by (Option (List ℕ)) (coded_option (coded_list coded_ℕ)) secret_in passwords_with passwords_apart

abbrev pub session_settings_code : Coded SessionSettings
session_settings_code =
    code_by (ℤ × (TimeoutPair × (Passwords × (ℕ × Option (List ℕ)))))
    (coded× coded_ℤ (coded× timeouts_code (coded× passwords_code (coded× coded_ℕ (coded_option (coded_list coded_ℕ))))))
    (λ t. (t.server_id, (t.timeouts, (t.passwords, (t.first_counter, t.super_digest)))))
    (λ p. record {
      server_id = p.0;
      timeouts = p.1.0;
      passwords = p.1.1.0;
      first_counter = p.1.1.1.0;
      super_digest = p.1.1.1.1;
    }) (λ _. refl)

abbrev pub id_code : Coded Id
id_code =
    code_by (List ℕ × List ℕ) (coded× (coded_list coded_ℕ) (coded_list coded_ℕ)) (λ i. (i.scheme, i.id))
    (λ p. record { scheme = p.0; id = p.1 }) (λ _. refl)

abbrev pub connected_client_code : Coded ConnectedClient
connected_client_code =
    code_by (ℤ × (ℤ × List Id)) (coded× coded_ℤ (coded× coded_ℤ (coded_list id_code)))
    (λ c. (c.session, (c.time_out, c.ids))) (λ p. record { session = p.0; time_out = p.1.0; ids = p.1.1 }) (λ _. refl)

abbrev pub connected_clients_code : Coded ConnectedClients
connected_clients_code = finmap.code {R = nat_cmp} coded_ℕ connected_client_code

abbrev pub session_table_code : Coded SessionTable
session_table_code =
    code_by (SessionSettings × (ℕ × (SessionOwners × ConnectedClients)))
    (coded× session_settings_code (coded× coded_ℕ (coded× connection_by_session_code connected_clients_code)))
    (λ s. (s.terms, (s.counter, (s.owners, s.connections))))
    (λ p. record { terms = p.0; counter = p.1.0; owners = p.1.1.0; connections = p.1.1.1 }) (λ _. refl)
