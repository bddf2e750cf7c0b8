-- What a key means to an observer.
use Rattle.std.specs.Prelude.{ℕ, ◌==◌, ◌||◌, ◌&&◌, not, List, [], ◌∷◌, Bool, false, Option, Some, None, is_some, position, nat_eq, if◌then◌else◌, codes}
use Rattle.std.specs.List.{list_any, starts_with}
use Rattle.std.specs.Option.{option_map, unwrap_or}
use Rattle.std.specs.Str.{bytes_eq}
use Rattle.values.specs.Maybe.{◌>>=◌}
use Rattle.texts.specs.Number.{number_up_to}
use Rattle.zoo_config.specs.Addresses.{is_negative_up_to, port_in}
use Rattle.zoo_config.specs.declared.form.Entry.{Entry}
use Rattle.zoo_config.specs.declared.error.BadLine.{BadLine}
use Rattle.zoo_config.specs.declared.error.Reason.{Reason}
use Rattle.zoo_config.specs.declared.error.Reason.TheVariants.{Escape, Tls, Sasl, LocalSessions, MasterPort}
use Rattle.zoo_config.specs.declared.key.Meaning.{Meaning}
use Rattle.zoo_config.specs.declared.key.Meaning.TheVariants.{Taken, Idle, Unheeded, Unknown, Refused}

abbrev pub is_one_of : List (List ℕ) → List ℕ → Bool
is_one_of all text = list_any (λ one. bytes_eq one text) all

abbrev pub begins_as_one_of : List (List ℕ) → List ℕ → Bool
begins_as_one_of fronts text = list_any (λ front. starts_with nat_eq text front) fronts

-- ---- what is refused

abbrev pub is_off : List ℕ → Bool
is_off value = bytes_eq value (codes "false")

abbrev pub has_escape : List ℕ → Bool
has_escape text = is_some (position (λ byte. byte == 92) text)

abbrev pub asks_for_tls : List ℕ → List ℕ → Bool
asks_for_tls key value =
    bytes_eq key (codes "secureClientPort") || bytes_eq key (codes "secureClientPortAddress")
    || starts_with nat_eq key (codes "ssl.") || (bytes_eq key (codes "sslQuorum") && not (is_off value))

abbrev pub is_sasl_switch : List ℕ → Bool
is_sasl_switch key =
    is_one_of
    (codes "quorum.auth.enableSasl" ∷ codes "quorum.auth.learnerRequireSasl" ∷ codes "quorum.auth.serverRequireSasl"
    ∷ codes "sessionRequireClientSASLAuth" ∷ [])
    key

abbrev pub asks_for_sasl : List ℕ → List ℕ → Bool
asks_for_sasl key value =
    begins_as_one_of (codes "authProvider" ∷ codes "enforce.auth." ∷ codes "kerberos." ∷ []) key
    || bytes_eq key (codes "requireClientAuthScheme") || (is_sasl_switch key && not (is_off value))

-- Followers serve observers at a port. A number that isn't above zero stands for none.
abbrev pub is_master_port : List ℕ → Bool
is_master_port value = is_some (port_in value) || is_negative_up_to 2147483648 value

abbrev pub has_wrong_port : List ℕ → List ℕ → Bool
has_wrong_port key value = bytes_eq key (codes "observerMasterPort") && not (is_master_port value)

abbrev pub reason_of : List ℕ → List ℕ → Option Reason
reason_of key value =
    if has_escape key || has_escape value then Some Escape
    else (if asks_for_tls key value then Some Tls
    else (if asks_for_sasl key value then Some Sasl
    else (if bytes_eq key (codes "localSessionsEnabled") && not (is_off value) then Some LocalSessions
    else (if has_wrong_port key value then Some MasterPort
    else None))))

-- ---- what is heeded

abbrev pub is_taken : List ℕ → Bool
is_taken key =
    starts_with nat_eq key (codes "server.")
    || is_one_of
    (codes "dynamicConfigFile" ∷ codes "dataDir" ∷ codes "clientPort" ∷ codes "clientPortAddress"
    ∷ codes "observerMasterPort" ∷ codes "tickTime" ∷ codes "initLimit" ∷ codes "syncLimit"
    ∷ codes "minSessionTimeout" ∷ codes "maxSessionTimeout" ∷ codes "maxClientCnxns" ∷ codes "maxCnxns"
    ∷ codes "4lw.commands.whitelist"
    ∷ codes "DigestAuthenticationProvider.superDigest" ∷ [])
    key

-- The class that serves metrics over HTTP.
abbrev pub is_prometheus : List ℕ → Bool
is_prometheus class =
    bytes_eq class (codes "org.apache.zookeeper.metrics.prometheus.PrometheusMetricsProvider")

-- The classes that are followed: that one, and those that serve nothing.
abbrev pub is_provider : List ℕ → Bool
is_provider class =
    is_prometheus class
    || bytes_eq class (codes "org.apache.zookeeper.metrics.impl.DefaultMetricsProvider")
    || bytes_eq class (codes "org.apache.zookeeper.metrics.impl.NullMetricsProvider")

-- It says where metrics are served, or whether they are.
abbrev pub sets_metrics : List ℕ → List ℕ → Bool
sets_metrics key value =
    bytes_eq key (codes "metricsProvider.httpPort") || bytes_eq key (codes "metricsProvider.httpHost")
    || (bytes_eq key (codes "metricsProvider.className") && is_provider value)

-- It has a meaning for an observer, but none here.
abbrev pub is_unheeded : List ℕ → Bool
is_unheeded key =
    starts_with nat_eq key (codes "metricsProvider.")
    || is_one_of (codes "skipACL" ∷ codes "globalOutstandingLimit" ∷ []) key

abbrev pub asks_for_reconfiguration : List ℕ → List ℕ → Bool
asks_for_reconfiguration key value = bytes_eq key (codes "reconfigEnabled") && not (is_off value)

-- It speaks of voters, of elections, of files, or of what is off.
abbrev pub is_of_servers : List ℕ → Bool
is_of_servers key =
    begins_as_one_of (codes "group." ∷ codes "weight." ∷ codes "observer." ∷ codes "multiAddress." ∷ []) key
    || is_one_of
    (codes "peerType" ∷ codes "standaloneEnabled" ∷ codes "electionAlg" ∷ codes "quorumListenOnAllIPs"
    ∷ codes "reconfigEnabled" ∷ codes "leaderServes" ∷ codes "digest.enabled" ∷ codes "version" ∷ [])
    key

abbrev pub is_of_files : List ℕ → Bool
is_of_files key =
    begins_as_one_of (codes "autopurge." ∷ codes "snapshot." ∷ codes "admin." ∷ []) key
    || is_one_of
    (codes "syncEnabled" ∷ codes "forceSync" ∷ codes "fsync.warningthresholdms" ∷ codes "dataLogDir" ∷ codes "snapCount"
    ∷ codes "preAllocSize" ∷ codes "commitLogCount" ∷ codes "snapSizeLimitInKb" ∷ codes "txnLogSizeLimitInKb" ∷ [])
    key

abbrev pub is_switched_off : List ℕ → Bool
is_switched_off key =
    starts_with nat_eq key (codes "quorum.auth.")
    || is_one_of
    (codes "sslQuorum" ∷ codes "sessionRequireClientSASLAuth" ∷ codes "localSessionsEnabled" ∷ [])
    key

abbrev pub meaning_of : List ℕ → List ℕ → Meaning
meaning_of key value =
    if is_taken key || sets_metrics key value then Taken
    else (if is_unheeded key || asks_for_reconfiguration key value then Unheeded
    else (if is_of_servers key || is_of_files key || is_switched_off key then Idle
    else Unknown))

abbrev pub meaning_with : Option Reason → Meaning → Meaning
meaning_with None meaning = meaning
meaning_with (Some reason) meaning = Refused reason

-- ---- a file

abbrev pub bad_line : Entry → Option Reason → Option BadLine
bad_line entry None = None
bad_line entry (Some reason) = Some (record { line = entry.line; reason = reason })

abbrev pub or_later : Option BadLine → Option BadLine → Option BadLine
or_later None later = later
or_later (Some line) later = Some line

-- The first entry that is refused, if there is one.
abbrev pub first_refused : List Entry → Option BadLine
first_refused [] = None
first_refused (entry ∷ entries) =
    or_later (bad_line entry (reason_of entry.key entry.value)) (first_refused entries)

-- The value of a key among entries after which others follow: a later line wins.
abbrev pub value_after : List ℕ → Option (List ℕ) → List Entry → Option (List ℕ)
value_after key found [] = found
value_after key found (entry ∷ entries) =
    value_after key (if bytes_eq entry.key key then Some entry.value else found) entries

abbrev pub value_in : List ℕ → List Entry → Option (List ℕ)
value_in key entries = value_after key None entries

-- What ZooKeeper takes for a key that no line has.
abbrev pub key_default : List ℕ → Option (List ℕ)
key_default key =
    if bytes_eq key (codes "tickTime") then Some (codes "3000")
    else (if bytes_eq key (codes "maxClientCnxns") then Some (codes "60")
    else (if bytes_eq key (codes "maxCnxns") then Some (codes "0")
    else (if bytes_eq key (codes "4lw.commands.whitelist") then Some (codes "srvr")
    else (if bytes_eq key (codes "metricsProvider.httpPort") then Some (codes "7000")
    else (if bytes_eq key (codes "metricsProvider.httpHost") then Some (codes "0.0.0.0")
    else None)))))

abbrev pub or_default : List ℕ → Option (List ℕ) → Option (List ℕ)
or_default key None = key_default key
or_default key (Some value) = Some value

-- Metrics are served over HTTP where the file names the class for it.
abbrev pub serves_metrics : List Entry → Bool
serves_metrics entries =
    unwrap_or (option_map is_prometheus (value_in (codes "metricsProvider.className") entries)) false

abbrev pub setting_in : List ℕ → List Entry → Option (List ℕ)
setting_in key entries = or_default key (value_in key entries)

-- ---- where followers serve observers

abbrev pub unless_zero : List ℕ → Option (List ℕ)
unless_zero port = if is_some (number_up_to 0 port) then None else Some port

-- The port for it, if a file has one: 0 is none, and a number below it is no port.
abbrev pub master_port : List Entry → Option (List ℕ)
master_port entries = value_in (codes "observerMasterPort") entries >>= port_in >>= unless_zero
