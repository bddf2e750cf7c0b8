-- The steps that keep sessions and connections in agreement.
use Rattle.std.proofs.Common.{◌≡◌, ◌⊎◌, inl, inr, ℕ, ◌+◌, ◌^◌, ◌<◌, ◌≤◌, ℤ, true, false, List, [], ◌∷◌, ◌++◌, length, Option, Some, None, refl, sym, ap, subst, ◌∙◌, arith}
use Rattle.std.specs.Prelude.{IsTrue, nat_le}
use Rattle.std.specs.Ordering.{eq_by_cmp, nat_cmp, int_cmp}
use Rattle.std.specs.List.{All}
use Rattle.std.specs.Cmp.{nat_cmp_total, int_cmp_total}
use Rattle.std.proofs.lemmas.Bool.{leb-true}
use Rattle.std.proofs.lemmas.List.Elements.{All-nil, All-push}
use Rattle.std.proofs.lemmas.List.Sums.{sum_by_push}
use Rattle.std.proofs.lemmas.Map.Lookups.{exact_unsigned, exact_signed}
use Rattle.std.specs.FinMap as finmap
use Rattle.settings.specs.Settings.{is_server_id, is_first_counter}
use Rattle.jute.specs.Owned.{id_in, id_format}
use Rattle.jute.specs.declared.owned.Id.{Id}
use Rattle.sessions.specs.State.{SessionSettings, ConnectedClient, SessionOwners, ConnectedClients, SessionTable, session_table_of}
use Rattle.sessions.specs.Sessions.{no_sessions, close_connection, close_as, close_if_some, expire_owner, session_response, give_session, new_connection, with_session_connected, with_id, ids_in, ids_of, ids_limit, ids_bytes_limit, id_len, bytes_of_ids, are_within_limits}
use Rattle.sessions.specs.Agreement.{SessionsAgree, SessionsAreApart}
use Rattle.sessions.proofs.Cases.{first_of, second_of}
use Rattle.sessions.proofs.Numbers.{first_below}
use Rattle.std.proofs.lemmas.Option.{none-some}
use Rattle.values.proofs.Keyed.{some-some, apart, other, same_or_other, inserted, inserted_elsewhere, removed, removed_elsewhere, at_inserted, at_removed, remove_absent, insert_removed, remove_past_insert}

-- A connection that has this session.
abbrev pub Has : ℤ → ConnectedClients → ℕ → Type 0
Has session connections n = (c : ConnectedClient) × ((finmap.get connections n ≡ Some c) × (c.session ≡ session))

abbrev pub AtOwner : SessionOwners → ℤ → ℕ → ℤ → ℕ → Type 0
AtOwner owners key new session n =
    ((session ≡ key) × (new ≡ n)) ⊎ ((eq_by_cmp int_cmp session key ≡ false) × (finmap.get owners session ≡ Some n))

abbrev pub AtConnection : ConnectedClients → ℕ → ConnectedClient → ℕ → ConnectedClient → Type 0
AtConnection connections key new n c =
    ((n ≡ key) × (new ≡ c)) ⊎ ((eq_by_cmp nat_cmp n key ≡ false) × (finmap.get connections n ≡ Some c))

-- ---- nothing yet

pub none_agree : (terms : SessionSettings) (counter : ℕ) → IsTrue (is_server_id terms.server_id) → counter < 2 ^ 56
    → SessionsAgree (session_table_of terms counter finmap.empty finmap.empty)
none_agree terms counter h below = record {
  server_id = h;
  counter = below;
  owners = λ n c e. absurd (none-some c (sym (finmap.get-empty nat_cmp n) ∙ e));
  connections = λ session n e. absurd (none-some n (sym (finmap.get-empty int_cmp session) ∙ e));
  ids = λ n c e. absurd (none-some c (sym (finmap.get-empty nat_cmp n) ∙ e));
  bytes = λ n c e. absurd (none-some c (sym (finmap.get-empty nat_cmp n) ∙ e));
  writable = λ n c e. absurd (none-some c (sym (finmap.get-empty nat_cmp n) ∙ e));
}

pub starts : (terms : SessionSettings) → IsTrue (is_server_id terms.server_id)
    → IsTrue (is_first_counter terms.first_counter) → SessionsAgree (no_sessions terms)
starts terms h fits = none_agree terms terms.first_counter h (first_below terms.first_counter fits)

-- ---- no two connections have one session

pub sessions_are_apart : SessionsAreApart
sessions_are_apart s a m n c d at_m at_n same =
    some-some (sym (a.owners m c at_m) ∙ ap (finmap.get s.owners) same ∙ a.owners n d at_n)

-- ---- a connection closes

pub closed : (s : SessionTable) (n : ℕ) (c : ConnectedClient) → SessionsAgree s → finmap.get s.connections n ≡ Some c
    → SessionsAgree (close_as s n (Some c))
closed s n c a here = record {
  server_id = a.server_id;
  counter = a.counter;
  owners = λ m d e.
      let was = at_removed nat_cmp_total exact_unsigned s.connections n m d e in
      removed_elsewhere int_cmp_total exact_signed s.owners c.session d.session
      (other int_cmp_total exact_signed d.session c.session
      (λ same. apart nat_cmp_total exact_unsigned m n was.0 (sessions_are_apart s a m n d c was.1 here same)))
      ∙ a.owners m d was.1;
  connections = λ session m e. still session m (at_removed int_cmp_total exact_signed s.owners c.session session m e);
  ids = λ m d e. a.ids m d (at_removed nat_cmp_total exact_unsigned s.connections n m d e).1;
  bytes = λ m d e. a.bytes m d (at_removed nat_cmp_total exact_unsigned s.connections n m d e).1;
  writable = λ m d e. a.writable m d (at_removed nat_cmp_total exact_unsigned s.connections n m d e).1;
}
  where
    still : (session : ℤ) (m : ℕ)
        → (eq_by_cmp int_cmp session c.session ≡ false) × (finmap.get s.owners session ≡ Some m)
        → Has session (finmap.remove s.connections n) m
    still session m b =
        let old = a.connections session m b.1 in (
          old.0,
          (
            removed_elsewhere nat_cmp_total exact_unsigned s.connections n m
                (other nat_cmp_total exact_unsigned m n (λ same. apart int_cmp_total exact_signed session c.session b.0
                (sym old.1.1 ∙ ap (λ (x : ConnectedClient). x.session)
                (some-some (sym old.1.0 ∙ ap (finmap.get s.connections) same ∙ here)))))
                ∙ old.1.0,
            old.1.1,
          ),
        )

-- Removing a connection that has no session changes nothing.
pub unclosed : (s : SessionTable) (n : ℕ) → finmap.get s.connections n ≡ None
    → record s { connections = finmap.remove s.connections n } ≡ close_connection s n
unclosed s n none =
    (λ i. record s { connections = remove_absent nat_cmp_total exact_unsigned s.connections n none i })
    ∙ ap (close_as s n) (sym none)

-- The connection of a session closes.
pub closing : (s : SessionTable) (session : ℤ) (n : ℕ) → SessionsAgree s → finmap.get s.owners session ≡ Some n
    → close_connection s n ≡ record s {
      owners = finmap.remove s.owners session;
      connections =
          finmap.remove s.connections n;
    }
closing s session n a has =
    let at = a.connections session n has in
    ap (close_as s n) at.1.0
    ∙ ap (λ (t : ℤ). record s {
      owners = finmap.remove s.owners t;
      connections = finmap.remove s.connections n;
    }) at.1.1

pub closing_agrees : (s : SessionTable) (session : ℤ) (n : ℕ) → SessionsAgree s
    → finmap.get s.owners session ≡ Some n
    → SessionsAgree (record s {
      owners = finmap.remove s.owners session;
      connections =
          finmap.remove s.connections n;
    })
closing_agrees s session n a has =
    let at = a.connections session n has in
    subst (λ (t : ℤ). SessionsAgree (record s {
      owners = finmap.remove s.owners t;
      connections = finmap.remove s.connections n;
    })) at.1.1 (closed s n at.0 a at.1.0)

-- ---- a session ends

-- No connection has it.
pub expires_nothing : (s : SessionTable) (session : ℤ) → finmap.get s.owners session ≡ None
    → expire_owner s session ≡ record { closed = None; after = record s { owners = finmap.remove s.owners session } }
expires_nothing s session none =
    ap (λ (o : Option ℕ). record { closed = o; after = close_if_some s o }) none
    ∙ (λ i. record {
      closed = None;
      after = record s
          { owners = sym (remove_absent int_cmp_total exact_signed s.owners session none) i };
    })

-- Its connection closes.
pub expires_closing : (s : SessionTable) (session : ℤ) (n : ℕ) → SessionsAgree s
    → finmap.get s.owners session ≡ Some n
    → expire_owner s session ≡ record {
      closed = Some n;
      after = record s
          { owners = finmap.remove s.owners session; connections = finmap.remove s.connections n };
    }
expires_closing s session n a has =
    ap (λ (o : Option ℕ). record { closed = o; after = close_if_some s o }) has
    ∙ ap (λ (x : SessionTable). record { closed = Some n; after = x }) (closing s session n a has)

-- ---- a connection without a session gets one that no connection has

pub joins : (s : SessionTable) (n : ℕ) (session time_out : ℤ) → SessionsAgree s → finmap.get s.connections n ≡ None
    → finmap.get s.owners session ≡ None → SessionsAgree (with_session_connected s n session time_out)
joins s n session time_out a none free = record {
  server_id = a.server_id;
  counter = a.counter;
  owners = λ m d e. has m d (at_inserted nat_cmp_total exact_unsigned s.connections n new m d e);
  connections = λ t m e. of t m (at_inserted int_cmp_total exact_signed s.owners session n t m e);
  ids = λ m d e. few m d (at_inserted nat_cmp_total exact_unsigned s.connections n new m d e);
  bytes = λ m d e. small m d (at_inserted nat_cmp_total exact_unsigned s.connections n new m d e);
  writable = λ m d e. able m d (at_inserted nat_cmp_total exact_unsigned s.connections n new m d e);
}
  where
    new : ConnectedClient
    new = new_connection session time_out

    has : (m : ℕ) (d : ConnectedClient) → AtConnection s.connections n new m d
        → finmap.get (finmap.insert s.owners session n) d.session ≡ Some m
    has m d (inl b) =
        (λ i. finmap.get (finmap.insert s.owners session n) ((sym b.1 i).session))
        ∙ inserted int_cmp_total exact_signed s.owners session n
        ∙ ap Some (sym b.0)
    has m d (inr b) =
        inserted_elsewhere int_cmp_total exact_signed s.owners session n d.session
        (other int_cmp_total exact_signed d.session session
        (λ same. none-some m (sym free ∙ sym (ap (finmap.get s.owners) same) ∙ a.owners m d b.1)))
        ∙ a.owners m d b.1

    of : (t : ℤ) (m : ℕ) → AtOwner s.owners session n t m → Has t (finmap.insert s.connections n new) m
    of t m (inl b) = (
      new,
      (
        ap (finmap.get (finmap.insert s.connections n new)) (sym b.1)
            ∙ inserted nat_cmp_total exact_unsigned s.connections n new,
        sym b.0,
      ),
    )
    of t m (inr b) =
        let old = a.connections t m b.1 in (
          old.0,
          (
            inserted_elsewhere nat_cmp_total exact_unsigned s.connections n new m
                (other nat_cmp_total exact_unsigned m n
                (λ same. none-some old.0 (sym none ∙ sym (ap (finmap.get s.connections) same) ∙ old.1.0)))
                ∙ old.1.0,
            old.1.1,
          ),
        )

    few : (m : ℕ) (d : ConnectedClient) → AtConnection s.connections n new m d → length d.ids ≤ ids_limit
    few m d (inl b) = subst (λ (x : ConnectedClient). length x.ids ≤ ids_limit) b.1 (omega arith)
    few m d (inr b) = a.ids m d b.1

    small : (m : ℕ) (d : ConnectedClient) → AtConnection s.connections n new m d
        → bytes_of_ids d.ids ≤ ids_bytes_limit
    small m d (inl b) = subst (λ (x : ConnectedClient). bytes_of_ids x.ids ≤ ids_bytes_limit) b.1 (omega arith)
    small m d (inr b) = a.bytes m d b.1

    able : (m : ℕ) (d : ConnectedClient) → AtConnection s.connections n new m d → All id_format.Writable d.ids
    able m d (inl b) = subst (λ (x : ConnectedClient). All id_format.Writable x.ids) b.1 (All-nil id_format.Writable)
    able m d (inr b) = a.writable m d b.1

-- ---- a connection without a session gets one that may have an older connection

-- The two connections differ, since one has a session and the other has none.
older_apart : (s : SessionTable) (session : ℤ) (n older : ℕ) → SessionsAgree s → finmap.get s.connections n ≡ None
    → finmap.get s.owners session ≡ Some older → older ≡ n → ⊥
older_apart s session n older a none has same =
    let at = a.connections session older has in
    none-some at.0 (sym none ∙ sym (ap (finmap.get s.connections) same) ∙ at.1.0)

-- The connection that is given the session.
abbrev pub session_client : SessionTable → ℤ → ℤ → ConnectedClient
session_client s session time_out = new_connection session (session_response s.terms session time_out).time_out

-- An older connection has it.
pub gives_older : (s : SessionTable) (n : ℕ) (session time_out : ℤ) (older : ℕ) → SessionsAgree s
    → finmap.get s.connections n ≡ None → finmap.get s.owners session ≡ Some older
    → give_session s n session time_out ≡ record {
      connected = record { response = session_response s.terms session time_out; older = Some older };
      after = record s {
        owners = finmap.insert s.owners session n;
        connections = finmap.remove (finmap.insert s.connections n (session_client s session time_out)) older;
      };
    }
gives_older s n session time_out older a none has =
    ap (λ (o : Option ℕ). record {
      connected = record { response = session_response s.terms session time_out; older = o };
      after = with_session_connected (close_if_some s o) n session (session_client s session time_out).time_out;
    }) has
    ∙ ap (λ (x : SessionTable). record {
      connected = record { response = session_response s.terms session time_out; older = Some older };
      after = with_session_connected x n session (session_client s session time_out).time_out;
    }) (closing s session older a has)
    ∙ (λ i. record {
      connected = record { response = session_response s.terms session time_out; older = Some older };
      after = record s {
        owners = insert_removed int_cmp_total exact_signed s.owners session n i;
        connections =
            sym (remove_past_insert nat_cmp_total exact_unsigned s.connections n (session_client s session time_out) older
            (other nat_cmp_total exact_unsigned older n (older_apart s session n older a none has))) i;
      };
    })

pub joins_older : (s : SessionTable) (n : ℕ) (session time_out : ℤ) (older : ℕ) → SessionsAgree s
    → finmap.get s.connections n ≡ None
    → finmap.get s.owners session ≡ Some older
    → SessionsAgree (record s {
      owners = finmap.insert s.owners session n;
      connections = finmap.remove (finmap.insert s.connections n (new_connection session time_out)) older;
    })
joins_older s n session time_out older a none has =
    subst (λ (x : SessionOwners × ConnectedClients). SessionsAgree (record s { owners = x.0; connections = x.1 }))
    (λ i. (
      insert_removed int_cmp_total exact_signed s.owners session n i,
      sym (remove_past_insert nat_cmp_total exact_unsigned s.connections n (new_connection session time_out) older
          (other nat_cmp_total exact_unsigned older n (older_apart s session n older a none has))) i,
    ))
    (joins (record s
    { owners = finmap.remove s.owners session; connections = finmap.remove s.connections older }) n session time_out
    (closing_agrees s session older a has)
    (removed_elsewhere nat_cmp_total exact_unsigned s.connections older n
    (other nat_cmp_total exact_unsigned n older (λ same. older_apart s session n older a none has (sym same)))
    ∙ none)
    (removed int_cmp_total exact_signed s.owners session))

-- No connection has it.
pub gives_free : (s : SessionTable) (n : ℕ) (session time_out : ℤ) → finmap.get s.owners session ≡ None
    → give_session s n session time_out ≡ record {
      connected = record { response = session_response s.terms session time_out; older = None };
      after = with_session_connected s n session (session_client s session time_out).time_out;
    }
gives_free s n session time_out free =
    ap (λ (o : Option ℕ). record {
      connected = record { response = session_response s.terms session time_out; older = o };
      after = with_session_connected (close_if_some s o) n session (session_client s session time_out).time_out;
    }) free

-- ---- the ids of a connection

pub few_ids : (s : SessionTable) (n : ℕ) → SessionsAgree s → length (ids_of s n) ≤ ids_limit
few_ids s n a = by (finmap.get s.connections n) refl
  where
    by : (o : Option ConnectedClient) → finmap.get s.connections n ≡ o → length (ids_in o) ≤ ids_limit
    by None e = omega arith
    by (Some c) e = a.ids n c e

pub small_ids : (s : SessionTable) (n : ℕ) → SessionsAgree s → bytes_of_ids (ids_of s n) ≤ ids_bytes_limit
small_ids s n a = by (finmap.get s.connections n) refl
  where
    by : (o : Option ConnectedClient) → finmap.get s.connections n ≡ o → bytes_of_ids (ids_in o) ≤ ids_bytes_limit
    by None e = omega arith
    by (Some c) e = a.bytes n c e

pub writable_ids : (s : SessionTable) (n : ℕ) → SessionsAgree s → All id_format.Writable (ids_of s n)
writable_ids s n a = by (finmap.get s.connections n) refl
  where
    by : (o : Option ConnectedClient) → finmap.get s.connections n ≡ o → All id_format.Writable (ids_in o)
    by None e = All-nil id_format.Writable
    by (Some c) e = a.writable n c e

-- ---- an id is added

-- Ids within the limits are few, and so are their bytes.
are_few : (ids : List Id) → are_within_limits ids ≡ true → length ids ≤ ids_limit
are_few ids fit = leb-true (length ids) ids_limit (first_of (nat_le (length ids) ids_limit) _ fit)

are_small : (ids : List Id) → are_within_limits ids ≡ true → bytes_of_ids ids ≤ ids_bytes_limit
are_small ids fit = leb-true (bytes_of_ids ids) ids_bytes_limit (second_of (nat_le (length ids) ids_limit) _ fit)

-- So the last of them can be written in a packet.
last_writable : (ids : List Id) (id : Id) → bytes_of_ids (ids ++ id ∷ []) ≤ ids_bytes_limit → id_format.Writable id
unfolding id_in
last_writable ids id small =
    let all : bytes_of_ids (ids ++ id ∷ []) ≡ bytes_of_ids ids + id_len id = sum_by_push id_len ids id in
    (omega (arith, all, small), omega (arith, all, small))

pub shows : (s : SessionTable) (n : ℕ) (c : ConnectedClient) (id : Id) → SessionsAgree s
    → finmap.get s.connections n ≡ Some c
    → are_within_limits (with_id c id).ids ≡ true
    → SessionsAgree (record s { connections = finmap.insert s.connections n (with_id c id) })
shows s n c id a here fit = record {
  server_id = a.server_id;
  counter = a.counter;
  owners = λ m d e. has m d (at_inserted nat_cmp_total exact_unsigned s.connections n (with_id c id) m d e);
  connections = λ t m e. of t m e (same_or t m e);
  ids = λ m d e. few m d (at_inserted nat_cmp_total exact_unsigned s.connections n (with_id c id) m d e);
  bytes = λ m d e. small m d (at_inserted nat_cmp_total exact_unsigned s.connections n (with_id c id) m d e);
  writable = λ m d e. able m d (at_inserted nat_cmp_total exact_unsigned s.connections n (with_id c id) m d e);
}
  where
    has : (m : ℕ) (d : ConnectedClient) → AtConnection s.connections n (with_id c id) m d
        → finmap.get s.owners d.session ≡ Some m
    has m d (inl b) =
        (λ i. finmap.get s.owners ((sym b.1 i).session)) ∙ a.owners n c here ∙ ap Some (sym b.0)
    has m d (inr b) = a.owners m d b.1

    same_or : (t : ℤ) (m : ℕ) → finmap.get s.owners t ≡ Some m → (m ≡ n) ⊎ (eq_by_cmp nat_cmp m n ≡ false)
    same_or t m e = same_or_other nat_cmp_total exact_unsigned m n

    of : (t : ℤ) (m : ℕ) → finmap.get s.owners t ≡ Some m → (m ≡ n) ⊎ (eq_by_cmp nat_cmp m n ≡ false)
        → Has t (finmap.insert s.connections n (with_id c id)) m
    of t m e (inl same) =
        let old = a.connections t m e in
        let session : c.session ≡ t =
        ap (λ (x : ConnectedClient). x.session) (some-some
        (sym here ∙ sym (ap (finmap.get s.connections) same) ∙ old.1.0)) ∙ old.1.1 in (
          with_id c id,
          (
            ap (finmap.get (finmap.insert s.connections n (with_id c id))) same
                ∙ inserted nat_cmp_total exact_unsigned s.connections n (with_id c id),
            session,
          ),
        )
    of t m e (inr f) =
        let old = a.connections t m e in (
          old.0,
          (inserted_elsewhere nat_cmp_total exact_unsigned s.connections n (with_id c id) m f ∙ old.1.0, old.1.1),
        )

    few : (m : ℕ) (d : ConnectedClient) → AtConnection s.connections n (with_id c id) m d → length d.ids ≤ ids_limit
    few m d (inl b) = subst (λ (x : ConnectedClient). length x.ids ≤ ids_limit) b.1 (are_few (with_id c id).ids fit)
    few m d (inr b) = a.ids m d b.1

    small : (m : ℕ) (d : ConnectedClient) → AtConnection s.connections n (with_id c id) m d
        → bytes_of_ids d.ids ≤ ids_bytes_limit
    small m d (inl b) =
        subst (λ (x : ConnectedClient). bytes_of_ids x.ids ≤ ids_bytes_limit) b.1 (are_small (with_id c id).ids fit)
    small m d (inr b) = a.bytes m d b.1

    able : (m : ℕ) (d : ConnectedClient) → AtConnection s.connections n (with_id c id) m d
        → All id_format.Writable d.ids
    able m d (inl b) =
        subst (λ (x : ConnectedClient). All id_format.Writable x.ids) b.1
        (All-push id_format.Writable c.ids id (a.writable n c here)
        (last_writable c.ids id (are_small (with_id c id).ids fit)))
    able m d (inr b) = a.writable m d b.1

-- ---- the next counter

pub counts : (s : SessionTable) → SessionsAgree s → s.counter + 1 < 2 ^ 56
    → SessionsAgree (record s { counter = s.counter + 1 })
counts s a below = record {
  server_id = a.server_id;
  counter = below;
  owners = a.owners;
  connections = a.connections;
  ids = a.ids;
  bytes = a.bytes;
  writable = a.writable;
}
