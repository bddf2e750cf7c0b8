use Rattle.std.proofs.Common.{◌≡◌, ℤ, w32, w64, to_z, of_z, None, sym, ap, ◌∙◌, rules}
use Rattle.std.specs.Prelude.{IsTrue}
use Rattle.std.specs.Ordering.{nat_cmp}
use Rattle.std.specs.FinMap as finmap
use Rattle.settings.specs.Settings.{is_first_counter}
use Rattle.sessions.specs.Sessions.{ConnectResult, name_session, give_session}
use Rattle.sessions.proofs.Numbers.{first_not_last}
use Rattle.sessions.proofs.Cases.{next_named, names_next}
use Rattle.world.specs.declared.world.Settings.{Settings}
use Rattle.world.specs.World.{Clients}
use Rattle.world.specs.Clients.{idle_connection, with_connection, no_clients}
use Rattle.observer_core.proofs.engine.open_first.Goals as goal

pub connect-requires : goal.connect-requires
connect-requires c =
    ap (λ (k : Clients). finmap.get k.sessions.connections 1) (c.clients.view_is ∙ c.requires.nobody)
    ∙ finmap.get-empty nat_cmp 1

-- The first id is given out.
named_first : (settings : Settings) (k : Clients) (time_out : ℤ) (x : ConnectResult)
    → IsTrue (is_first_counter settings.first_counter) → k ≡ no_clients settings
    → name_session k.sessions time_out ≡ x → x ≡ next_named (no_clients settings).sessions time_out
named_first settings k time_out x begins is named =
    sym named ∙ ap (λ (k : Clients). name_session k.sessions time_out) is
    ∙ names_next (no_clients settings).sessions time_out (first_not_last settings.first_counter begins)

pub admit-requires : goal.admit-requires
admit-requires c =
    ap (λ (x : ConnectResult). finmap.get x.after.connections 1) (named_first c.args.settings.now _ _ _
    c.requires.begins (c.clients.view_is ∙ c.requires.nobody) c.in_ok-named.ensures.ok)
    ∙ finmap.get-empty nat_cmp 1

pub returns : goal.returns
returns c =
    let is = c.clients.view_is ∙ c.requires.nobody in
    let named = named_first c.args.settings.now _ _ _ c.requires.begins is c.in_ok-named.ensures.ok in
    let given = c.in_ok-named.named.response.session_id in
    let same_id : to_z w64 (of_z w64 given) ≡ given = search rules in
    let same_time : to_z w32 (of_z w32 c.greatest-time_out.result) ≡ c.args.settings.now.timeouts.greatest =
    search rules in
    let id = same_id ∙ ap (λ (x : ConnectResult). x.connected.response.session_id) named in
    let sessions = ap (λ (x : ConnectResult). x.after) (sym c.in_ok-admit.ensures.ok)
    ∙ (λ i. (give_session (named i).after 1 (id i) (same_time i)).after) in
    record {
      session = id;
      clients = c.in_ok-open.ensures
          ∙ (λ i. with_connection 1 (idle_connection None) (record (is i) { sessions = sessions i }));
    }
