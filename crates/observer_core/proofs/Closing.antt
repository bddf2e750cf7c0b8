-- The open connections after a client's step: each was open before, with the same waiting bytes.
use Rattle.std.proofs.Common.{◌≡◌, ℕ, Bool, true, List, Option, Some, None, refl, sym, ap, ◌∙◌}
use Rattle.std.specs.Option.{unwrap_or}
use Rattle.std.specs.Ordering.{eq_by_cmp, nat_cmp}
use Rattle.std.specs.Cmp.{nat_cmp_total}
use Rattle.std.proofs.lemmas.Bool.{cond_both}
use Rattle.std.proofs.lemmas.Map.Lookups.{exact_unsigned}
use Rattle.std.proofs.lemmas.Map.Views.{tells_apart}
use Rattle.std.specs.FinMap as finmap
use Rattle.sessions.specs.Sessions.{give_session}
use Rattle.world.specs.World.{OpenConnection, World}
use Rattle.world.specs.Clients.{with_connection}
use Rattle.world.specs.Sending.{close_client, with_sessions, close_client_if_some}
use Rattle.client_service.specs.Serve.{serve_frame}
use Rattle.world.proofs.NatMaps.{still_there}
use Rattle.observer_core.proofs.Walking.{Steps, HoldsOfReplies, HoldsOfCalls, HoldsOfConnects, serve_makes}
use Rattle.observer_core.proofs.Plain.{Always, plain_ground}

-- The connection was there, with the same waiting bytes.
pub record HadRest (w : World) (k : ℕ) (c : OpenConnection) : Type 0 where
  pub before : OpenConnection
  pub there : finmap.get w.clients.connections k ≡ Some before
  pub rest : c.rest ≡ before.rest

-- Each connection that is open afterwards was open before, with the same waiting bytes.
abbrev pub RestsStay : World → World → Type 0
RestsStay w v = (k : ℕ) (c : OpenConnection) → finmap.get v.clients.connections k ≡ Some c → HadRest w k c

as_it_was : (w : World) → RestsStay w w
as_it_was w k c there = record { before = c; there = there; rest = refl }

then_stay : (u v w : World) → RestsStay u v → RestsStay v w → RestsStay u w
then_stay u v w first second k c there =
    let late = second k c there in
    let early = first k late.before late.there in
    record { before = early.before; there = early.there; rest = late.rest ∙ early.rest }

close_stay : (n : ℕ) (w : World) → RestsStay w (close_client n w).after
close_stay n w k c there =
    record { before = c; there = still_there w.clients.connections n k c there; rest = refl }

left_stay : (w : World) (left : Option ℕ) → RestsStay w (close_client_if_some w left).after
left_stay w None = as_it_was w
left_stay w (Some n) = close_stay n w

-- The connection is leaving.
leave_stay : (n : ℕ) (w : World) (o : OpenConnection) → finmap.get w.clients.connections n ≡ Some o
    → RestsStay w (record w { clients = with_connection n (record o { is_leaving = true }) w.clients })
leave_stay n w o was k c there =
    cond_both (eq_by_cmp nat_cmp k n) (Some left) (finmap.get w.clients.connections k)
    (λ (x : Option OpenConnection). x ≡ Some c → HadRest w k c)
    (λ same is. record {
      before = o;
      there = ap (finmap.get w.clients.connections) (tells_apart exact_unsigned k n same) ∙ was;
      rest = ap (λ (x : Option OpenConnection). (unwrap_or x c).rest) (sym is);
    })
    (λ other is. record { before = c; there = is; rest = refl })
    (sym (finmap.get-insert nat_cmp_total w.clients.connections n left k) ∙ there)
  where
    left : OpenConnection
    left = record o { is_leaving = true }

abbrev KeepsRests : Steps
KeepsRests w h = RestsStay w h.after

replies_stay : (n : ℕ) → HoldsOfReplies n Always KeepsRests
replies_stay n = record {
  thens = λ w h next first second. then_stay w h.after (next h.after).after first second;
  stays = as_it_was;
  closes = λ w a. close_stay n w;
  sends = λ w bytes shows. as_it_was w;
  watches = λ w watch a. as_it_was w;
  unwatches = λ w kind path a. as_it_was w;
  shows = λ w id a. as_it_was w;
}

calls_stay : (n : ℕ) → HoldsOfCalls n Always (λ session. Unit {0}) KeepsRests
calls_stay n = record {
  touches = λ w session own a. as_it_was w;
  leaves = λ w k there a. leave_stay n w k there;
  writes = λ w session frame xid kind own a. as_it_was w;
  syncs = λ w session frame xid path own a. as_it_was w;
  holds = λ w frame busy a. as_it_was w;
}

connects_stay : (n : ℕ) → HoldsOfConnects n Always (λ session. Unit {0}) (λ w session. Unit {0}) KeepsRests
connects_stay n = record {
  own = λ session. tt;
  counts = λ w none a. as_it_was w;
  gives = λ w session time_out free may a.
      let c = give_session w.clients.sessions n session time_out in
      let v = with_sessions w c.after in
      then_stay w v (close_client_if_some v c.connected.older).after (as_it_was w) (left_stay v c.connected.older);
  asks = λ w time_out has_byte none idle a b. as_it_was w;
  displaces = λ w session k with a. close_stay k w;
  claims = λ w has_byte response move none idle a. as_it_was w;
  may = λ w session live. tt;
}

pub serve_closes : (serving : Bool) (n : ℕ) (w : World) (frame : List ℕ)
    → RestsStay w (serve_frame serving n w frame).after
serve_closes serving n w frame =
    (serve_makes n ⊥ Always KeepsRests (plain_ground n) (replies_stay n) (λ session. Unit {0}) (calls_stay n)
    (λ w session. Unit {0}) (connects_stay n) serving w frame (λ strict. absurd strict) tt).is
