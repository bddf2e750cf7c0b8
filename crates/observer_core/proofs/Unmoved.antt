-- The events of clients leave the replica, and so do answers to them.
use Rattle.std.proofs.Common.{◌≡◌, ℕ, ℤ, List, Option, Some, None, Bool, true, false, cond, refl, ◌∙◌}
use Rattle.replica.specs.declared.item_outcome.LeaderNews.{LeaderNews}
use Rattle.sessions.specs.Sessions.{connection_of, give_session, expire_owner}
use Rattle.world.specs.World.{OpenConnection, World}
use Rattle.world.specs.Clients.{idle_connection, is_open, with_connection, without_client}
use Rattle.world.specs.Sending.{with_sessions, close_client_if_some}
use Rattle.client_service.specs.Serve.{take_client_bytes, address_for, open_client, end_client, expire_session}
use Rattle.observer_core.specs.Leader.{answer_news}
use Rattle.observer_core.proofs.Walking.{Steps, HoldsOfReplies, HoldsOfCalls, HoldsOfConnects, client_makes}
use Rattle.observer_core.proofs.Answered.{HoldsOfAll, news_make}
use Rattle.observer_core.proofs.Plain.{Always, plain_ground, plain_answer_ground}

abbrev SameReplica : World → World → Type 0
SameReplica w v = v.replica ≡ w.replica

abbrev LeavesReplica : Steps
LeavesReplica w h = SameReplica w h.after

left_same : (w : World) (left : Option ℕ) → SameReplica w (close_client_if_some w left).after
left_same w None = refl
left_same w (Some n) = refl

replies_same : (n : ℕ) → HoldsOfReplies n Always LeavesReplica
replies_same n = record {
  thens = λ w h next first second. second ∙ first;
  stays = λ w. refl;
  closes = λ w a. refl;
  sends = λ w bytes shows. refl;
  watches = λ w watch a. refl;
  unwatches = λ w kind path a. refl;
  shows = λ w id a. refl;
}

calls_same : (n : ℕ) → HoldsOfCalls n Always (λ session. Unit {0}) LeavesReplica
calls_same n = record {
  touches = λ w session own a. refl;
  leaves = λ w k there a. refl;
  writes = λ w session frame xid kind own a. refl;
  syncs = λ w session frame xid path own a. refl;
  holds = λ w frame busy a. refl;
}

connects_same : (n : ℕ) → HoldsOfConnects n Always (λ session. Unit {0}) (λ w session. Unit {0}) LeavesReplica
connects_same n = record {
  own = λ session. tt;
  counts = λ w none a. refl;
  gives = λ w session time_out free may a.
      let c = give_session w.clients.sessions n session time_out in
      left_same (with_sessions w c.after) c.connected.older;
  asks = λ w time_out has_byte none idle a b. refl;
  displaces = λ w session k with a. refl;
  claims = λ w has_byte response move none idle a. refl;
  may = λ w session live. tt;
}

-- A client connects or leaves.
pub open_same : (n : ℕ) (address : Option (List ℕ)) (w : World) → SameReplica w (open_client n address w)
open_same n address w = by (is_open n w.clients)
  where
    by : (b : Bool) → SameReplica w (cond b w
        (record w { clients = with_connection n (idle_connection (address_for address w.settings.dialect)) w.clients }))
    by true = refl
    by false = refl

pub end_same : (n : ℕ) (w : World) → SameReplica w (end_client n w)
end_same n w = by (is_open n w.clients)
  where
    by : (b : Bool) → SameReplica w (cond b (record w { clients = without_client n w.clients }) w)
    by true = refl
    by false = refl

pub expire_same : (w : World) (session : ℤ) → SameReplica w (expire_session w session).after
expire_same w session =
    left_same (with_sessions w (expire_owner w.clients.sessions session).after)
    (connection_of w.clients.sessions session)

pub client_same : (serving : Bool) (n : ℕ) (w : World) (o : Option OpenConnection) (bytes : List ℕ)
    → SameReplica w (take_client_bytes serving n w o bytes).after
client_same serving n w o bytes =
    (client_makes n ⊥ Always LeavesReplica (plain_ground n) (replies_same n) (λ session. Unit {0}) (calls_same n)
    (λ w session. Unit {0}) (connects_same n) (λ w k rest a. refl) serving w o bytes tt).is

all_same : HoldsOfAll ⊥ Always LeavesReplica
all_same = record {
  ground = plain_ground;
  answer_ground = plain_answer_ground;
  settles_ground = λ w a. tt;
  tells_ground = λ w timeouts a. tt;
  replies = replies_same;
  calls = calls_same;
  connects = connects_same;
  answers = λ n. record { takes = λ w a. refl; answers = λ w xid txn_kind a. refl; drops = λ w a. refl };
  settles = λ w a. refl;
  tells = λ w ping a. refl;
}

-- Answering clients leaves the replica.
pub news_same : (o : Option LeaderNews) (w : World) → SameReplica w (answer_news o w).after
news_same o w = (news_make ⊥ Always LeavesReplica all_same (λ n w bytes. refl) o w tt).is
