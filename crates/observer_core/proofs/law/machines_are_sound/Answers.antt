use Rattle.observer_core.proofs.law.machines_are_sound.Goals as goal

pub returns : goal.returns
returns c = record {
  starts = λ settings id counter. record {
    agrees = c.connections_agree.ensures.starts settings id counter;
    quiet = c.sessions_are_served.ensures.starts settings;
    live = c.connected_sessions_live.ensures.starts settings;
    awaits = c.nothing_waits_in_vain.ensures.starts settings;
    follows = c.logs_are_followed.ensures.starts settings;
    rests = c.silent_without_leader.ensures.starts settings;
  };
  starts_primed = λ settings id counter. record {
    agrees = c.connections_agree.ensures.starts_primed settings id counter;
    quiet = c.sessions_are_served.ensures.starts_primed settings;
    live = c.connected_sessions_live.ensures.starts_primed settings;
    awaits = c.nothing_waits_in_vain.ensures.starts_primed settings;
    follows = c.logs_are_followed.ensures.starts_primed settings;
    rests = c.silent_without_leader.ensures.starts_primed settings;
  };
  plays = λ m events sound. record {
    agrees = c.connections_agree.ensures.plays m events sound.agrees;
    quiet = c.sessions_are_served.ensures.plays m events sound.agrees sound.quiet;
    live = c.connected_sessions_live.ensures.plays m events sound.agrees sound.quiet sound.live;
    awaits = c.nothing_waits_in_vain.ensures.plays m events sound.agrees sound.awaits;
    follows = c.logs_are_followed.ensures.plays m events sound.follows;
    rests = c.silent_without_leader.ensures.plays m events sound.agrees sound.rests;
  };
}
