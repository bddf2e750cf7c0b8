use Rattle.std.proofs.Common.{refl}
use Rattle.std.specs.Str.{is_utf8, chars}
use lib.Utf8.{encode}
use Rattle.replay_script.proofs.examples.lines.Goals as goal

pub returns : goal.returns
unfolding is_utf8 chars encode
returns c = record {
  empty = refl;
  server = refl;
  counter = refl;
  epochs = refl;
  timeouts = refl;
  secret = refl;
  dialect = refl;
  later_dialect = refl;
  super_user = refl;
  leader_up = refl;
  leader_bytes = refl;
  client_up = refl;
  client_address = refl;
  client_bytes = refl;
  client_end = refl;
  expire = refl;
}
