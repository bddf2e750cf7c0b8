use Rattle.std.proofs.Common.{refl}
use Rattle.std.specs.Str.{is_utf8, chars}
use lib.Utf8.{encode}
use Rattle.replay_script.proofs.examples.bad_lines.Goals as goal

pub returns : goal.returns
unfolding is_utf8 chars encode
returns c = record {
  server = refl;
  counter = refl;
  two_blanks = refl;
  sign = refl;
  large = refl;
  two_addresses = refl;
  no_address = refl;
  release = refl;
  no_dialect = refl;
  no_super = refl;
  empty_super = refl;
  bytes_of_super = refl;
  bounds = refl;
  blank_behind = refl;
  nothing = refl;
  odd = refl;
  short = refl;
  tab = refl;
}
