-- Some lines and texts, and their meaning.
use Rattle.std.specs.Prelude.{◌≡◌, ℕ, ℤ, pos, negsuc, false, List, [], ◌∷◌, ◌++◌, Some, None, Ok, Err, codes}
use Rattle.settings.specs.Dialects.{default_dialect}
use Rattle.settings.specs.declared.dialect.Dialect.TheVariants.{Zk34, Zk38}
use Rattle.settings.specs.Settings.{epoch_pair, timeout_pair, default_first_counter, default_epochs, default_timeouts, default_secret}
use Rattle.replay_script.specs.Line.{line_of}
use Rattle.replay_script.specs.Script.{script_of}
use Rattle.replay_script.specs.declared.event.ScriptEvent.{ScriptEvent}
use Rattle.replay_script.specs.declared.event.ScriptEvent.TheVariants.{LeaderUp, LeaderBytes, ClientUp, ClientBytes, ClientEnd, Expire}
use Rattle.replay_script.specs.declared.event.Setting.{Setting}
use Rattle.replay_script.specs.declared.event.Setting.TheVariants.{Server, Counter, Epochs, Timeouts, Secret, Dialect, Super}
use Rattle.replay_script.specs.declared.event.Line.TheVariants.{Blank, Header, Happening}
use Rattle.replay_script.specs.declared.script.Script.{Script}

-- ---- lines

abbrev pub IsSettingLine : List ℕ → Setting → Type 0
IsSettingLine text setting = line_of text ≡ Some (Header setting)

abbrev pub IsEventLine : List ℕ → ScriptEvent → Type 0
IsEventLine text event = line_of text ≡ Some (Happening event)

abbrev pub IsBadLine : List ℕ → Type 0
IsBadLine text = line_of text ≡ None

pub record GoodLines : Type 0 where
  pub empty : line_of [] ≡ Some Blank
  pub server : IsSettingLine (codes "server 0255") (Server (pos 255))
  pub counter : IsSettingLine (codes "counter 72057594037927934") (Counter 72057594037927934)
  pub epochs : IsSettingLine (codes "epochs 2147483647 0") (Epochs (epoch_pair (pos 2147483647) (pos 0)))
  pub timeouts : IsSettingLine (codes "timeouts 7 7") (Timeouts (timeout_pair (pos 7) (pos 7)))
  pub secret : IsSettingLine (codes "secret aB ") (Secret (171 ∷ []))
  pub dialect : IsSettingLine (codes "dialect 3.4") (Dialect Zk34)
  pub later_dialect : IsSettingLine (codes "dialect 3.8") (Dialect Zk38)
  pub super_user : IsSettingLine (codes "super super:x y") (Super (codes "super:x y"))
  pub leader_up : IsEventLine (codes "leader up") LeaderUp
  pub leader_bytes : IsEventLine (codes "leader  0 0Ff") (LeaderBytes (0 ∷ 255 ∷ []))
  pub client_up : IsEventLine (codes "client 4294967295 up") (ClientUp 4294967295 None)
  pub client_address : IsEventLine (codes "client 1 up 127.0.0.1") (ClientUp 1 (Some (codes "127.0.0.1")))
  pub client_bytes : IsEventLine (codes "client 1 0a0B") (ClientBytes 1 (10 ∷ 11 ∷ []))
  pub client_end : IsEventLine (codes "client 1 end") (ClientEnd 1)
  pub expire : IsEventLine (codes "expire ff 00000000000001") (Expire (negsuc 72057594037927934))

pub record BadLines : Type 0 where
  pub server : IsBadLine (codes "server 256")
  pub counter : IsBadLine (codes "counter 72057594037927935")
  pub two_blanks : IsBadLine (codes "server  1")
  pub sign : IsBadLine (codes "client +1 up")
  pub large : IsBadLine (codes "client 4294967296 up")
  pub two_addresses : IsBadLine (codes "client 1 up ::1 ::1")
  pub no_address : IsBadLine (codes "client 1 up ")
  pub release : IsBadLine (codes "dialect 3.5")
  pub no_dialect : IsBadLine (codes "dialect")
  pub no_super : IsBadLine (codes "super")
  pub empty_super : IsBadLine (codes "super ")
  pub bytes_of_super : IsBadLine (codes "super " ++ 255 ∷ [])
  pub bounds : IsBadLine (codes "timeouts 2 1")
  pub blank_behind : IsBadLine (codes "primed ")
  pub nothing : IsBadLine (codes "leader ")
  pub odd : IsBadLine (codes "leader abc")
  pub short : IsBadLine (codes "expire ff000000000000")
  pub tab : IsBadLine (9 ∷ [])

-- ---- texts

abbrev pub with_newline : List ℕ → List ℕ
with_newline line = line ++ 10 ∷ []

-- The script with this server id and these events, and the defaults otherwise.
abbrev pub script_of_server : ℤ → List ScriptEvent → Script
script_of_server id events = record {
  server_id = id;
  first_counter = default_first_counter;
  epochs = default_epochs;
  timeouts = default_timeouts;
  secret = default_secret;
  dialect = default_dialect;
  super_digest = None;
  primed = false;
  events = events;
}

pub record WholeTexts : Type 0 where
  pub nothing : script_of [] ≡ Ok (script_of_server (pos 1) [])
  pub one_event : script_of (with_newline (codes "server 3") ++ with_newline (codes "leader up")) ≡ Ok
      (script_of_server (pos 3) (LeaderUp ∷ []))
  -- The number of the first bad line is 3: it repeats a setting.
  pub twice : script_of (with_newline (codes "primed") ++ with_newline [] ++ codes "primed") ≡ Err 3
  -- The number is 2: the line is a setting after an event.
  pub late : script_of (with_newline (codes "checkpoint") ++ with_newline (codes "server 3") ++ codes "what") ≡ Err 2
