-- Rows that were worked out by hand: the figures of an observer, and its answers.
use Rattle.std.specs.Prelude.{◌≡◌, ℕ, ℤ, pos, negsuc, List, [], ◌∷◌, ◌++◌, true, false, codes}
use Rattle.std.specs.FinMap as finmap
use Rattle.std.specs.FinSet as set
use Rattle.ephemerals.specs.Orders.{Bytes}
use Rattle.watch_manager.specs.declared.counts.WatchCounts.{WatchCounts}
use Rattle.watch_manager.specs.declared.watched.Table.{Table}
use Rattle.watch_manager.specs.declared.watched.Table.TheVariants.{Own, Child, Lasting}
use Rattle.four_letter.specs.Texts.{reply_text}
use Rattle.four_letter.specs.declared.figures.Figures.{Figures}
use Rattle.four_letter.specs.declared.figures.WatchRow.{WatchRow}
use Rattle.four_letter.specs.declared.word.Word.TheVariants.{Ruok, Isro, Srvr, Mntr, Wchs, Wchp, Wchc, Dump}

abbrev pub watch_counts : ℕ → ℕ → ℕ → WatchCounts
watch_counts connections paths watches = record { connections = connections; paths = paths; watches = watches }

-- One connection has a session, and the tree has the three preset nodes.
abbrev pub primed_figures : Figures
primed_figures = record {
  serving = true;
  last = pos 0;
  connections = 1;
  paths = 3;
  pairs = 0;
  watched = watch_counts 0 0 0;
  watches = [];
  timeouts = finmap.empty;
  ephemerals = set.empty;
}

abbrev pub leaderless_figures : Figures
leaderless_figures = record primed_figures { serving = false }

abbrev pub watch_row : Bytes → ℕ → ℤ → Table → WatchRow
watch_row path connection session table = record
    { path = path; connection = connection; session = session; table = table }

-- The first session of server 3, 0x300000000000001.
abbrev pub first_session : ℤ
first_session = pos 216172782113783809

-- Connection 1 watches the children of the root and the data of /a.
abbrev pub one_watcher_figures : Figures
one_watcher_figures = record primed_figures {
  paths = 4;
  watched = watch_counts 1 2 2;
  watches = watch_row (codes "/") 1 first_session Child ∷ watch_row (codes "/a") 1 first_session Own ∷ [];
}

-- The session of connection 1 watches /a in all tables, those of connections 2 and 3 in one. The session of connection
-- 2 is one of server 255, whose ids are negative.
abbrev pub three_watcher_figures : Figures
three_watcher_figures = record primed_figures {
  watched = watch_counts 3 2 5;
  watches =
      watch_row (codes "/a") 1 first_session Own ∷ watch_row (codes "/a") 1 first_session Child
      ∷ watch_row (codes "/a") 1 first_session Lasting ∷ watch_row (codes "/a") 2 (negsuc 72057594037927934) Own
      ∷ watch_row (codes "/b") 3 (pos 0) Lasting ∷ [];
}

-- The first sessions of servers 3 and 255, and session 5, with their timeouts.
abbrev pub three_sessions : List (ℤ × ℤ)
three_sessions =
    (first_session, pos 10000) ∷ (pos 5, pos 40000) ∷ (negsuc 72057594037927934, pos 4000) ∷ []

-- The ephemeral nodes of two of them.
abbrev pub three_nodes : List (ℤ × Bytes)
three_nodes = (first_session, codes "/b") ∷ (pos 5, codes "/c") ∷ (first_session, codes "/a/e") ∷ []

abbrev pub three_session_figures : Figures
three_session_figures = record primed_figures {
  timeouts = finmap.from_entries three_sessions;
  ephemerals = set.from_list three_nodes;
}

pub record WorkedRows : Type 0 where
  pub ruok : reply_text Ruok leaderless_figures ≡ codes "imok"
  pub isro : reply_text Isro primed_figures ≡ codes "rw"
  pub isro_without_leader : reply_text Isro leaderless_figures ≡ codes "null"
  pub srvr : reply_text Srvr primed_figures ≡ codes "Connections: 1\nZxid: 0x0\nMode: observer\nNode count: 4\n"
  pub srvr_without_leader : reply_text Srvr leaderless_figures ≡ codes "not serving\n"
  pub mntr :
      reply_text Mntr primed_figures
      ≡ codes "zk_server_state\tobserver\nzk_num_alive_connections\t1\nzk_znode_count\t4\n"
      ++ codes "zk_watch_count\t0\nzk_ephemerals_count\t0\n"
  pub wchs : reply_text Wchs primed_figures ≡ codes "0 connections watching 0 paths\nTotal watches:0\n"
  pub wchp : reply_text Wchp primed_figures ≡ []
  pub wchs_one : reply_text Wchs one_watcher_figures ≡ codes "1 connections watching 2 paths\nTotal watches:2\n"
  pub wchp_one : reply_text Wchp one_watcher_figures ≡ codes "/\n\t0x300000000000001\n/a\n\t0x300000000000001\n"
  pub wchs_three : reply_text Wchs three_watcher_figures ≡ codes "3 connections watching 2 paths\nTotal watches:5\n"
  pub wchp_three :
      reply_text Wchp three_watcher_figures ≡ codes "/a\n\t0xff00000000000001\n\t0x300000000000001\n/b\n\t0x0\n"
  pub wchc : reply_text Wchc primed_figures ≡ []
  pub wchc_one : reply_text Wchc one_watcher_figures ≡ codes "0x300000000000001\n\t/\n\t/a\n"
  pub wchc_three :
      reply_text Wchc three_watcher_figures ≡ codes "0xff00000000000001\n\t/a\n0x0\n\t/b\n0x300000000000001\n\t/a\n"
  pub dump :
      reply_text Dump primed_figures
      ≡ codes "SessionTracker dump:\nGlobal Sessions(0):\nephemeral nodes dump:\nSessions with Ephemerals (0):\n"
  pub dump_three :
      reply_text Dump three_session_figures
      ≡ codes "SessionTracker dump:\nGlobal Sessions(3):\n0xff00000000000001\t4000ms\n0x5\t40000ms\n"
      ++ codes "0x300000000000001\t10000ms\nephemeral nodes dump:\nSessions with Ephemerals (2):\n0x5:\n\t/c\n"
      ++ codes "0x300000000000001:\n\t/a/e\n\t/b\n"
  pub dump_without_leader : reply_text Dump leaderless_figures ≡ codes "not serving\n"
