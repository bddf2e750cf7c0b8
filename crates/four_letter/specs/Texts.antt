-- The answer to each word. But for dump, the lines, their order and the counts are this observer's own.
use Rattle.std.specs.Prelude.{◌≡◌, ℕ, ◌+◌, ℤ, List, ◌++◌, length, false, if◌then◌else◌, codes, decimal}
use Rattle.std.specs.List.{flat_map}
use Rattle.std.specs.Int.{w64, cast_unsigned}
use Rattle.std.specs.Fmt.{radix_digits, signed_decimal}
use Rattle.std.specs.FinMap as finmap
use Rattle.ephemerals.specs.Orders.{Bytes, OwnerPairs, sorted_names}
use Rattle.ephemerals.specs.Pairs.{paths_of_session}
use Rattle.data_tree.specs.Sessions.{SessionTimeouts}
use Rattle.watch_manager.specs.declared.counts.WatchCounts.{WatchCounts}
use Rattle.four_letter.specs.Watched.{watched_paths, watching_sessions, all_watching_sessions, paths_watched_by}
use Rattle.four_letter.specs.Dumped.{owning_sessions}
use Rattle.four_letter.specs.declared.figures.Figures.{Figures}
use Rattle.four_letter.specs.declared.figures.WatchRow.{WatchRow}
use Rattle.four_letter.specs.declared.word.Word.{Word}
use Rattle.four_letter.specs.declared.word.Word.TheVariants.{Ruok, Isro, Srvr, Mntr, Wchs, Wchp, Wchc, Dump}

-- The 64 bits of two's complement in lower-case hexadecimal digits, without leading zeros.
abbrev pub prefixed_hex : ℤ → List ℕ
prefixed_hex number = codes "0x" ++ radix_digits 16 false (cast_unsigned w64 number)

-- A line of a name and a value.
abbrev pub name_value_line : List ℕ → List ℕ → List ℕ
name_value_line name value = name ++ value ++ codes "\n"

-- ZooKeeper has the root under two names, and counts it twice.
abbrev pub node_count : Figures → ℕ
node_count f = f.paths + 1

abbrev pub srvr_text : Figures → List ℕ
srvr_text f =
    name_value_line (codes "Connections: ") (decimal f.connections)
    ++ name_value_line (codes "Zxid: ") (prefixed_hex f.last)
    ++ name_value_line (codes "Mode: ") (codes "observer")
    ++ name_value_line (codes "Node count: ") (decimal (node_count f))

abbrev pub mntr_text : Figures → List ℕ
mntr_text f =
    name_value_line (codes "zk_server_state\t") (codes "observer")
    ++ name_value_line (codes "zk_num_alive_connections\t") (decimal f.connections)
    ++ name_value_line (codes "zk_znode_count\t") (decimal (node_count f))
    ++ name_value_line (codes "zk_watch_count\t") (decimal f.watched.watches)
    ++ name_value_line (codes "zk_ephemerals_count\t") (decimal f.pairs)

abbrev pub wchs_text : WatchCounts → List ℕ
wchs_text watched =
    decimal watched.connections ++ codes " connections watching " ++ decimal watched.paths ++ codes " paths\n"
    ++ name_value_line (codes "Total watches:") (decimal watched.watches)

abbrev pub session_line : ℤ → List ℕ
session_line session = name_value_line (codes "\t") (prefixed_hex session)

-- A path, and on the lines after it the sessions that watch it.
abbrev pub path_block : List WatchRow → Bytes → List ℕ
path_block rows path = path ++ codes "\n" ++ flat_map session_line (watching_sessions path rows)

abbrev pub wchp_text : List WatchRow → List ℕ
wchp_text rows = flat_map (path_block rows) (watched_paths rows)

abbrev pub path_line : Bytes → List ℕ
path_line path = name_value_line (codes "\t") path

-- A session, and on the lines after it the paths that it watches.
abbrev pub watcher_block : List WatchRow → ℤ → List ℕ
watcher_block rows session =
    prefixed_hex session ++ codes "\n" ++ flat_map path_line (paths_watched_by session rows)

abbrev pub wchc_text : List WatchRow → List ℕ
wchc_text rows = flat_map (watcher_block rows) (all_watching_sessions rows)

-- A session and its timeout in milliseconds.
abbrev pub timeout_line : ℤ × ℤ → List ℕ
timeout_line s = prefixed_hex s.0 ++ codes "\t" ++ signed_decimal s.1 ++ codes "ms\n"

-- A session, and on the lines after it the paths of its ephemeral nodes.
abbrev pub owner_block : OwnerPairs → ℤ → List ℕ
owner_block pairs session =
    prefixed_hex session ++ codes ":\n" ++ flat_map path_line (sorted_names (paths_of_session session pairs))

abbrev pub counted_heading : List ℕ → ℕ → List ℕ
counted_heading title count = title ++ codes "(" ++ decimal count ++ codes "):\n"

-- The lines of ZooKeeper's observer, which has its connections after them.
abbrev pub dump_text : SessionTimeouts → OwnerPairs → List ℕ
dump_text timeouts pairs =
    codes "SessionTracker dump:\n"
    ++ counted_heading (codes "Global Sessions") (finmap.len timeouts)
    ++ flat_map timeout_line (finmap.entries timeouts)
    ++ codes "ephemeral nodes dump:\n"
    ++ counted_heading (codes "Sessions with Ephemerals ") (length (owning_sessions timeouts pairs))
    ++ flat_map (owner_block pairs) (owning_sessions timeouts pairs)

-- The text about the tree and the watches, while clients are served.
abbrev pub while_serving : Figures → List ℕ → List ℕ
while_serving f told = if f.serving then told else codes "not serving\n"

abbrev pub reply_text : Word → Figures → List ℕ
reply_text Ruok f = codes "imok"
reply_text Isro f = if f.serving then codes "rw" else codes "null"
reply_text Srvr f = while_serving f (srvr_text f)
reply_text Mntr f = while_serving f (mntr_text f)
reply_text Wchs f = while_serving f (wchs_text f.watched)
reply_text Wchp f = while_serving f (wchp_text f.watches)
reply_text Wchc f = while_serving f (wchc_text f.watches)
reply_text Dump f = while_serving f (dump_text f.timeouts f.ephemerals)

-- The word's answer is the same whatever watches are listed.
abbrev pub TellsOfNoWatch : Word → Type 0
TellsOfNoWatch word = (f : Figures) (rows : List WatchRow)
    → reply_text word (record f { watches = rows }) ≡ reply_text word f

-- The word's answer is the same whatever numbers of paths and of connections are told.
abbrev pub TellsOfWatchesAlone : Word → Type 0
TellsOfWatchesAlone word = (f : Figures) (counts : WatchCounts) → counts.watches ≡ f.watched.watches
    → reply_text word (record f { watched = counts }) ≡ reply_text word f
