-- The answer to each word. The lines are those of ZooKeeper 3.8 in its order, without the lines whose figures aren't
-- known here.
use Rattle.std.specs.Prelude.{◌≡◌, ◌==◌, ℕ, ◌+◌, ◌*◌, ◌/◌, ◌%◌, ℤ, List, [], ◌++◌, Option, Some, None, false, if◌then◌else◌, codes, decimal}
use Rattle.std.specs.List.{flat_map}
use Rattle.std.specs.Int.{w64, cast_unsigned}
use Rattle.std.specs.Fmt.{radix_digits}
use Rattle.settings.specs.declared.dialect.Dialect.{Dialect}
use Rattle.settings.specs.declared.dialect.Dialect.TheVariants.{Zk34, Zk38}
use Rattle.server_words.specs.declared.figures.Latency.{Latency}
use Rattle.server_words.specs.declared.figures.Descriptors.{Descriptors}
use Rattle.server_words.specs.declared.figures.ServerFigures.{ServerFigures}
use Rattle.server_words.specs.declared.figures.ServerSettings.{ServerSettings}
use Rattle.server_words.specs.declared.figures.ClientFigures.{ClientFigures}
use Rattle.server_words.specs.declared.figures.Report.{Report}
use Rattle.server_words.specs.declared.word.ServerWord.{ServerWord}
use Rattle.server_words.specs.declared.word.ServerWord.TheVariants.{Srvr, Stat, Mntr, Conf, Envi, Dirs, Cons, Crst, Srst}

-- The average in ten-thousandths of a millisecond, rounded down.
abbrev pub mean_latency : Latency → ℕ
mean_latency l = if l.count == 0 then 0 else l.total * 10 / l.count

-- Four digits after the point.
abbrev pub four_places : ℕ → List ℕ
four_places n = decimal (n / 1000 % 10) ++ decimal (n / 100 % 10) ++ decimal (n / 10 % 10) ++ decimal (n % 10)

-- 3.4 has whole milliseconds, the later dialect four places.
abbrev pub average_text : Dialect → Latency → List ℕ
average_text Zk34 l = decimal (mean_latency l / 10000)
average_text Zk38 l = decimal (mean_latency l / 10000) ++ codes "." ++ four_places (mean_latency l)

-- ZooKeeper has the root under two names, and counts it twice.
abbrev pub node_total : ServerFigures → ℕ
node_total f = f.paths + 1

abbrev pub version_line : List ℕ → List ℕ
version_line version = codes "Zookeeper version: " ++ version ++ codes "\n"

abbrev pub state_traffic : ServerFigures → List ℕ → List ℕ
state_traffic f average =
    codes "Latency min/avg/max: " ++ decimal (f.latency.least / 1000) ++ codes "/" ++ average ++ codes "/"
    ++ decimal (f.latency.most / 1000)
    ++ codes "\nReceived: " ++ decimal f.received
    ++ codes "\nSent: " ++ decimal f.sent
    ++ codes "\nConnections: " ++ decimal f.connections
    ++ codes "\nOutstanding: " ++ decimal f.outstanding ++ codes "\n"

-- The 64 bits of two's complement in lower-case hexadecimal digits, without leading zeros.
abbrev pub zxid_line : ℤ → List ℕ
zxid_line zxid = codes "Zxid: 0x" ++ radix_digits 16 false (cast_unsigned w64 zxid) ++ codes "\n"

abbrev pub mode_text : ServerFigures → List ℕ
mode_text f = codes "Mode: observer\nNode count: " ++ decimal (node_total f) ++ codes "\n"

abbrev pub state_text : Report → List ℕ
state_text r =
    state_traffic r.figures (average_text r.dialect r.figures.latency) ++ zxid_line r.figures.zxid
    ++ mode_text r.figures

abbrev pub srvr_report : Report → List ℕ
srvr_report r = version_line r.version ++ state_text r

abbrev pub line_at : List ℕ → ClientFigures → List ℕ
line_at address c =
    codes " /" ++ address ++ codes "[1](queued=" ++ decimal c.queued ++ codes ",recved=" ++ decimal c.received
    ++ codes ",sent=" ++ decimal c.sent ++ codes ")\n"

abbrev pub client_line : ClientFigures → List ℕ
client_line c = line_at c.address c

abbrev pub stat_text : Report → List ℕ
stat_text r =
    version_line r.version ++ codes "Clients:\n" ++ flat_map client_line r.clients ++ codes "\n" ++ state_text r

abbrev pub cons_text : Report → List ℕ
cons_text r = flat_map client_line r.clients ++ codes "\n"

abbrev pub mntr_state : List ℕ → List ℕ
mntr_state version =
    codes "zk_version\t" ++ version
    ++ codes "\nzk_server_state\tobserver\nzk_peer_state\tobserving - broadcast\n"

abbrev pub traffic_of : ServerFigures → List ℕ → List ℕ
traffic_of f average =
    codes "zk_ephemerals_count\t" ++ decimal f.pairs
    ++ codes "\nzk_num_alive_connections\t" ++ decimal f.connections
    ++ codes "\nzk_avg_latency\t" ++ average
    ++ codes "\nzk_outstanding_requests\t" ++ decimal f.outstanding ++ codes "\n"

abbrev pub mntr_traffic : Report → List ℕ
mntr_traffic r = traffic_of r.figures (average_text r.dialect r.figures.latency)

abbrev pub mntr_tree : ServerFigures → List ℕ
mntr_tree f =
    codes "zk_znode_count\t" ++ decimal (node_total f)
    ++ codes "\nzk_global_sessions\t" ++ decimal f.sessions
    ++ codes "\nzk_packets_sent\t" ++ decimal f.sent
    ++ codes "\nzk_packets_received\t" ++ decimal f.received
    ++ codes "\nzk_watch_count\t" ++ decimal f.watches
    ++ codes "\nzk_min_latency\t" ++ decimal (f.latency.least / 1000) ++ codes "\n"

abbrev pub descriptor_lines : Descriptors → List ℕ
descriptor_lines d =
    codes "zk_max_file_descriptor_count\t" ++ decimal d.most
    ++ codes "\nzk_open_file_descriptor_count\t" ++ decimal d.count ++ codes "\n"

-- These lines are there where the system tells of descriptors.
abbrev pub mntr_descriptors : Option Descriptors → List ℕ
mntr_descriptors None = []
mntr_descriptors (Some d) = descriptor_lines d

abbrev pub mntr_end : ServerFigures → List ℕ
mntr_end f =
    codes "zk_uptime\t" ++ decimal f.uptime
    ++ codes "\nzk_max_latency\t" ++ decimal (f.latency.most / 1000)
    ++ codes "\nzk_connection_rejected\t" ++ decimal f.rejected ++ codes "\n"

abbrev pub mntr_report : Report → List ℕ
mntr_report r =
    mntr_state r.version ++ mntr_traffic r ++ mntr_tree r.figures ++ mntr_descriptors r.figures.descriptors
    ++ mntr_end r.figures

-- A server whose peerType is 1 is an observer.
abbrev pub conf_text : ServerSettings → List ℕ
conf_text s =
    codes "clientPort=" ++ decimal s.client_port
    ++ codes "\ntickTime=" ++ decimal s.tick
    ++ codes "\nmaxClientCnxns=" ++ decimal s.per_address
    ++ codes "\nminSessionTimeout=" ++ decimal s.least_timeout
    ++ codes "\nmaxSessionTimeout=" ++ decimal s.greatest_timeout
    ++ codes "\nserverId=" ++ decimal s.server_id
    ++ codes "\ninitLimit=" ++ decimal s.init_limit
    ++ codes "\nsyncLimit=" ++ decimal s.sync_limit ++ codes "\npeerType=1\n"

abbrev pub envi_text : List ℕ → List ℕ
envi_text version = codes "Environment:\nzookeeper.version=" ++ version ++ codes "\n"

-- The text of a word, while clients are served.
abbrev pub told_text : ServerWord → Report → List ℕ
told_text Srvr r = srvr_report r
told_text Stat r = stat_text r
told_text Mntr r = mntr_report r
told_text Conf r = conf_text r.settings
told_text Envi r = envi_text r.version
told_text Dirs r = codes "datadir_size: 0\nlogdir_size: 0\n"
told_text Cons r = cons_text r
told_text Crst r = codes "Connection stats reset.\n"
told_text Srst r = codes "Server stats reset.\n"

abbrev pub text_while_serving : Report → List ℕ → List ℕ
text_while_serving r told =
    if r.figures.serving then told else codes "This ZooKeeper instance is not currently serving requests\n"

-- The version is told at any time.
abbrev pub answer_text : ServerWord → Report → List ℕ
answer_text Srvr r = text_while_serving r (told_text Srvr r)
answer_text Stat r = text_while_serving r (told_text Stat r)
answer_text Mntr r = text_while_serving r (told_text Mntr r)
answer_text Conf r = text_while_serving r (told_text Conf r)
answer_text Envi r = told_text Envi r
answer_text Dirs r = text_while_serving r (told_text Dirs r)
answer_text Cons r = text_while_serving r (told_text Cons r)
answer_text Crst r = text_while_serving r (told_text Crst r)
answer_text Srst r = text_while_serving r (told_text Srst r)

-- The word's answer is the same whatever clients are listed.
abbrev pub TellsOfNoClient : ServerWord → Type 0
TellsOfNoClient word = (r : Report) (clients : List ClientFigures)
    → answer_text word (record r { clients = clients }) ≡ answer_text word r
