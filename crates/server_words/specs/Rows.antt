-- Rows that were worked out by hand.
use Rattle.std.specs.Prelude.{◌≡◌, pos, [], ◌∷◌, ◌++◌, Some, None, true, false, codes}
use Rattle.settings.specs.declared.dialect.Dialect.TheVariants.{Zk34, Zk38}
use Rattle.server_words.specs.Texts.{answer_text, mntr_descriptors}
use Rattle.server_words.specs.declared.figures.Report.{Report}
use Rattle.server_words.specs.declared.figures.ServerFigures.{ServerFigures}
use Rattle.server_words.specs.declared.figures.ServerSettings.{ServerSettings}
use Rattle.server_words.specs.declared.word.ServerWord.TheVariants.{Srvr, Stat, Mntr, Conf, Envi, Dirs}

-- Three answers took 0.2, 0.8 and 1 milliseconds, and 0x500000012 is the last zxid.
abbrev pub worked_figures : ServerFigures
worked_figures = record {
  serving = true;
  latency = record { count = 3; total = 2000; least = 200; most = 1000 };
  received = 7;
  sent = 6;
  connections = 2;
  rejected = 0;
  outstanding = 1;
  zxid = pos 21474836498;
  paths = 4;
  watches = 5;
  pairs = 1;
  sessions = 3;
  uptime = 61500;
  descriptors = Some (record { count = 31; most = 1024 });
}

abbrev pub worked_settings : ServerSettings
worked_settings = record {
  client_port = 2181;
  tick = 2000;
  per_address = 60;
  least_timeout = 4000;
  greatest_timeout = 40000;
  server_id = 101;
  init_limit = 10;
  sync_limit = 5;
}

abbrev pub worked_report : Report
worked_report = record {
  version = codes "3.8.0-kezhundam";
  dialect = Zk38;
  figures = worked_figures;
  settings = worked_settings;
  clients = record { address = codes "10.0.0.7:50934"; queued = 1; received = 3; sent = 2 } ∷ [];
}

abbrev pub unserved_report : Report
unserved_report = record worked_report { figures = record worked_figures { serving = false } }

abbrev pub report_of_34 : Report
report_of_34 = record worked_report { version = codes "3.4.14-kezhundam"; dialect = Zk34 }

pub record WorkedRows : Type 0 where
  pub srvr :
      answer_text Srvr worked_report
      ≡ codes "Zookeeper version: 3.8.0-kezhundam\nLatency min/avg/max: 0/0.6666/1\nReceived: 7\nSent: 6\n"
      ++ codes "Connections: 2\nOutstanding: 1\nZxid: 0x500000012\nMode: observer\nNode count: 5\n"
  pub stat :
      answer_text Stat report_of_34
      ≡ codes "Zookeeper version: 3.4.14-kezhundam\nClients:\n /10.0.0.7:50934[1](queued=1,recved=3,sent=2)\n\n"
      ++ codes "Latency min/avg/max: 0/0/1\nReceived: 7\nSent: 6\n"
      ++ codes "Connections: 2\nOutstanding: 1\nZxid: 0x500000012\nMode: observer\nNode count: 5\n"
  pub mntr :
      answer_text Mntr worked_report
      ≡ codes "zk_version\t3.8.0-kezhundam\nzk_server_state\tobserver\nzk_peer_state\tobserving - broadcast\n"
      ++ codes "zk_ephemerals_count\t1\nzk_num_alive_connections\t2\nzk_avg_latency\t0.6666\n"
      ++ codes "zk_outstanding_requests\t1\nzk_znode_count\t5\nzk_global_sessions\t3\n"
      ++ codes "zk_packets_sent\t6\nzk_packets_received\t7\nzk_watch_count\t5\nzk_min_latency\t0\n"
      ++ codes "zk_max_file_descriptor_count\t1024\nzk_open_file_descriptor_count\t31\n"
      ++ codes "zk_uptime\t61500\nzk_max_latency\t1\nzk_connection_rejected\t0\n"
  pub mntr_without_descriptors : mntr_descriptors None ≡ []
  pub conf :
      answer_text Conf worked_report
      ≡ codes "clientPort=2181\ntickTime=2000\nmaxClientCnxns=60\nminSessionTimeout=4000\nmaxSessionTimeout=40000\n"
      ++ codes "serverId=101\ninitLimit=10\nsyncLimit=5\npeerType=1\n"
  pub unserved :
      answer_text Dirs unserved_report ≡ codes "This ZooKeeper instance is not currently serving requests\n"
  pub envi : answer_text Envi unserved_report ≡ codes "Environment:\nzookeeper.version=3.8.0-kezhundam\n"
