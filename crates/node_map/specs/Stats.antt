-- The Stat of a node, as clients see it (Stat of zookeeper.jute). Java's 32-bit numbers wrap.
use Rattle.std.specs.Prelude.{ℕ, ℤ, pos, ◌%◌, ◌^◌, List, Option, Some, None, length}
use Rattle.std.specs.Int.{int_wrapping_sub, int_wrapping_mul, cast_signed, w32}
use Rattle.std.specs.FinSet as set
use Rattle.jute.specs.declared.stat.Stat.{Stat}
use Rattle.ephemerals.specs.Orders.{Names}
use Rattle.node_map.specs.declared.node.Node.{Node}
use Rattle.jute.specs.declared.stat.StatPersisted.{StatPersisted}

abbrev pub java_int : ℕ → ℤ
java_int n = cast_signed w32 (n % 2 ^ 32)

-- Null has the length 0.
abbrev pub length_or_zero : Option (List ℕ) → ℕ
length_or_zero None = 0
length_or_zero (Some bytes) = length bytes

-- It counts creates and deletes of children; the stored number counts creates alone.
abbrev pub shown_cversion : ℤ → ℤ → ℤ
shown_cversion stored children = int_wrapping_sub w32 (int_wrapping_mul w32 stored (pos 2)) children

-- From the stored stat, the number of children, and the length of the data in bytes.
abbrev pub shown_stat : StatPersisted → ℤ → ℤ → Stat
shown_stat stat children bytes = record {
  czxid = stat.czxid;
  mzxid = stat.mzxid;
  ctime = stat.ctime;
  mtime = stat.mtime;
  version = stat.version;
  cversion = shown_cversion stat.cversion children;
  aversion = stat.aversion;
  ephemeral_owner = stat.ephemeral_owner;
  data_length = bytes;
  num_children = children;
  pzxid = stat.pzxid;
}

abbrev pub stat_of : Node → Stat
stat_of node = shown_stat node.stat (java_int (set.len node.children)) (java_int (length_or_zero node.bytes))

abbrev pub children_of : Node → Names
children_of node = node.children
