-- What is read in a dialect. The definitions ask for a field of this record, and for no release.
use Rattle.std.specs.Prelude.{Bool, true, false}
use Rattle.settings.specs.declared.dialect.Dialect.{Dialect}
use Rattle.settings.specs.declared.dialect.Dialect.TheVariants.{Zk34, Zk38}
use Rattle.settings.specs.declared.dialect.Reads.{Reads}

abbrev pub is_later : Dialect → Bool
is_later Zk34 = false
is_later Zk38 = true

abbrev pub reads_of : Dialect → Reads
reads_of dialect = record {
  trailer = is_later dialect;
  lists_paths = is_later dialect;
  lenient_parts = is_later dialect;
  extended_types = is_later dialect;
  moved_sessions = is_later dialect;
  surrogates = is_later dialect;
  later_requests = is_later dialect;
}

abbrev pub default_dialect : Dialect
default_dialect = Zk34
