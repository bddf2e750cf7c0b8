use Rattle.std.proofs.Common.{false}
use Rattle.settings.specs.declared.dialect.Dialect.TheVariants.{Zk34}
use Rattle.paths_and_acls.specs.Paths.{is_path, is_child_path}
use Rattle.txn_codec.specs.declared.kind.TxnKind.TheVariants as kinds
use Rattle.txn_codec.specs.declared.place.Place.TheVariants.{Alone}
use Rattle.txn_codec.specs.Spelling.{earlier_reads}
use Rattle.txn_codec.proofs.Spelled.{path_sound, kind_sound, part_kind_sound, create_sound, set_data_sound, set_acl_sound, check_sound, header_sound}
use Rattle.txn_codec.proofs.Bodies.{part_sound, parts_sound, body_at_end, txn_at_end}
use Rattle.txn_codec.proofs.Naming.{written_again, refusal_names, naming_answers}
use Rattle.txn_codec.proofs.law.transactions.Goals as goal

pub returns : goal.returns
returns c = record {
  path = path_sound is_path;
  child_path = path_sound is_child_path;
  kind = kind_sound earlier_reads Alone;
  part_kind = part_kind_sound earlier_reads;
  create = create_sound false kinds.Create;
  set_data = set_data_sound false;
  set_acl = set_acl_sound false;
  check = check_sound;
  header = header_sound Zk34;
  part = part_sound earlier_reads;
  parts = parts_sound earlier_reads;
  body = body_at_end earlier_reads;
  txn = txn_at_end Zk34;
  again = written_again Zk34;
  names = refusal_names Zk34;
  answers = naming_answers Zk34;
}
