use Rattle.settings.specs.Dialects.{reads_of}
use Rattle.txn_codec.proofs.Spelled.{kind_sound, part_kind_sound, header_sound}
use Rattle.txn_codec.proofs.Bodies.{part_sound, parts_sound, body_at_end, txn_at_end}
use Rattle.txn_codec.proofs.Naming.{written_again, refusal_names, naming_answers}
use Rattle.txn_codec.proofs.law.transactions_in.Goals as goal

pub returns : goal.returns
returns c = record {
  header = header_sound c.args.dialect;
  kind = kind_sound (reads_of c.args.dialect);
  part_kind = part_kind_sound (reads_of c.args.dialect);
  part = part_sound (reads_of c.args.dialect);
  parts = parts_sound (reads_of c.args.dialect);
  body = body_at_end (reads_of c.args.dialect);
  txn = txn_at_end c.args.dialect;
  again = written_again c.args.dialect;
  names = refusal_names c.args.dialect;
  answers = naming_answers c.args.dialect;
}
