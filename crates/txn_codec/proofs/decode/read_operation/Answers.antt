use Rattle.std.proofs.Common.{inl, inr}
use Rattle.txn_codec.proofs.decode.read_operation.Goals as goal

pub returns-in-Create : goal.returns-in-Create
returns-in-Create c = elim c.in-Create.is [
  | inl e ↦ rw e (rw e at c.read_created.ensures)
  | inr others ↦ elim others [
    | inl e ↦ rw e (rw e at c.read_created.ensures)
    | inr last ↦ elim last [
      | inl e ↦ rw e (rw e at c.read_created.ensures)
      | inr e ↦ rw e (rw e at c.read_created.ensures)
    ]
  ]
]
