use Rattle.std.proofs.Common.{Some, sym, ap, ◌∙◌, w64}
use Rattle.std.specs.FinMap as finmap
use Rattle.std.proofs.lemmas.Int.{to_z-of_z}
use Rattle.snapshot_codec.proofs.Keys.{list_at}
use Rattle.snapshot_codec.proofs.acl_table.AclTable.list.Goals as goal

pub returns-in-None : goal.returns-in-None
returns-in-None c =
    rw c.in-None.is at c.get.ensures
    ∙ ap (finmap.get c.args.self.now) (to_z-of_z w64 c.args.key c.ranges.key)
    ∙ sym (list_at c.args.self.now c.args.key c.if-key-eq-OPEN_KEY.false)

pub returns-in_ok-copy-in-Some : goal.returns-in_ok-copy-in-Some
returns-in_ok-copy-in-Some c =
    ap (λ l. Some l) c.in_ok-copy-in-Some.ensures
    ∙ rw c.in-Some.is at c.get.ensures
    ∙ ap (finmap.get c.args.self.now) (to_z-of_z w64 c.args.key c.ranges.key)
    ∙ sym (list_at c.args.self.now c.args.key c.if-key-eq-OPEN_KEY.false)
