use Rattle.std.proofs.Common.{rules, ◌≡◌, ◌++◌, Some, to_z, of_z, w64, ap, subst, ◌∙◌, List, ℕ, ℤ}
use Rattle.jute.specs.Format.{buffer, long}
use Rattle.jute.specs.Records.{stat_persisted}
use Rattle.jute.specs.declared.stat.StatPersisted.{StatPersisted}
use Rattle.snapshot_codec.specs.Dialects.{stored_stat}
use Rattle.snapshot_codec.proofs.Nodes.{stat_writable, four}
use Rattle.snapshot_codec.proofs.writer.put_node.Goals as goal

pub write-requires : goal.write-requires
write-requires c = stat_writable c.numbers.result

pub returns : goal.returns
returns c =
    let stat = stored_stat c.args.node.now in
    let key = c.args.key.now in
    let same : to_z w64 (of_z w64 key) ≡ key = search rules in (
      four c.args.out.now.items _ (buffer.written c.args.node.now.bytes) (long.written key)
          (stat_persisted.written stat)
          c.put_string.new.out.items c.put_blob.new.out.items c.put_long.new.out.items c.write.new.out.items
          (c.in_ok-put_string.ensures ∙ ap (λ (t : List ℕ). c.args.out.now.items ++ buffer.written (Some t))
          c.written_path.ensures)
          c.in_ok-put_blob.ensures
          (c.in_ok-put_long.ensures ∙ ap (λ (k : ℤ). c.put_blob.new.out.items ++ long.written k) same)
          (c.in_ok-write.ensures ∙ ap (λ (s : StatPersisted). c.put_long.new.out.items ++ stat_persisted.written s)
          (c.numbers.ensures.same ∙ c.stored_stat-stat.ensures)),
      (
        c.fits_text.ensures.0 (search rules),
        (
          (
            c.fits_bytes.ensures.0 (search rules),
            (
              search rules,
              subst stat_persisted.Fits c.stored_stat-stat.ensures c.numbers.ensures.fit,
            ),
          ),
          c.keeps_owner.ensures.0 (search rules),
        ),
      ),
    )
