use Rattle.std.proofs.Common.{rules, Global, ◌++◌, ◌+ℤ◌, append_assoc, ◌≡◌, ◌≤◌, ◌<◌, ◌+◌, suc, pos, cond, None, Some, is_some, Option, ℤ, length, sym, ap, subst, ◌∙◌, arith, to_z, of_z, w64}
use Rattle.std.specs.BTreeMap as tree
use Rattle.std.specs.BTreeMap.{btree_map_len, is_at}
use Rattle.std.specs.Map.{lookup}
use Rattle.std.specs.Option.{option_copied}
use Rattle.std.specs.Ordering.{eq_by_cmp}
use Rattle.std.proofs.lemmas.Result.{err_from_is_err_and}
use Rattle.ephemerals.specs.Orders.{path_cmp}
use Rattle.jute.specs.Format.{count_limit, long}
use Rattle.snapshot_codec.specs.Written.{with_list}
use Rattle.snapshot_codec.specs.Writes.{FitLists, IsTable, list_bytes}
use Rattle.snapshot_codec.proofs.Tables.{adds_err, looked, lookup-added, one_more, too_many}
use Rattle.snapshot_codec.proofs.key_table.KeyTable.add.Goals as goal

pub returns-in_err-bytes : goal.returns-in_err-bytes
returns-in_err-bytes c = λ lists t.
    let p = err_from_is_err_and c.from_residual.result c.from_residual.ensures.1 in
    rw (p.1, p.2) (adds_err c.args.dialect Global c.in_err-bytes.field-0.0 lists c.in-Some.list.now c.args.acl.now
    c.args.self.now
    c.in-Some.ensures.entries c.in-Some.ensures.not_open c.in_err-bytes.ensures)

pub returns-then-count : goal.returns-then-count
returns-then-count c = λ lists t h.
    let list = c.in-Some.list.now in
    let none : option_copied c.get.result ≡ None = search rules in
    let full : count_limit ≤ c.len-count.result = search rules in
    let many : c.len-count.result ≡ length lists = c.len-count.ensures.len ∙ t.many in
    too_many c.args.dialect lists list c.in-Some.ensures.not_open
    (sym (looked c.args.dialect c.args.self.now lists list c.as_slice.result.now (option_copied c.get.result) t
    c.in_ok-bytes.ensures.1
    (c.as_slice.ensures.value ∙ c.in_ok-bytes.ensures.0) c.get.ensures.value) ∙ none)
    (subst (λ n. count_limit ≤ n) many full)
    (subst (λ l. FitLists c.args.dialect (with_list lists l)) (sym c.in-Some.ensures.entries) h)

pub returns : goal.returns
returns c = λ lists t.
    let list = c.in-Some.list.now in
    let old = c.args.self.now in
    let fits = c.in_ok-bytes.ensures.1 in
    let count = c.len-count.result in
    let none : option_copied c.get.result ≡ None = search rules in
    let few : count < count_limit = search rules in
    let len : count ≡ btree_map_len old.keys = c.len-count.ensures.len in
    let cast : to_z w64 count ≡ pos count = search rules in
    let back : to_z w64 (of_z w64 (pos count +ℤ pos 1)) ≡ pos count +ℤ pos 1 = search rules in
    let next : count + 1 ≡ suc count = omega arith in
    let key : to_z w64 (of_z w64 (to_z w64 count +ℤ pos 1)) ≡ pos (suc (btree_map_len old.keys)) =
    ap (λ z. to_z w64 (of_z w64 (z +ℤ pos 1))) cast ∙ back ∙ ap pos next ∙ ap (λ n. pos (suc n)) len in
    subst (λ l. IsTable c.args.dialect (record { keys = c.insert.new.self; written = c.extend_from_slice.new.self })
    (with_list lists l))
    c.in-Some.ensures.entries
    (one_more c.args.dialect old (record { keys = c.insert.new.self; written = c.extend_from_slice.new.self }) lists
    list t fits
    c.in-Some.ensures.not_open
    (t.found list fits
    ∙ sym (looked c.args.dialect old lists list c.as_slice.result.now (option_copied c.get.result) t fits
    (c.as_slice.ensures.value ∙ c.in_ok-bytes.ensures.0) c.get.ensures.value) ∙ none)
    (subst (λ n. n < count_limit) len few)
    (λ asked h.
    ap (lookup (is_at (λ k. path_cmp (list_bytes asked) k.items))) c.in_ok-insert.ensures.entries
    ∙ lookup-added (λ k. k.items) (list_bytes asked) old.keys.entries c.in_ok-bytes.bytes
    (to_z w64 (of_z w64 (to_z w64 count +ℤ pos 1)))
    ∙ (λ i. cond (eq_by_cmp path_cmp (list_bytes asked) (c.in_ok-bytes.ensures.0 i)) (Some (key i))
    (tree.get_by (λ k. path_cmp (list_bytes asked) k.items) old.keys)))
    (c.in_ok-insert.ensures.len
    ∙ ap (λ (o : Option ℤ). btree_map_len old.keys + cond (is_some o) 0 1)
    (c.in_ok-insert.ensures.old
    ∙ ap (λ b. tree.get_by (λ k. path_cmp b k.items) old.keys) (sym c.as_slice.ensures.value)
    ∙ sym c.get.ensures.value ∙ none))
    (c.in_ok-extend_from_slice.ensures.items
    ∙ (λ i. (c.in_ok-put_long.ensures ∙ ap (λ (z : ℤ). old.written.items ++ long.written z) key) i
    ++ (c.as_slice-2.ensures.value ∙ c.in_ok-bytes.ensures.0) i)
    ∙ append_assoc old.written.items (long.written (pos (suc (btree_map_len old.keys)))) (list_bytes list)))
