use Rattle.std.proofs.Common.{◌+◌, drop, refl, ap, subst, sym, ◌∙◌}
use Rattle.std.proofs.lemmas.List.{drop_all}
use Rattle.std.proofs.lemmas.Map.Lookups.{exact_bytes}
use Rattle.std.specs.FinSet as set
use Rattle.pairs.proofs.Adding.{IsAdding, adding-first, adding-one, adding-all, next_element}
use Rattle.ephemerals.proofs.Totals.{path_total}
use Rattle.ephemerals.proofs.text_set.TextSet.from_keys.Goals as goal

pub loop-key-init : goal.loop-key-init
loop-key-init c =
    let keys = c.args.keys.now in
    subst (IsAdding path_total exact_bytes set.empty (set.from_list keys) keys) (sym c.new-texts.ensures)
    (adding-first path_total exact_bytes set.empty (set.from_list keys) keys refl)

pub loop-key-preserved : goal.loop-key-preserved
loop-key-preserved c =
    let keys = c.args.keys.now in
    adding-one path_total exact_bytes set.empty (set.from_list keys) c.loop-key.texts c.insert.new.self
    c.key-item.result (drop (c.loop-key.key-index + 1) keys)
    (subst (λ ks. IsAdding path_total exact_bytes set.empty (set.from_list keys) ks c.loop-key.texts)
    (next_element keys c.loop-key.key-index c.key-item.result c.loop-key-test.true c.key-item.is) c.loop-key.invariant)
    (c.in_ok-insert.ensures.ok ∙ ap (set.insert c.loop-key.texts) c.as_str.ensures)

pub returns : goal.returns
returns c =
    let keys = c.args.keys.now in
    adding-all path_total exact_bytes (set.from_list keys) c.loop-key.texts
    (subst (λ ks. IsAdding path_total exact_bytes set.empty (set.from_list keys) ks c.loop-key.texts)
    (drop_all c.loop-key.key-index keys c.loop-key-test.false) c.loop-key.invariant)
