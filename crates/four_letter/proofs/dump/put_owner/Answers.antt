use Rattle.std.proofs.Common.{◌≡◌, ◌++◌, [], OnOk, ap, sym, subst, ◌∙◌, append-nil, append_assoc, codes, true, false, w64}
use Rattle.std.specs.Prelude.{if◌then◌else◌}
use Rattle.std.specs.List.{flat_map}
use Rattle.std.proofs.lemmas.Int.{to_z-of_z}
use Rattle.ephemerals.specs.Orders.{sorted_names}
use Rattle.ephemerals.specs.Pairs.{paths_of_session}
use Rattle.four_letter.specs.Dumped.{has_ephemerals}
use Rattle.four_letter.specs.Texts.{prefixed_hex, path_line, owner_block}
use Rattle.four_letter.proofs.Owning.{owns_if_any}
use Rattle.four_letter.proofs.dump.put_owner.Goals as goal

pub returns-then-not-owns_any : goal.returns-then-not-owns_any
returns-then-not-owns_any c =
    let out = c.args.out.now.items in
    let pairs = c.args.ephemerals.now in
    let session = c.args.session in
    let owns : has_ephemerals pairs session ≡ false =
    ap (has_ephemerals pairs) (sym (to_z-of_z w64 session c.ranges.session))
    ∙ owns_if_any pairs _ c.owns_any.result c.owns_any.ensures
    ∙ c.if-not-owns_any.true in
    sym (append-nil out) ∙ ap (λ b. out ++ (if b then owner_block pairs session else [])) (sym owns)

pub returns : goal.returns
returns c =
    let out = c.args.out.now.items in
    let pairs = c.args.ephemerals.now in
    let session = c.args.session in
    let head = prefixed_hex session ++ codes ":\n" in
    let paths = c.in_ok-paths.paths in
    let is : paths ≡ paths_of_session session pairs =
    c.in_ok-paths.ensures ∙ ap (λ z. paths_of_session z pairs) (to_z-of_z w64 session c.ranges.session) in
    let owns : has_ephemerals pairs session ≡ true =
    ap (has_ephemerals pairs) (sym (to_z-of_z w64 session c.ranges.session))
    ∙ owns_if_any pairs _ c.owns_any.result c.owns_any.ensures
    ∙ c.if-not-owns_any.false in
    subst (λ text. OnOk c.put_paths.result (c.put_paths.new.out.items ≡ text))
    (ap (λ o. o ++ flat_map path_line (sorted_names paths)) (c.in_ok-put_id.ensures
    ∙ ap (λ z. out ++ (prefixed_hex z ++ codes ":\n")) (to_z-of_z w64 session c.ranges.session))
    ∙ append_assoc out head (flat_map path_line (sorted_names paths))
    ∙ ap (λ p. out ++ (head ++ flat_map path_line (sorted_names p))) is
    ∙ ap (λ b. out ++ (if b then owner_block pairs session else [])) (sym owns))
    c.put_paths.ensures
