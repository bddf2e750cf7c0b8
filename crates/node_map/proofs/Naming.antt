-- Paths and names stay valid.
use Rattle.std.proofs.Common.{◌≡◌, ℕ, Bool, true, false, not, ◌&&◌, ◌||◌, ◌==◌, cond, List, [], ◌∷◌, Option, Some, None, is_some, refl, sym, ap, subst, ◌∙◌, if◌then◌else◌}
use mathlib.Core.Bool.{true≢false}
use Rattle.std.specs.Ordering.{eq_by_cmp}
use Rattle.std.specs.List.{list_any, list_all, slice_split, onto_first}
use Rattle.std.proofs.lemmas.Map.Lookups.{exact_bytes}
use Rattle.std.proofs.lemmas.Map.Views.{tells_apart}
use Rattle.std.specs.FinMap as finmap
use Rattle.std.specs.FinSet as set
use Rattle.ephemerals.specs.Orders.{Bytes, Names, path_cmp}
use Rattle.ephemerals.proofs.Totals.{path_total}
use Rattle.paths_and_acls.specs.Paths.{is_name, are_names, is_path, is_child_path, has_slash, after_last_slash, name_of}
use Rattle.node_map.specs.Nodes.{Nodes}
use Rattle.node_map.proofs.Deciding.{Decides}
use Rattle.pairs.proofs.Hashed.{map_of}
use Rattle.node_map.proofs.HashedNodes.{AreApart}
use Rattle.node_map.proofs.Links.{all_nodes}
use Rattle.node_map.specs.Agreement.{is_listed, is_child_name, AreChildNames, AreNamed}
use Rattle.node_map.specs.declared.node.Node.{Node}

-- ---- the name of a path

both : (a b : Bool) → (a && b) ≡ true → (a ≡ true) × (b ≡ true)
both true b e = (refl, e)
both false b e = cc

and-is : (a b : Bool) → a ≡ true → b ≡ true → (a && b) ≡ true
and-is true b e f = f
and-is false b e f = cc

slashes : (text : Bytes) → list_any (λ b. b == 47) text ≡ has_slash text
slashes [] = refl
slashes (b ∷ text) = ap (λ (v : Bool). (b == 47) || v) (slashes text)

no_slash_left : (text : Bytes) → has_slash (after_last_slash text) ≡ false
no_slash_left [] = refl
no_slash_left (b ∷ text) = by (no_slash_left text) ((b == 47) || has_slash text) refl
  where
    by : has_slash (after_last_slash text) ≡ false → (v : Bool) → ((b == 47) || has_slash text) ≡ v
        → has_slash (if v then after_last_slash text else b ∷ text) ≡ false
    by rest true e = rest
    by rest false e = e

abbrev has_no_nul : Bytes → Bool
has_no_nul text = list_all (λ b. not (b == 0)) text

no_nul_left : (text : Bytes) → has_no_nul text ≡ true → has_no_nul (after_last_slash text) ≡ true
no_nul_left [] none = refl
no_nul_left (b ∷ text) none =
    by (no_nul_left text (both (not (b == 0)) (has_no_nul text) none).1) ((b == 47) || has_slash text)
  where
    by : has_no_nul (after_last_slash text) ≡ true → (v : Bool)
        → has_no_nul (if v then after_last_slash text else b ∷ text) ≡ true
    by rest true = rest
    by rest false = none

no_nul : (text : Bytes) → has_no_nul text ≡ true → list_any (λ b. b == 0) text ≡ false
no_nul [] none = refl
no_nul (b ∷ text) none = by (no_nul text) (b == 0) none
  where
    by : (has_no_nul text ≡ true → list_any (λ b. b == 0) text ≡ false) → (v : Bool) → (not v && has_no_nul text) ≡ true
        → (v || list_any (λ b. b == 0) text) ≡ false
    by rest true e = cc
    by rest false e = rest e

-- The parts between the slashes, without the first.
abbrev behind_first : List Bytes → List Bytes
behind_first [] = []
behind_first (part ∷ parts) = parts

abbrev parts_of : Bytes → List Bytes
parts_of text = slice_split (λ b. b == 47) text

behind_onto : (b : ℕ) (parts : List Bytes) → behind_first (onto_first b parts) ≡ behind_first parts
behind_onto b [] = refl
behind_onto b (part ∷ parts) = refl

-- The bytes after the last slash are a part that isn't the first, and the last of all parts is one of them.
record EndsInName (text : Bytes) : Type 0 where
  later : list_all is_name (behind_first (parts_of text)) ≡ true → has_slash text ≡ true
      → is_name (after_last_slash text) ≡ true
  last : list_all is_name (parts_of text) ≡ true → is_name (after_last_slash text) ≡ true

ends_in_name : (text : Bytes) → EndsInName text
ends_in_name [] = record { later = λ all has. cc; last = λ all. cc }
ends_in_name (b ∷ text) = step (ends_in_name text)
  where
    later : EndsInName text → (v : Bool)
        → list_all is_name (behind_first (cond v ([] ∷ parts_of text) (onto_first b (parts_of text)))) ≡ true
        → (v || has_slash text) ≡ true
        → is_name (if v || has_slash text then after_last_slash text else b ∷ text) ≡ true
    later rest true all has = rest.last all
    later rest false all has =
        ap (λ (v : Bool). is_name (if v then after_last_slash text else b ∷ text)) has
        ∙ rest.later (ap (list_all is_name) (sym (behind_onto b (parts_of text))) ∙ all) has

    behind : (parts : List Bytes) → list_all is_name (onto_first b parts) ≡ true
        → list_all is_name (behind_first parts) ≡ true
    behind [] all = refl
    behind (part ∷ parts) all = all

    at : EndsInName text → list_all is_name (onto_first b (parts_of text)) ≡ true → (v : Bool) → has_slash text ≡ v
        → is_name (if v then after_last_slash text else b ∷ text) ≡ true
    at rest all true has = rest.later (behind (parts_of text) all) has
    at rest all false has = refl

    last : EndsInName text → (v : Bool)
        → list_all is_name (cond v ([] ∷ parts_of text) (onto_first b (parts_of text))) ≡ true
        → is_name (if v || has_slash text then after_last_slash text else b ∷ text) ≡ true
    last rest true all = cc
    last rest false all = at rest all (has_slash text) refl

    step : EndsInName text → EndsInName (b ∷ text)
    step rest = record { later = later rest (b == 47); last = last rest (b == 47) }

pub name_is : (path : Bytes) → is_child_path path ≡ true → is_child_name (name_of path) ≡ true
name_is [] is = cc
name_is (b ∷ text) is =
    let names : are_names text ≡ true = (both (b == 47) (are_names text) is).1 in
    let slash : (b == 47) ≡ true = (both (b == 47) (are_names text) is).0 in
    let here : name_of (b ∷ text) ≡ after_last_slash text =
    ap (λ (v : Bool). if v || has_slash text then after_last_slash text else b ∷ text) slash in
    let fine = both (has_no_nul text) (list_all is_name (parts_of text)) names in
    let left : Bytes = after_last_slash text in
    ap is_child_name here
    ∙ and-is (is_name left && not (list_any (λ b. b == 0) left)) (not (list_any (λ b. b == 47) left))
    (and-is (is_name left) (not (list_any (λ b. b == 0) left)) ((ends_in_name text).last fine.1)
    (ap not (no_nul left (no_nul_left text fine.0))))
    (ap not (slashes left ∙ no_slash_left text))

-- ---- what each node contributes

pub record IsNamed (path : Bytes) (node : Node) : Type 0 where
  pub right : is_path path ≡ true
  pub names : AreChildNames node.children

abbrev pub EachIsNamed : Nodes → Type 0
EachIsNamed nodes = (path : Bytes) (node : Node) → finmap.get nodes path ≡ Some node → IsNamed path node

pub each_of_named : (nodes : Nodes) → AreNamed nodes → EachIsNamed nodes
each_of_named nodes named path node is = record {
  right = named.paths path (ap is_some is);
  names = λ name one. named.names path name (ap (is_listed name) is ∙ one);
}

pub named_of_each : (nodes : Nodes) → EachIsNamed nodes → AreNamed nodes
named_of_each nodes each = record {
  paths = λ path. path_at path (finmap.get nodes path) refl;
  names = λ path name. name_at path name (finmap.get nodes path) refl;
}
  where
    path_at : (path : Bytes) (o : Option Node) → finmap.get nodes path ≡ o → is_some o ≡ true → is_path path ≡ true
    path_at path None is one = absurd (true≢false (sym one))
    path_at path (Some node) is one = (each path node is).right

    name_at : (path name : Bytes) (o : Option Node) → finmap.get nodes path ≡ o → is_listed name o ≡ true
        → is_child_name name ≡ true
    name_at path name None is one = absurd (true≢false (sym one))
    name_at path name (Some node) is one = (each path node is).names name one

pub named_entries : (es : List (Bytes × Node)) → AreApart es
    → (rest : List (Bytes × Node)) → rest ≡ es → (nodes : Nodes) → map_of es ≡ nodes
    → Decides (λ (e : Bytes × Node). IsNamed e.0 e.1) (AreNamed nodes) rest
named_entries es apart rest all nodes is =
    subst (λ ns. Decides (λ (e : Bytes × Node). IsNamed e.0 e.1) (AreNamed ns) rest) is
    (subst (λ xs. Decides (λ (e : Bytes × Node). IsNamed e.0 e.1) (AreNamed (map_of es)) xs)
    (sym all) (
      (λ each. named_of_each (map_of es) ((all_nodes IsNamed es apart).0 each)),
      (λ named. (all_nodes IsNamed es apart).1 (each_of_named (map_of es) named)),
    ))

-- ---- one change

pub each_with : (nodes : Nodes) (path : Bytes) (node : Node) → EachIsNamed nodes → IsNamed path node
    → EachIsNamed (finmap.insert nodes path node)
each_with nodes path node each here q n is =
    by (eq_by_cmp path_cmp q path) refl (sym (finmap.get-insert path_total nodes path node q) ∙ is)
  where
    by : (b : Bool) → eq_by_cmp path_cmp q path ≡ b → cond b (Some node) (finmap.get nodes q) ≡ Some n → IsNamed q n
    by true t e = let same : node ≡ n = cc in
        subst (λ m. IsNamed q m) same (subst (λ p. IsNamed p node) (sym (tells_apart exact_bytes q path t)) here)
    by false t e = each q n e

pub each_without : (nodes : Nodes) (path : Bytes) → EachIsNamed nodes → EachIsNamed (finmap.remove nodes path)
each_without nodes path each q n is =
    by (eq_by_cmp path_cmp q path) (sym (finmap.get-remove path_total nodes path q) ∙ is)
  where
    by : (b : Bool) → cond b None (finmap.get nodes q) ≡ Some n → IsNamed q n
    by true e = cc
    by false e = each q n e

pub names_with : (names : Names) (name : Bytes) → AreChildNames names → is_child_name name ≡ true
    → AreChildNames (set.insert names name)
names_with names name all here q one =
    by (eq_by_cmp path_cmp q name) refl (sym (set.contains-insert path_total names name q) ∙ one)
  where
    by : (b : Bool) → eq_by_cmp path_cmp q name ≡ b → (b || set.contains names q) ≡ true → is_child_name q ≡ true
    by true t e = ap is_child_name (tells_apart exact_bytes q name t) ∙ here
    by false t e = all q e

pub names_without : (names : Names) (name : Bytes) → AreChildNames names → AreChildNames (set.remove names name)
names_without names name all q one =
    by (eq_by_cmp path_cmp q name) (sym (set.contains-remove path_total names name q) ∙ one)
  where
    by : (b : Bool) → (not b && set.contains names q) ≡ true → is_child_name q ≡ true
    by true e = cc
    by false e = all q e

pub no_names : AreChildNames set.empty
no_names q one = absurd (true≢false (sym (sym (set.contains-empty path_cmp q) ∙ one)))
