-- The bytes written for a whole state are an image of it.
use Rattle.std.specs.Prelude.{int_lt}
use Rattle.std.proofs.Common.{◌≡◌, ℕ, suc, ◌+◌, ◌<◌, ℤ, pos, negsuc, Bool, true, false, not, cond, ◌&&◌, ◌||◌, T, List, [], ◌∷◌, ◌++◌, map, length, Option, Some, None, is_some, refl, sym, ap, subst, ◌∙◌, arith, true≢false, append_assoc, append-nil, lt→ltb}
use Rattle.std.specs.declared.cmp.Ordering.TheVariants.{Less, Equal, Greater}
use Rattle.std.specs.Cmp.{tied_itself, both_ways, int_cmp_total}
use Rattle.std.specs.Cmp.Lexicographic.{pointwise_decides, bytes_decides}
use Rattle.std.specs.FinMap as finmap
use Rattle.std.specs.FinMap.{find, is_sorted}
use Rattle.std.specs.FinMap.Entries.{below_all}
use Rattle.std.specs.FinSet as set
use Rattle.std.specs.List.{flat_map, list_any, AllByRecursion}
use Rattle.settings.specs.declared.dialect.Dialect.{Dialect}
use Rattle.settings.specs.declared.dialect.Dialect.TheVariants.{Zk34, Zk38}
use Rattle.jute.specs.declared.stat.StatPersisted.{StatPersisted}
use Rattle.std.specs.Option.{unwrap_or}
use Rattle.std.specs.Ordering.{is_eq, is_lt, eq_by_cmp, int_cmp, int_eq, ordering_reverse}
use Rattle.std.specs.Str.{bytes_eq}
use Rattle.std.proofs.lemmas.Bool.Decides.{Decides-int_eq}
use Rattle.std.proofs.lemmas.Grind.{flat_map-append}
use Rattle.std.proofs.lemmas.Map.Lookups.{exact_bytes}
use Rattle.std.proofs.lemmas.Map.Views.{tells_apart}
use Rattle.ephemerals.specs.Orders.{Bytes, path_cmp}
use Rattle.ephemerals.proofs.Totals.{path_total}
use Rattle.jute.specs.Codes.{open_acl}
use Rattle.jute.specs.Laws.{WritesSpellings}
use Rattle.jute.specs.Loading.{EndsAt, EndsOnce}
use Rattle.jute.specs.declared.owned.Acl.{Acl}
use Rattle.paths_and_acls.specs.Paths.{is_root, is_path, parent_of, name_of, child_of}
use Rattle.node_map.specs.Nodes.{Nodes}
use Rattle.node_map.specs.Agreement.{has_node, is_listed_at, is_listed}
use Rattle.node_map.specs.declared.node.Node.{Node}
use Rattle.data_tree.specs.State.{State}
use Rattle.data_tree.specs.Whole.{IsWhole}
use Rattle.snapshot_codec.specs.Dialects.{loaded_stat, mark_in, stored_stat, KeepsOwner, or_missing}
use Rattle.snapshot_codec.specs.Image.{SessionEntries, Rows, parts_in, sessions_in, lists_in, rows_in, list_named, HasPlace, IsInTime, IsAllowedAfter, AreAllowedAfter, is_child, AreAt, IsMadeOf, IsMadeOfParts, image_format, image_in}
use Rattle.snapshot_codec.specs.Made.{image_load}
use Rattle.snapshot_codec.specs.Parts.{Value, Part, node_body, is_end}
use Rattle.snapshot_codec.specs.Written.{walk_cmp, walk_of, is_same_acl, is_same_list, Lists, key_in, with_list, lists_from, lists_of, key_of, session_part, list_part, image_node_of, node_values, counted_values, values_of}
use Rattle.snapshot_codec.specs.declared.part.ImageNode.{ImageNode}
use Rattle.snapshot_codec.specs.declared.part.ImagePart.{ImagePart}
use Rattle.snapshot_codec.specs.declared.part.ImagePart.TheVariants as part
use Rattle.snapshot_codec.specs.declared.part.PartPhase.TheVariants.{SessionCount}
use Rattle.snapshot_codec.proofs.Formats.{root_is}
use Rattle.snapshot_codec.proofs.Making.{and_parts, not_true, is_none}
use Rattle.snapshot_codec.proofs.Limits.{stand_written, values_fit}
use Rattle.snapshot_codec.proofs.WalkOrder.{first, both, less_at, here_some, before_none, before_some, middle_some, walk_total, same_find, walk_find, walk_sorted, parent_less, child_below, none_before_root}

-- ---- the end is the last value

node_ends : (dialect : Dialect) (lists : Lists) (es : List (Bytes × Node))
    → EndsOnce (image_load dialect) (node_values lists es)
node_ends dialect lists [] = refl
node_ends dialect lists (e ∷ es) = node_ends dialect lists es

part_ends : {A : Type 0} (dialect : Dialect) (f : A → ImagePart) → ((x : A) → is_end (Part (f x)) ≡ false)
    → (xs : List A)
    (vs : List Value) → EndsOnce (image_load dialect) vs
    → EndsOnce (image_load dialect) (map (λ x. Part (f x)) xs ++ vs)
part_ends dialect f none [] vs h = h
part_ends dialect f none (x ∷ xs) vs h =
    let behind = map (λ x. Part (f x)) xs ++ vs in
    subst (λ b. EndsAt b behind (EndsOnce (image_load dialect) behind)) (sym (none x))
    (part_ends dialect f none xs vs h)

-- ---- the parts

node_part : Lists → Bytes × Node → ImagePart
node_part lists e = part.Node (image_node_of lists e)

abbrev row : Lists → Bytes × Node → Bytes × ImageNode
row lists e = (e.0, image_node_of lists e)

parts_of_map : {A : Type 0} (f : A → ImagePart) (xs : List A) (vs : List Value)
    → flat_map parts_in (map (λ x. Part (f x)) xs ++ vs) ≡ map f xs ++ flat_map parts_in vs
parts_of_map f [] vs = refl
parts_of_map f (x ∷ xs) vs = ap (λ (r : List ImagePart). f x ∷ r) (parts_of_map f xs vs)

parts_of_nodes : (lists : Lists) (es : List (Bytes × Node))
    → flat_map parts_in (node_values lists es) ≡ map (node_part lists) es ++ part.End ∷ []
unfolding node_part
parts_of_nodes lists [] = refl
parts_of_nodes lists (e ∷ es) = ap (λ (r : List ImagePart). node_part lists e ∷ r) (parts_of_nodes lists es)

module _ {A B : Type 0} (g : ImagePart → List B) (f : A → ImagePart) where
  none_of : ((x : A) → g (f x) ≡ []) → (xs : List A) → flat_map g (map f xs) ≡ []
  none_of none [] = refl
  none_of none (x ∷ xs) = λ i. none x i ++ none_of none xs i

  each_of : (h : A → B) → ((x : A) → g (f x) ≡ h x ∷ []) → (xs : List A) → flat_map g (map f xs) ≡ map h xs
  each_of h is [] = refl
  each_of h is (x ∷ xs) = λ i. is x i ++ each_of h is xs i

itself : {A : Type 0} (xs : List A) → map (λ x. x) xs ≡ xs
itself [] = refl
itself (x ∷ xs) = ap (λ (r : List _). x ∷ r) (itself xs)

-- ---- ACL lists

same_acl_decides : (a b : Acl) → (is_same_acl a b ≡ true → a ≡ b) × (a ≡ b → is_same_acl a b ≡ true)
same_acl_decides a b = (
  λ e. equal e,
  λ e. subst (λ (x : Acl). is_same_acl a x ≡ true) e own,
)
  where
    equal : is_same_acl a b ≡ true → a ≡ b
    equal e =
        let p = and_parts (int_eq a.perms b.perms) (bytes_eq a.id.scheme b.id.scheme && bytes_eq a.id.id b.id.id) e in
        let q = and_parts (bytes_eq a.id.scheme b.id.scheme) (bytes_eq a.id.id b.id.id) p.1 in
        λ i. record {
          perms = (Decides-int_eq a.perms b.perms).0 p.0 i;
          id = record {
            scheme = (bytes_decides a.id.scheme b.id.scheme).0 q.0 i;
            id = (bytes_decides a.id.id b.id.id).0 q.1 i;
          };
        }

    own : is_same_acl a a ≡ true
    own = λ i. (Decides-int_eq a.perms a.perms).1 refl i
        && ((bytes_decides a.id.scheme a.id.scheme).1 refl i && (bytes_decides a.id.id a.id.id).1 refl i)

pub list_decides : (a b : List Acl) → (is_same_list a b ≡ true → a ≡ b) × (a ≡ b → is_same_list a b ≡ true)
list_decides = pointwise_decides same_acl_decides

-- The keys are in order from one on.
Numbered : ℕ → Lists → Type 0
Numbered n [] = Unit {0}
Numbered n (e ∷ es) = (e.0 ≡ pos (suc n)) × Numbered (suc n) es

one_more : (n : ℕ) (es : Lists) (list : List Acl) → Numbered n es
    → Numbered n (es ++ (pos (suc (n + length es)), list) ∷ [])
unfolding Numbered
one_more n [] list h = (ap (λ k. pos (suc k)) (let e : n + 0 ≡ n = omega arith in e), tt)
one_more n (e ∷ es) list h = (
  h.0,
  subst (λ k. Numbered (suc n) (es ++ (pos (suc k), list) ∷ []))
      (let e : suc n + length es ≡ n + suc (length es) = omega arith in e)
      (one_more (suc n) es list h.1),
)

is_so : (t : Bool) → T t → t ≡ true
is_so true h = refl
is_so false h = absurd h

pos_less : (a b : ℕ) → a < b → int_cmp (pos a) (pos b) ≡ Less
pos_less a b l = ap (λ c. cond c Less (cond (int_lt (pos b) (pos a)) Greater Equal))
    (is_so (int_lt (pos a) (pos b)) (lt→ltb a b l))

below_numbered : (k n : ℕ) (es : Lists) → k < suc n → Numbered n es → T (below_all int_cmp (pos k) es)
unfolding Numbered
below_numbered k n [] l h = tt
below_numbered k n (e ∷ es) l h =
    both (is_lt (int_cmp (pos k) e.0)) (below_all int_cmp (pos k) es)
    (subst (λ (x : ℤ). T (is_lt (int_cmp (pos k) x))) (sym h.0)
    (subst (λ r. T (is_lt r)) (sym (pos_less k (suc n) l)) tt))
    (below_numbered k (suc n) es (let m : k < suc (suc n) = omega arith in m) h.1)

sorted_numbered : (n : ℕ) (es : Lists) → Numbered n es → T (is_sorted int_cmp es)
unfolding Numbered
sorted_numbered n [] h = tt
sorted_numbered n (e ∷ es) h =
    both (below_all int_cmp e.0 es) (is_sorted int_cmp es)
    (subst (λ (x : ℤ). T (below_all int_cmp x es)) (sym h.0)
    (below_numbered (suc n) (suc n) es (let m : suc n < suc (suc n) = omega arith in m) h.1))
    (sorted_numbered (suc n) es h.1)

-- A key that was found refers to the list.
abbrev Names : ℕ → Lists → List Acl → ℤ → Type 0
Names n es list key = (find int_cmp key es ≡ Some list) × (m : ℕ) × (n < suc m) × (key ≡ pos (suc m))

key_names : (n : ℕ) (es : Lists) (list : List Acl) → Numbered n es → is_some (key_in es list) ≡ true
    → Names n es list (unwrap_or (key_in es list) (negsuc 0))
unfolding Numbered
key_names n [] list h some = absurd (true≢false (sym some))
key_names n (e ∷ es) list h some =
    by (key_names (suc n) es list h.1) (is_same_list e.1 list) refl some
  where
    other : (m : ℕ) → suc n < suc m → eq_by_cmp int_cmp (pos (suc m)) (pos (suc n)) ≡ false
    other m l = ap is_eq (int_cmp_total.antisymm (pos (suc m)) (pos (suc n))
        ∙ ap ordering_reverse (pos_less (suc n) (suc m) (let k : suc n < suc m = omega arith in k)))

    by : (is_some (key_in es list) ≡ true → Names (suc n) es list (unwrap_or (key_in es list) (negsuc 0)))
        → (b : Bool) → is_same_list e.1 list ≡ b → is_some (cond b (Some e.0) (key_in es list)) ≡ true
        → Names n (e ∷ es) list (unwrap_or (cond b (Some e.0) (key_in es list)) (negsuc 0))
    by later true is k = (
      ap (λ r. cond (is_eq r) (Some e.1) (find int_cmp e.0 es)) (tied_itself int_cmp_total e.0)
          ∙ ap (λ (l : List Acl). Some l) ((list_decides e.1 list).0 is),
      n,
      (let l : n < suc n = omega arith in l),
      h.0,
    )
    by later false is k =
        let g = later k in
        let key = unwrap_or (key_in es list) (negsuc 0) in (
          ap (λ b. cond b (Some e.1) (find int_cmp key es))
              ((λ i. eq_by_cmp int_cmp (g.3 i) (h.0 i)) ∙ other g.1 g.2) ∙ g.0,
          g.1,
          (let l : n < suc g.1 = omega arith in l),
          g.3,
        )

-- A list has a key, or is the open one.
abbrev pub has_key : Lists → List Acl → Bool
has_key lists list = is_same_list list open_acl || is_some (key_in lists list)

still_in : (es fs : Lists) (list : List Acl) → is_some (key_in es list) ≡ true
    → is_some (key_in (es ++ fs) list) ≡ true
still_in [] fs list some = absurd (true≢false (sym some))
still_in (e ∷ es) fs list some = by (still_in es fs list) (is_same_list e.1 list) some
  where
    by : (is_some (key_in es list) ≡ true → is_some (key_in (es ++ fs) list) ≡ true) → (b : Bool)
        → is_some (cond b (Some e.0) (key_in es list)) ≡ true
        → is_some (cond b (Some e.0) (key_in (es ++ fs) list)) ≡ true
    by later true k = refl
    by later false k = later k

new_in : (es : Lists) (key : ℤ) (list : List Acl) → is_some (key_in (es ++ (key, list) ∷ []) list) ≡ true
new_in [] key list = ap (λ b. is_some (cond b (Some key) None)) ((list_decides list list).1 refl)
new_in (e ∷ es) key list = by (new_in es key list) (is_same_list e.1 list)
  where
    by : is_some (key_in (es ++ (key, list) ∷ []) list) ≡ true → (b : Bool)
        → is_some (cond b (Some e.0) (key_in (es ++ (key, list) ∷ []) list)) ≡ true
    by later true = refl
    by later false = later

or_right : (a b c : Bool) → (b ≡ true → c ≡ true) → (a || b) ≡ true → (a || c) ≡ true
or_right true b c f e = refl
or_right false b c f e = f e

pub or_on : (a b : Bool) → b ≡ true → (a || b) ≡ true
or_on true b e = refl
or_on false b e = e

-- The lists with one more.
with_more : (es : Lists) (list : List Acl) → Lists
with_more es list = es ++ (pos (suc (length es)), list) ∷ []

kept_with : (es : Lists) (list asked : List Acl) → has_key es asked ≡ true → has_key (with_list es list) asked ≡ true
kept_with es list asked h = by (has_key es list)
  where
    by : (b : Bool) → has_key (cond b es (es ++ (pos (suc (length es)), list) ∷ [])) asked ≡ true
    by true = h
    by false = or_right (is_same_list asked open_acl) (is_some (key_in es asked)) _ (still_in es _ asked) h

pub keyed_with : (es : Lists) (list : List Acl) → has_key (with_list es list) list ≡ true
keyed_with es list = by (has_key es list) refl
  where
    by : (b : Bool) → has_key es list ≡ b → has_key (cond b es (es ++ (pos (suc (length es)), list) ∷ [])) list ≡ true
    by true e = e
    by false e = or_on (is_same_list list open_acl) _ (new_in es (pos (suc (length es))) list)

pub kept_from : (es : List (Bytes × Node)) (lists : Lists) (asked : List Acl) → has_key lists asked ≡ true
    → has_key (lists_from lists es) asked ≡ true
kept_from [] lists asked h = h
kept_from (e ∷ es) lists asked h = kept_from es (with_list lists e.1.acl) asked (kept_with lists e.1.acl asked h)

pub AllKeyed : Lists → List (Bytes × Node) → Type 0
AllKeyed lists [] = Unit {0}
AllKeyed lists (e ∷ es) = (has_key lists e.1.acl ≡ true) × AllKeyed lists es

pub all_keyed : (es : List (Bytes × Node)) (lists : Lists) → AllKeyed (lists_from lists es) es
unfolding AllKeyed
all_keyed [] lists = tt
all_keyed (e ∷ es) lists = (
  kept_from es (with_list lists e.1.acl) e.1.acl (keyed_with lists e.1.acl),
  all_keyed es (with_list lists e.1.acl),
)

pub keyed_head : (lists : Lists) (x : Bytes × Node) (es : List (Bytes × Node)) → AllKeyed lists (x ∷ es)
    → (has_key lists x.1.acl ≡ true) × AllKeyed lists es
unfolding AllKeyed
keyed_head lists x es h = h

numbered_with : (es : Lists) (list : List Acl) → Numbered 0 es → Numbered 0 (with_list es list)
numbered_with es list h = by (has_key es list)
  where
    by : (b : Bool) → Numbered 0 (cond b es (es ++ (pos (suc (length es)), list) ∷ []))
    by true = h
    by false = subst (λ k. Numbered 0 (es ++ (pos (suc k), list) ∷ []))
        (let e : 0 + length es ≡ length es = omega arith in e) (one_more 0 es list h)

numbered_from : (es : List (Bytes × Node)) (lists : Lists) → Numbered 0 lists → Numbered 0 (lists_from lists es)
numbered_from [] lists h = h
numbered_from (e ∷ es) lists h = numbered_from es (with_list lists e.1.acl) (numbered_with lists e.1.acl h)

named : (lists : Lists) (list : List Acl) → Numbered 0 lists → has_key lists list ≡ true
    → list_named lists (key_of lists list) ≡ Some list
named lists list h k = by (is_same_list list open_acl) refl k
  where
    key : ℤ
    key = unwrap_or (key_in lists list) (negsuc 0)

    not_open : (m : ℕ) → int_eq (pos (suc m)) (negsuc 0) ≡ false
    not_open m = refl

    by : (b : Bool) → is_same_list list open_acl ≡ b → (b || is_some (key_in lists list)) ≡ true
        → list_named lists (cond b (negsuc 0) (unwrap_or (key_in lists list) (negsuc 0))) ≡ Some list
    by true e k = ap (λ (l : List Acl). Some l) (sym ((list_decides list open_acl).0 e))
    by false e k =
        let g = key_names 0 lists list h k in
        ap (λ (b : Bool). cond b (Some open_acl) (find int_cmp (unwrap_or (key_in lists list) (negsuc 0)) lists))
        (ap (λ (z : ℤ). int_eq z (negsuc 0)) g.3 ∙ not_open g.1) ∙ g.0

-- ---- each part fits those before it

each_append : (dialect : Dialect) (xs ys front : List ImagePart) → AreAllowedAfter dialect front xs
    → AreAllowedAfter dialect (front ++ xs) ys
    → AreAllowedAfter dialect front (xs ++ ys)
each_append dialect [] ys front h k = subst (λ (f : List ImagePart). AreAllowedAfter dialect f ys) (append-nil front) k
each_append dialect (x ∷ xs) ys front h k = (
  h.0,
  each_append dialect xs ys (front ++ x ∷ []) h.1
      (subst (λ (f : List ImagePart). AreAllowedAfter dialect f ys) (sym (append_assoc front (x ∷ []) xs)) k),
)

map_last : {A B : Type 0} (f : A → B) (front : List B) (ahead : List A) (x : A)
    → front ++ map f (ahead ++ x ∷ []) ≡ (front ++ map f ahead) ++ f x ∷ []
map_last f front [] x = sym (ap (λ (r : List _). r ++ f x ∷ []) (append-nil front))
map_last f front (a ∷ ahead) x =
    sym (append_assoc front (f a ∷ []) (map f (ahead ++ x ∷ [])))
    ∙ map_last f (front ++ f a ∷ []) ahead x
    ∙ ap (λ (r : List _). r ++ f x ∷ []) (append_assoc front (f a ∷ []) (map f ahead))

each_by : {A : Type 0} (dialect : Dialect) (f : A → ImagePart) (front : List ImagePart) (ys xs : List A)
    → ((ahead : List A) (x : A) (bs : List A) → ys ++ xs ≡ ahead ++ x ∷ bs
    → IsAllowedAfter dialect (front ++ map f ahead) (f x))
    → AreAllowedAfter dialect (front ++ map f ys) (map f xs)
each_by dialect f front ys [] h = tt
each_by dialect f front ys (x ∷ xs) h = (
  h ys x xs refl,
  subst (λ (r : List ImagePart). AreAllowedAfter dialect r (map f xs)) (map_last f front ys x)
      (each_by dialect f front (ys ++ x ∷ []) xs
      (λ ahead y bs e. h ahead y bs (sym (append_assoc ys (x ∷ []) xs) ∙ e))),
)

-- ---- a whole state

-- A node that is found, and its part.
Alike : Lists → Option Node → Option ImageNode → Type 0
Alike lists None None = Unit {0}
Alike lists (Some n) (Some r) = (r.bytes ≡ n.bytes) × (r.stat ≡ stored_stat n) × (r.acl ≡ key_of lists n.acl)
Alike lists None (Some r) = ⊥
Alike lists (Some n) None = ⊥

alike_some : (lists : Lists) (n : Option Node) (r : Option ImageNode) → Alike lists n r → is_some r ≡ is_some n
unfolding Alike
alike_some lists None None h = refl
alike_some lists (Some n) (Some r) h = refl
alike_some lists None (Some r) h = absurd h
alike_some lists (Some n) None h = absurd h

found_alike : (lists : Lists) (q : Bytes) (es : List (Bytes × Node))
    → Alike lists (find path_cmp q es) (find path_cmp q (map (row lists) es))
unfolding Alike
found_alike lists q [] = tt
found_alike lists q (e ∷ es) = by (found_alike lists q es) (eq_by_cmp path_cmp q e.0)
  where
    by : Alike lists (find path_cmp q es) (find path_cmp q (map (row lists) es)) → (b : Bool)
        → Alike lists (cond b (Some e.1) (find path_cmp q es))
        (cond b (Some (image_node_of lists e)) (find path_cmp q (map (row lists) es)))
    by later true = (refl, refl, refl)
    by later false = later

keyed_at : (lists : Lists) (es : List (Bytes × Node)) (q : Bytes) (n : Node) → AllKeyed lists es
    → find path_cmp q es ≡ Some n → has_key lists n.acl ≡ true
unfolding AllKeyed
keyed_at lists [] q n h e = absurd (true≢false (sym (ap is_some e)))
keyed_at lists (x ∷ es) q n h e = by (keyed_at lists es q n h.1) (eq_by_cmp path_cmp q x.0) e
  where
    by : (find path_cmp q es ≡ Some n → has_key lists n.acl ≡ true) → (b : Bool)
        → cond b (Some x.1) (find path_cmp q es) ≡ Some n → has_key lists n.acl ≡ true
    by later true k = subst (λ (m : Node). has_key lists m.acl ≡ true) (ap (λ (o : Option Node). unwrap_or o x.1) k) h.0
    by later false k = later k

abbrev KeepOwners : Dialect → List (Bytes × Node) → Type 0
KeepOwners dialect es = AllByRecursion (λ (e : Bytes × Node). KeepsOwner dialect e.1) es

owner_at : (dialect : Dialect) (es : List (Bytes × Node)) (q : Bytes) (n : Node) → KeepOwners dialect es
    → find path_cmp q es ≡ Some n → KeepsOwner dialect n
owner_at dialect [] q n h e = absurd (true≢false (sym (ap is_some e)))
owner_at dialect (x ∷ es) q n h e = by (owner_at dialect es q n h.1) (eq_by_cmp path_cmp q x.0) e
  where
    by : (find path_cmp q es ≡ Some n → KeepsOwner dialect n) → (b : Bool)
        → cond b (Some x.1) (find path_cmp q es) ≡ Some n → KeepsOwner dialect n
    by later true k = subst (KeepsOwner dialect) (ap (λ (o : Option Node). unwrap_or o x.1) k) h.0
    by later false k = later k

-- A list that is there isn't missing.
is_there : (dialect : Dialect) (o : Option (List Acl)) (list : List Acl) → o ≡ Some list
    → or_missing dialect o ≡ Some list
is_there Zk34 o list e = e
is_there Zk38 o list e = ap (or_missing Zk38) e

none_late : (dialect : Dialect) → IsInTime dialect []
none_late Zk34 = tt
none_late Zk38 = tt

keyed_in : (lists : Lists) (ahead : List (Bytes × Node)) (x : Bytes × Node) (bs : List (Bytes × Node))
    → AllKeyed lists (ahead ++ x ∷ bs) → has_key lists x.1.acl ≡ true
unfolding AllKeyed
keyed_in lists [] x bs h = h.0
keyed_in lists (a ∷ ahead) x bs h = keyed_in lists ahead x bs h.1

any_at : (q : Bytes) (test : Bytes × ImageNode → Bool) → ((r : ImageNode) → test (q, r) ≡ true) → (rows : Rows)
    → is_some (find path_cmp q rows) ≡ true → list_any test rows ≡ true
any_at q test h [] some = absurd (true≢false (sym some))
any_at q test h (x ∷ rows) some = by (any_at q test h rows) (eq_by_cmp path_cmp q x.0) refl some
  where
    by : (is_some (find path_cmp q rows) ≡ true → list_any test rows ≡ true) → (b : Bool)
        → eq_by_cmp path_cmp q x.0 ≡ b → is_some (cond b (Some x.1) (find path_cmp q rows)) ≡ true
        → (test x || list_any test rows) ≡ true
    by later true e k =
        ap (λ (t : Bool). t || list_any test rows)
        (subst (λ (p : Bytes). test (p, x.1) ≡ true) (tells_apart exact_bytes q x.0 e) (h x.1))
    by later false e k = or_on (test x) (list_any test rows) (later k)

abbrev FoundChild : List (Bytes × Node) → Bytes → Bytes → Type 0
FoundChild es path name =
    (q : Bytes) × (is_some (find path_cmp q es) ≡ true) × (is_root q ≡ false) × (path ≡ parent_of q)
    × (name ≡ name_of q)

child_at : (lists : Lists) (path name : Bytes) (es : List (Bytes × Node))
    → list_any (is_child path name) (map (row lists) es) ≡ true → FoundChild es path name
child_at lists path name [] some = absurd (true≢false (sym some))
child_at lists path name (e ∷ es) some =
    by (child_at lists path name es) (is_child path name (row lists e)) refl some
  where
    later_on : (q : Bytes) → is_some (find path_cmp q es) ≡ true → (b : Bool)
        → is_some (cond b (Some e.1) (find path_cmp q es)) ≡ true
    later_on q h true = refl
    later_on q h false = h

    by : (list_any (is_child path name) (map (row lists) es) ≡ true → FoundChild es path name) → (b : Bool)
        → is_child path name (row lists e) ≡ b
        → (b || list_any (is_child path name) (map (row lists) es)) ≡ true → FoundChild (e ∷ es) path name
    by later true is k =
        let p = and_parts (not (is_root e.0))
        (eq_by_cmp path_cmp path (parent_of e.0) && eq_by_cmp path_cmp name (name_of e.0)) is in
        let q = and_parts (eq_by_cmp path_cmp path (parent_of e.0)) (eq_by_cmp path_cmp name (name_of e.0)) p.1 in (
          e.0,
          here_some path_total e es,
          not_true (is_root e.0) p.0,
          tells_apart exact_bytes path (parent_of e.0) q.0,
          tells_apart exact_bytes name (name_of e.0) q.1,
        )
    by later false is k =
        let f = later k in (f.0, later_on f.0 f.1 (eq_by_cmp path_cmp f.0 e.0), f.2, f.3, f.4)

module _ (dialect : Dialect) (s : State) (w : IsWhole s) where
  abbrev nodes : Nodes
  nodes = s.nodes

  abbrev es : List (Bytes × Node)
  es = walk_of nodes

  abbrev table : Lists
  table = lists_of nodes

  abbrev rows : Rows
  rows = map (row table) es

  abbrev ids : SessionEntries
  ids = finmap.entries s.sessions

  numbered : Numbered 0 table
  unfolding Numbered
  numbered = numbered_from es [] tt

  keyed : AllKeyed table es
  keyed = all_keyed es []

  same_path : (path : Bytes) → eq_by_cmp path_cmp path path ≡ true
  same_path path = ap is_eq (tied_itself path_total path)

  alike : (path : Bytes) → Alike table (finmap.get nodes path) (find path_cmp path rows)
  alike path = subst (λ (o : Option Node). Alike table o (find path_cmp path rows)) (walk_find nodes path)
      (found_alike table path es)

  there : (path : Bytes) → is_some (find path_cmp path rows) ≡ has_node nodes path
  there path = alike_some table (finmap.get nodes path) (find path_cmp path rows) (alike path)

  lists_there : (name : Bytes) (o : Option Node) → is_listed name o ≡ true → is_some o ≡ true
  lists_there name None e = absurd (true≢false (sym e))
  lists_there name (Some n) e = refl

  path_of_node : (path : Bytes) → has_node nodes path ≡ true → is_path path ≡ true
  path_of_node = w.named.paths

  child_stands : (path name : Bytes) → is_listed_at nodes path name ≡ true → list_any (is_child path name) rows ≡ true
  child_stands path name e =
      let below = child_below path name (path_of_node path (lists_there name (finmap.get nodes path) e))
      (w.named.names path name e) in
      let child = child_of path name in
      any_at child (is_child path name) (λ r. (λ i. not (below.2 i)
      && (eq_by_cmp path_cmp path (sym below.0 i) && eq_by_cmp path_cmp name (sym below.1 i)))
      ∙ (λ i. same_path path i && same_path name i)) rows (there child ∙ w.links.children path name e)

  listed_at : (q : Bytes) → has_node nodes q ≡ true → is_root q ≡ false
      → is_listed_at nodes (parent_of q) (name_of q) ≡ true
  listed_at q some other =
      sym (ap (λ b. cond b true (is_listed_at nodes (parent_of q) (name_of q))) other) ∙ w.links.parents q some

  child_listed : (path name : Bytes) → list_any (is_child path name) rows ≡ true → is_listed_at nodes path name ≡ true
  child_listed path name e =
      let f = child_at table path name es e in
      (λ i. is_listed_at nodes (f.3 i) (f.4 i)) ∙ listed_at f.0 (sym (ap is_some (walk_find nodes f.0)) ∙ f.1) f.2

  at : KeepOwners dialect es → (path : Bytes)
      → AreAt dialect table rows path (find path_cmp path rows) (finmap.get nodes path)
  unfolding Alike
  at owners path = by (find path_cmp path rows) (finmap.get nodes path) refl (alike path)
    where
      children : (n : Node) → finmap.get nodes path ≡ Some n → (name : Bytes)
          → set.contains n.children name ≡ list_any (is_child path name) rows
      children n e name =
          both_ways (set.contains n.children name) (list_any (is_child path name) rows)
          (λ c. child_stands path name (ap (is_listed name) e ∙ c))
          (λ c. sym (ap (is_listed name) e) ∙ child_listed path name c)

      by : (r : Option ImageNode) (o : Option Node) → finmap.get nodes path ≡ o → Alike table o r
          → AreAt dialect table rows path r o
      by None None e h = tt
      by (Some r) (Some n) e h = record {
        bytes = sym h.0;
        stat =
            (λ i. record n.stat {
              ephemeral_owner = sym (owner_at dialect es path n owners
                  (walk_find nodes path ∙ e)).session i;
            })
            ∙ ap (loaded_stat dialect) (sym h.1);
        mark =
            sym (owner_at dialect es path n owners (walk_find nodes path ∙ e)).mark
            ∙ ap (λ (t : StatPersisted). mark_in dialect t.ephemeral_owner) (sym h.1);
        acl = is_there dialect _ n.acl (ap (list_named table) h.2
            ∙ named table n.acl numbered (keyed_at table es path n keyed (walk_find nodes path ∙ e)));
        children = children n e;
      }
      by None (Some n) e h = absurd h
      by (Some r) None e h = absurd h

  made : KeepOwners dialect es → IsMadeOf dialect s ids table rows
  made owners = record { timeouts = λ id. finmap.get-entries s.sessions id; nodes = at owners; owners = w.owners }

  -- ---- in order

  abbrev session_parts : List ImagePart
  session_parts = map session_part ids

  abbrev list_parts : List ImagePart
  list_parts = map list_part table

  sessions_go : AreAllowedAfter dialect [] session_parts
  sessions_go = each_by dialect session_part [] [] ids (λ ahead x bs e.
      ap (find int_cmp x.0) (each_of sessions_in session_part (λ y. y) (λ y. refl) ahead ∙ itself ahead)
      ∙ before_none int_cmp_total ahead x bs (subst (λ (l : SessionEntries). T (is_sorted int_cmp l)) e
      (finmap.entries_sorted s.sessions)))

  lists_go : AreAllowedAfter dialect session_parts list_parts
  lists_go = subst (λ (f : List ImagePart). AreAllowedAfter dialect f list_parts) (append-nil session_parts)
      (each_by dialect list_part session_parts [] table (λ ahead x bs e. (
        ap (find int_cmp x.0) (flat_map-append lists_in session_parts (map list_part ahead)
            ∙ (λ i. none_of lists_in session_part (λ y. refl) ids i
            ++ (each_of lists_in list_part (λ y. y) (λ y. refl) ahead ∙ itself ahead) i))
            ∙ before_none int_cmp_total ahead x bs (subst (λ (l : Lists). T (is_sorted int_cmp l)) e
            (sorted_numbered 0 table numbered)),
        subst (IsInTime dialect) (sym (flat_map-append rows_in session_parts (map list_part ahead)
            ∙ (λ i. none_of rows_in session_part (λ y. refl) ids i ++ none_of rows_in list_part (λ y. refl) ahead i)))
            (none_late dialect),
      )))

  abbrev front : List ImagePart
  front = session_parts ++ list_parts

  rows_before : (ahead : List (Bytes × Node)) → flat_map rows_in (front ++ map (node_part table) ahead) ≡ map
      (row table) ahead
  unfolding node_part
  rows_before ahead =
      flat_map-append rows_in front (map (node_part table) ahead)
      ∙ (λ i. (flat_map-append rows_in session_parts list_parts
      ∙ (λ j. none_of rows_in session_part (λ y. refl) ids j ++ none_of rows_in list_part (λ y. refl) table j)) i
      ++ each_of rows_in (node_part table) (row table) (λ y. refl) ahead i)

  lists_before : (ahead : List (Bytes × Node)) → flat_map lists_in (front ++ map (node_part table) ahead) ≡ table
  unfolding node_part
  lists_before ahead =
      flat_map-append lists_in front (map (node_part table) ahead)
      ∙ (λ i. (flat_map-append lists_in session_parts list_parts
      ∙ (λ j. none_of lists_in session_part (λ y. refl) ids j
      ++ (each_of lists_in list_part (λ y. y) (λ y. refl) table ∙ itself table) j)) i
      ++ none_of lists_in (node_part table) (λ y. refl) ahead i)
      ∙ append-nil table

  sessions_before : (ahead : List (Bytes × Node)) → flat_map sessions_in (front ++ map (node_part table) ahead) ≡ ids
  unfolding node_part
  sessions_before ahead =
      flat_map-append sessions_in front (map (node_part table) ahead)
      ∙ (λ i. (flat_map-append sessions_in session_parts list_parts
      ∙ (λ j. (each_of sessions_in session_part (λ y. y) (λ y. refl) ids ∙ itself ids) j
      ++ none_of sessions_in list_part (λ y. refl) table j)) i
      ++ none_of sessions_in (node_part table) (λ y. refl) ahead i)
      ∙ append-nil (ids ++ []) ∙ append-nil ids

  module _ (ahead : List (Bytes × Node)) (x : Bytes × Node) (bs : List (Bytes × Node)) (is : es ≡ ahead ++ x ∷ bs) where
    sorted : T (is_sorted walk_cmp (ahead ++ x ∷ bs))
    sorted = subst (λ (l : List (Bytes × Node)). T (is_sorted walk_cmp l)) is (walk_sorted nodes)

    node_there : (q : Bytes) → is_some (find path_cmp q (ahead ++ x ∷ bs)) ≡ has_node nodes q
    node_there q =
        ap (λ (l : List (Bytes × Node)). is_some (find path_cmp q l)) (sym is) ∙ ap is_some (walk_find nodes q)

    here : has_node nodes x.0 ≡ true
    here = sym (node_there x.0) ∙ middle_some path_total ahead x bs

    some_rows : (q : Bytes) → is_some (find path_cmp q (map (row table) ahead)) ≡ is_some (find path_cmp q ahead)
    some_rows q = alike_some table (find path_cmp q ahead) (find path_cmp q (map (row table) ahead))
        (found_alike table q ahead)

    new_path : find path_cmp x.0 (map (row table) ahead) ≡ None
    new_path =
        is_none (find path_cmp x.0 (map (row table) ahead))
        (some_rows x.0 ∙ ap is_some (sym (same_find x.0 ahead) ∙ before_none walk_total ahead x bs sorted))

    parent_before : is_root x.0 ≡ false → is_some (find path_cmp (parent_of x.0) (map (row table) ahead)) ≡ true
    parent_before other =
        let l = listed_at x.0 here other in
        let up = parent_of x.0 in
        some_rows up ∙ ap is_some (sym (same_find up ahead))
        ∙ before_some walk_total up ahead x bs sorted
        (parent_less x.0 (path_of_node x.0 here) (w.named.names up (name_of x.0) l))
        (ap is_some (same_find up (ahead ++ x ∷ bs)) ∙ node_there up
        ∙ lists_there (name_of x.0) (finmap.get nodes up) l)

    root_first : is_root x.0 ≡ true → (before : List (Bytes × Node)) → ahead ≡ before → map (row table) before ≡ []
    root_first root [] e = refl
    root_first root (a ∷ before) e =
        absurd (none_before_root a.0 (path_of_node a.0 a_there)
        (ap (walk_cmp a.0) (sym (root_is x.0 root)) ∙ less_at walk_total a.0 before x bs
        (first (below_all walk_cmp a.0 (before ++ x ∷ bs)) (is_sorted walk_cmp (before ++ x ∷ bs)) a_sorted)))
      where
        a_sorted : T (is_sorted walk_cmp (a ∷ before ++ x ∷ bs))
        a_sorted = subst (λ (l : List (Bytes × Node)). T (is_sorted walk_cmp (l ++ x ∷ bs))) e sorted

        a_there : has_node nodes a.0 ≡ true
        a_there =
            sym (node_there a.0)
            ∙ ap (λ (l : List (Bytes × Node)). is_some (find path_cmp a.0 (l ++ x ∷ bs))) e
            ∙ middle_some path_total [] a (before ++ x ∷ bs)

    has_place : (b : Bool) → is_root x.0 ≡ b → HasPlace b (map (row table) ahead) x.0
    has_place true e = root_first e ahead refl
    has_place false e = (new_path, parent_before e)

    node_goes : IsAllowedAfter dialect (front ++ map (node_part table) ahead) (node_part table x)
    unfolding node_part
    node_goes = (
      subst (λ (r : Rows). HasPlace (is_root x.0) r x.0) (sym (rows_before ahead)) (has_place (is_root x.0) refl),
      ap (λ (l : Lists). is_some (or_missing dialect (list_named l (key_of table x.1.acl)))) (lists_before ahead)
          ∙ ap is_some (is_there dialect _ x.1.acl
          (named table x.1.acl numbered (keyed_in table ahead x bs (subst (AllKeyed table) is keyed)))),
    )

  nodes_go : AreAllowedAfter dialect front (map (node_part table) es)
  nodes_go = subst (λ (f : List ImagePart). AreAllowedAfter dialect f (map (node_part table) es)) (append-nil front)
      (each_by dialect (node_part table) front [] es (λ ahead x bs e. node_goes ahead x bs e))

  abbrev whole_parts : List ImagePart
  whole_parts = session_parts ++ (list_parts ++ (map (node_part table) es ++ part.End ∷ []))

  abbrev turned : whole_parts ≡ (front ++ map (node_part table) es) ++ part.End ∷ []
  turned =
      sym (append_assoc session_parts list_parts (map (node_part table) es ++ part.End ∷ []))
      ∙ sym (append_assoc front (map (node_part table) es) (part.End ∷ []))

  parts_are : flat_map parts_in (values_of s) ≡ whole_parts
  parts_are =
      parts_of_map session_part ids (counted_values list_part table ++ node_values table es)
      ∙ ap (λ (r : List ImagePart). session_parts ++ r) (parts_of_map list_part table (node_values table es)
      ∙ ap (λ (r : List ImagePart). list_parts ++ r) (parts_of_nodes table es))

  order : AreAllowedAfter dialect [] whole_parts
  order =
      each_append dialect session_parts (list_parts ++ (map (node_part table) es ++ part.End ∷ [])) [] sessions_go
      (each_append dialect list_parts (map (node_part table) es ++ part.End ∷ []) session_parts lists_go
      (each_append dialect (map (node_part table) es) (part.End ∷ []) front nodes_go (tt, tt)))

  made_of_parts : KeepOwners dialect es → IsMadeOfParts dialect s whole_parts
  made_of_parts owners =
      subst (λ (ps : List ImagePart). IsMadeOfParts dialect s ps) (sym turned) (moved
      (gone sessions_in refl ∙ sessions_before es)
      (gone lists_in refl ∙ lists_before es)
      (gone rows_in refl ∙ rows_before es))
    where
      gone : {A : Type 0} (f : ImagePart → List A) → f part.End ≡ []
          → flat_map f ((front ++ map (node_part table) es) ++ part.End ∷ []) ≡ flat_map f
          (front ++ map (node_part table) es)
      gone f e =
          flat_map-append f (front ++ map (node_part table) es) (part.End ∷ [])
          ∙ ap (λ (r : List _). flat_map f (front ++ map (node_part table) es) ++ (r ++ [])) e
          ∙ append-nil (flat_map f (front ++ map (node_part table) es))

      moved : {t : SessionEntries} {l : Lists} {r : Rows} → t ≡ ids → l ≡ table → r ≡ rows → IsMadeOf dialect s t l r
      moved {t} {l} {r} e f g =
          subst (λ (x : SessionEntries). IsMadeOf dialect s x l r) (sym e)
          (subst (λ (x : Lists). IsMadeOf dialect s ids x r) (sym f)
          (subst (λ (x : Rows). IsMadeOf dialect s ids table x) (sym g) (made owners)))

  ends_once : EndsOnce (image_load dialect) (values_of s)
  ends_once =
      part_ends dialect session_part (λ x. refl) ids (counted_values list_part table ++ node_values table es)
      (part_ends dialect list_part (λ x. refl) table (node_values table es) (node_ends dialect table es))

owners_kept : (dialect : Dialect) (lists : Lists) (es : List (Bytes × Node))
    → AllByRecursion (λ (e : Bytes × Node).
    node_body.Fits (e.1.bytes, (key_of lists e.1.acl, stored_stat e.1)) × KeepsOwner dialect e.1) es
    → KeepOwners dialect es
owners_kept dialect lists [] h = tt
owners_kept dialect lists (e ∷ es) h = (h.0.1, owners_kept dialect lists es h.1)

pub written_in : (dialect : Dialect) → WritesSpellings (image_in dialect)
written_in dialect s fits =
    let st = stand_written dialect (values_of s) SessionCount (values_fit dialect s fits.0 fits.1) in
    record {
      found = values_of s;
      end = st.0;
      stand = st.1;
      ends = ends_once dialect s fits.0;
      order = subst (AreAllowedAfter dialect []) (sym (parts_are dialect s fits.0)) (order dialect s fits.0);
      made = subst (IsMadeOfParts dialect s) (sym (parts_are dialect s fits.0)) (made_of_parts dialect s fits.0
          (owners_kept dialect (lists_of s.nodes) (walk_of s.nodes) fits.1.nodes));
    }

pub image_written : WritesSpellings image_format
image_written = written_in Zk34
