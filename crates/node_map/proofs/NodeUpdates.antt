-- A node that was borrowed mutably.
use Rattle.std.proofs.Common.{◌≡◌, Bool, true, false, cond, Option, Some, None, is_some, OnSome, refl, sym, ap, subst, ◌∙◌, if◌then◌else◌}
use Rattle.std.specs.Borrow.{MutBor}
use Rattle.std.specs.Option.{option_map}
use Rattle.std.specs.Ordering.{eq_by_cmp, is_eq}
use Rattle.std.proofs.lemmas.Map.Lookups.{exact_bytes}
use Rattle.std.proofs.lemmas.Map.Views.{tells_apart}
use Rattle.std.specs.FinMap as finmap
use Rattle.ephemerals.specs.Orders.{Bytes, path_cmp}
use Rattle.node_map.specs.Nodes.{Nodes}
use Rattle.node_map.specs.Updates.{update_node, update_found, with_name}
use Rattle.node_map.specs.Children.{with_added_child, with_raised_stat, stat_with_child, without_added_child, without_name, added_child, with_new_node}
use Rattle.std.specs.FinSet as set
use Rattle.txn_codec.specs.declared.txn.TxnHeader.{TxnHeader}
use Rattle.txn_codec.specs.declared.txn.Create.{Create}
use Rattle.values.proofs.SetSteps.{remove-insert, insert-present}
use Rattle.node_map.specs.declared.added_child.AddedChild.TheVariants.{Taken, Added}
use Rattle.jute.specs.declared.stat.StatPersisted.{StatPersisted}
use Rattle.std.specs.Cmp.{tied_itself}
use Rattle.node_map.specs.declared.node.Node.{Node}
use Rattle.ephemerals.proofs.Totals.{path_total}

-- Inserting the node that is there already.
pub insert_same : (m : Nodes) (path : Bytes) (node : Node) → finmap.get m path ≡ Some node
    → finmap.insert m path node ≡ m
insert_same m path node e =
    finmap.same_map path_total exact_bytes _ _
    (λ q. finmap.get-insert path_total m path node q ∙ by q (eq_by_cmp path_cmp q path) refl)
  where
    by : (q : Bytes) (b : Bool) → eq_by_cmp path_cmp q path ≡ b → cond b (Some node) (finmap.get m q) ≡ finmap.get m q
    by q true t = sym e ∙ ap (finmap.get m) (sym (tells_apart exact_bytes q path t))
    by q false t = refl

pub insert_insert : (m : Nodes) (path : Bytes) (a b : Node)
    → finmap.insert (finmap.insert m path a) path b ≡ finmap.insert m path b
insert_insert m path a b =
    finmap.same_map path_total exact_bytes _ _
    (λ q. finmap.get-insert path_total (finmap.insert m path a) path b q ∙ by q (eq_by_cmp path_cmp q path) refl
    ∙ sym (finmap.get-insert path_total m path b q))
  where
    by : (q : Bytes) (t : Bool) → eq_by_cmp path_cmp q path ≡ t
        → cond t (Some b) (finmap.get (finmap.insert m path a) q) ≡ cond t (Some b) (finmap.get m q)
    by q true t = refl
    by q false t = finmap.get-insert path_total m path a q ∙ ap (λ x. cond x (Some a) (finmap.get m q)) t

pub lent_is : (r : Option (MutBor Node)) (m n : Nodes) (path : Bytes) (b : MutBor Node) (w : Node) (f : Node → Node)
    → r ≡ Some b → OnSome r (n ≡ finmap.insert m path w) → Some b.now ≡ finmap.get m path → w ≡ f b.now
    → n ≡ update_node m path f
lent_is r m n path b w f is wrote was e =
    subst (λ x. OnSome x (n ≡ finmap.insert m path w)) is wrote
    ∙ ap (finmap.insert m path) e
    ∙ ap (update_found m path f) was

pub lent_same : (r : Option (MutBor Node)) (m n : Nodes) (path : Bytes) (b : MutBor Node) (w : Node)
    → r ≡ Some b → OnSome r (n ≡ finmap.insert m path w) → Some b.now ≡ finmap.get m path → w ≡ b.now → n ≡ m
lent_same r m n path b w is wrote was e =
    subst (λ x. OnSome x (n ≡ finmap.insert m path w)) is wrote
    ∙ insert_same m path w (sym was ∙ ap Some (sym e))

pub get_inserted : (m : Nodes) (path : Bytes) (node : Node) → finmap.get (finmap.insert m path node) path ≡ Some node
get_inserted m path node =
    finmap.get-insert path_total m path node path
    ∙ ap (λ r. cond (is_eq r) (Some node) (finmap.get m path)) (tied_itself path_total path)

-- An update leaves the nodes at other paths.
pub updated_apart : (m : Nodes) (path : Bytes) (f : Node → Node) (q : Bytes) → eq_by_cmp path_cmp q path ≡ false
    → finmap.get (update_node m path f) q ≡ finmap.get m q
updated_apart m path f q apart = by (finmap.get m path)
  where
    by : (o : Option Node) → finmap.get (update_found m path f o) q ≡ finmap.get m q
    by None = refl
    by (Some node) = finmap.get-insert path_total m path (f node) q
        ∙ ap (λ b. cond b (Some (f node)) (finmap.get m q)) apart

pub updated_here : (m : Nodes) (path : Bytes) (f : Node → Node)
    → finmap.get (update_node m path f) path ≡ option_map f (finmap.get m path)
updated_here m path f = by (finmap.get m path) refl
  where
    by : (o : Option Node) → finmap.get m path ≡ o → finmap.get (update_found m path f o) path ≡ option_map f o
    by None is = is
    by (Some node) is = get_inserted m path (f node)

-- What an update leaves at a path depends on the node there alone.
pub updated_same : (m n : Nodes) (path : Bytes) (f : Node → Node) (q : Bytes) → finmap.get m q ≡ finmap.get n q
    → finmap.get (update_node m path f) q ≡ finmap.get (update_node n path f) q
updated_same m n path f q same = by (eq_by_cmp path_cmp q path) refl
  where
    by : (b : Bool) → eq_by_cmp path_cmp q path ≡ b
        → finmap.get (update_node m path f) q ≡ finmap.get (update_node n path f) q
    by true t =
        let is : q ≡ path = tells_apart exact_bytes q path t in
        ap (finmap.get (update_node m path f)) is ∙ updated_here m path f
        ∙ ap (option_map f) (ap (finmap.get m) (sym is) ∙ same ∙ ap (finmap.get n) is)
        ∙ sym (updated_here n path f)
        ∙ ap (finmap.get (update_node n path f)) (sym is)
    by false t = updated_apart m path f q t ∙ same ∙ sym (updated_apart n path f q t)

-- A new name.
pub added_child_new : (h : TxnHeader) (c : Create) (name : Bytes) (parent : Node)
    → set.contains parent.children name ≡ false
    → with_added_child h c name parent
    ≡ record parent { children = set.insert parent.children name; stat = stat_with_child h c parent.stat }
added_child_new h c name parent free =
    ap (λ b. if b then with_raised_stat h c parent
    else record parent { children = set.insert parent.children name; stat = stat_with_child h c parent.stat }) free

-- A name that is taken.
pub added_child_taken : (h : TxnHeader) (c : Create) (name : Bytes) (parent : Node)
    → set.contains parent.children name ≡ true → with_added_child h c name parent ≡ with_raised_stat h c parent
added_child_taken h c name parent taken =
    ap (λ b. if b then with_raised_stat h c parent
    else record parent { children = set.insert parent.children name; stat = stat_with_child h c parent.stat }) taken

-- A name that was added, and removed again with the old stat.
pub undone : (m : Nodes) (path name : Bytes) (h : TxnHeader) (c : Create) (parent : Node)
    → finmap.get m path ≡ Some parent → set.contains parent.children name ≡ false
    → update_node (update_node m path (with_added_child h c name)) path (without_added_child name parent.stat) ≡ m
undone m path name h c parent is free =
    ap (λ o. update_node (update_found m path (with_added_child h c name) o) path
    (without_added_child name parent.stat)) is
    ∙ ap (update_found (finmap.insert m path (with_added_child h c name parent)) path
    (without_added_child name parent.stat)) (get_inserted m path (with_added_child h c name parent))
    ∙ insert_insert m path (with_added_child h c name parent)
    (without_added_child name parent.stat (with_added_child h c name parent))
    ∙ ap (finmap.insert m path)
    (ap (without_added_child name parent.stat) (added_child_new h c name parent free)
    ∙ (λ i. record parent { children = remove-insert path_total exact_bytes parent.children name free i }))
    ∙ insert_same m path parent is

-- A name that was added, and removed again.
pub undone_name : (m : Nodes) (path name : Bytes) (stat : StatPersisted)
    → Added stat ≡ added_child (finmap.get m path) name
    → update_node (update_node m path (with_name name)) path (without_name name) ≡ m
undone_name m path name stat = by (finmap.get m path) refl
  where
    under : (parent : Node) (b : Bool) → finmap.get m path ≡ Some parent → set.contains parent.children name ≡ b
        → Added stat ≡ (if b then Taken else Added parent.stat)
        → update_node (update_node m path (with_name name)) path (without_name name) ≡ m
    under parent true is here a = cc
    under parent false is here a =
        ap (λ o. update_node (update_found m path (with_name name) o) path (without_name name)) is
        ∙ ap (update_found (finmap.insert m path (with_name name parent)) path (without_name name))
        (get_inserted m path (with_name name parent))
        ∙ insert_insert m path (with_name name parent) (without_name name (with_name name parent))
        ∙ ap (finmap.insert m path)
        (λ i. record parent { children = remove-insert path_total exact_bytes parent.children name here i })
        ∙ insert_same m path parent is

    by : (o : Option Node) → finmap.get m path ≡ o → Added stat ≡ added_child o name
        → update_node (update_node m path (with_name name)) path (without_name name) ≡ m
    by None is a = cc
    by (Some parent) is a = under parent (set.contains parent.children name) is refl a

-- A name that was there.
pub kept_name : (m : Nodes) (path name : Bytes) → Taken ≡ added_child (finmap.get m path) name
    → update_node m path (with_name name) ≡ m
kept_name m path name = by (finmap.get m path) refl
  where
    under : (parent : Node) (b : Bool) → finmap.get m path ≡ Some parent → set.contains parent.children name ≡ b
        → Taken ≡ (if b then Taken else Added parent.stat) → update_node m path (with_name name) ≡ m
    under parent false is here t = cc
    under parent true is here t =
        ap (update_found m path (with_name name)) is
        ∙ ap (finmap.insert m path)
        (λ i. record parent { children = sym (insert-present path_total exact_bytes parent.children name here) i })
        ∙ insert_same m path parent is

    by : (o : Option Node) → finmap.get m path ≡ o → Taken ≡ added_child o name
        → update_node m path (with_name name) ≡ m
    by None is t = cc
    by (Some parent) is t = under parent (set.contains parent.children name) is refl t

-- A node that is inserted where there was none.
pub new_node_put : (m : Nodes) (path : Bytes) (node : Node) → finmap.get m path ≡ None
    → finmap.insert m path node ≡ with_new_node m path node
new_node_put m path node none = by (finmap.get m path) none
  where
    by : (o : Option Node) → o ≡ None
        → finmap.insert m path node ≡ (if is_some o then m else finmap.insert m path node)
    by None is = refl
    by (Some old) is = cc

-- A node that replaced another one, which is put back.
pub old_node_put_back : (m : Nodes) (path : Bytes) (node old : Node) → finmap.get m path ≡ Some old
    → update_node (finmap.insert m path node) path (λ _. old) ≡ with_new_node m path node
old_node_put_back m path node old is =
    ap (update_found (finmap.insert m path node) path (λ _. old)) (get_inserted m path node)
    ∙ insert_insert m path node old
    ∙ insert_same m path old is
    ∙ by (finmap.get m path) is
  where
    by : (o : Option Node) → o ≡ Some old → m ≡ (if is_some o then m else finmap.insert m path node)
    by None is = cc
    by (Some other) is = refl
