-- The table of ACL lists: adding a list, and finding one.
use Rattle.std.proofs.Common.{◌≡◌, ◌≢◌, ℕ, suc, ◌+◌, ◌<◌, ◌≤◌, ℤ, pos, negsuc, Bool, true, false, cond, ◌||◌, List, [], ◌∷◌, ◌++◌, map, length, Option, Some, None, is_some, Result, Ok, Err, refl, sym, ap, subst, ◌∙◌, arith, true≢false, append-nil, is_ok}
use Rattle.std.specs.declared.cmp.Ordering.{Ordering}
use Rattle.std.specs.declared.cmp.Ordering.TheVariants.{Less, Equal, Greater}
use Rattle.std.specs.BTreeMap as tree
use Rattle.std.specs.BTreeMap.{btree_map_len, insert_entry, is_at}
use Rattle.std.specs.FinMap as finmap
use Rattle.std.specs.FinMap.{find}
use Rattle.std.specs.FinMap.Entries.{by_order, find-put}
use Rattle.std.specs.List.{flat_map, AllByRecursion}
use Rattle.std.specs.Map.{lookup}
use Rattle.std.specs.Option.{unwrap_or}
use Rattle.std.specs.Ordering.{eq_by_cmp, is_eq, match_ordering}
use Rattle.std.proofs.Math.Dec.{leb}
use Rattle.std.proofs.lemmas.Bool.{leb-true, le-leb}
use Rattle.std.proofs.lemmas.Grind.{flat_map-append}
use Rattle.std.proofs.lemmas.Map.Lookups.{exact_bytes}
use Rattle.std.proofs.lemmas.Map.Views.{tells_apart}
use Rattle.std.specs.Cmp.{tied_itself}
use Rattle.ephemerals.specs.Orders.{Bytes, path_cmp}
use Rattle.ephemerals.proofs.Totals.{path_total}
use Rattle.settings.specs.declared.dialect.Dialect.{Dialect}
use Rattle.values.specs.declared.fault.Fault.{Fault}
use Rattle.values.specs.declared.fault.Fault.TheVariants.{BadLength}
use Rattle.jute.specs.Codes.{open_acl}
use Rattle.jute.specs.Format.{count_format, count_limit, long, pair_of}
use Rattle.jute.specs.declared.owned.Acl.{Acl}
use Rattle.node_map.specs.declared.node.Node.{Node}
use Rattle.snapshot_codec.specs.Parts.{list_format}
use Rattle.snapshot_codec.specs.Written.{is_same_list, Lists, key_in, with_list, lists_from, key_of}
use Rattle.snapshot_codec.specs.Writes.{FitsList, list_bytes, GivesList, FitLists, keyed_bytes, IsTable, AddsList, MakesTable, NamesKey, WritesBytes}
use Rattle.snapshot_codec.specs.declared.key_table.KeyTable.{KeyTable}
use Rattle.snapshot_codec.specs.declared.write_error.WriteError.{WriteError}
use Rattle.snapshot_codec.specs.declared.write_error.WriteError.TheVariants.{NotWhole, NoMemory}
use Rattle.snapshot_codec.proofs.Formats.{list_sound, list_written}
use Rattle.snapshot_codec.proofs.Written.{list_decides, has_key, keyed_with}

-- ---- maps by the model of their keys

module _ {K X L Y : Type 0} (S : L → L → Ordering) (f : K → L) (g : X → Y) where
  abbrev pub seen : List (K × X) → List (L × Y)
  seen es = map (λ e. (f e.0, g e.1)) es

  pub seen-insert : (es : List (K × X)) (k : K) (v : X)
      → seen (insert_entry (λ a b. S (f a) (f b)) es k v) ≡ finmap.put S (f k) (g v) (seen es)
  seen-insert [] k v = refl
  seen-insert (e ∷ es) k v = by (seen-insert es k v) (S (f k) (f e.0))
    where
      by : seen (insert_entry (λ a b. S (f a) (f b)) es k v) ≡ finmap.put S (f k) (g v) (seen es) → (r : Ordering)
          → seen (match_ordering r ((k, v) ∷ e ∷ es) ((e.0, v) ∷ es)
          (e ∷ insert_entry (λ a b. S (f a) (f b)) es k v))
          ≡ by_order r ((f k, g v) ∷ seen (e ∷ es)) ((f e.0, g v) ∷ seen es)
          ((f e.0, g e.1) ∷ finmap.put S (f k) (g v) (seen es))
      by later Less = refl
      by later Equal = refl
      by later Greater = ap (λ (t : List (L × Y)). (f e.0, g e.1) ∷ t) later

abbrev asked_for : {K : Type 0} → (K → List ℕ) → List ℕ → K → Bool
asked_for f q = is_at (λ k. path_cmp q (f k))

module _ {K X : Type 0} (f : K → List ℕ) where
  find-lookup : (q : List ℕ) (es : List (K × X)) → find path_cmp q (seen path_cmp f (λ x. x) es) ≡ lookup
      (asked_for f q) es
  find-lookup q [] = refl
  find-lookup q (e ∷ es) = ap (cond (eq_by_cmp path_cmp q (f e.0)) (Some e.1)) (find-lookup q es)

  pub lookup-added : (q : List ℕ) (es : List (K × X)) (k : K) (v : X)
      → lookup (asked_for f q) (insert_entry (λ a b. path_cmp (f a) (f b)) es k v)
      ≡ cond (eq_by_cmp path_cmp q (f k)) (Some v) (lookup (asked_for f q) es)
  lookup-added q es k v =
      sym (find-lookup q (insert_entry (λ a b. path_cmp (f a) (f b)) es k v))
      ∙ ap (find path_cmp q) (seen-insert path_cmp f (λ x. x) es k v)
      ∙ find-put path_cmp path_total q (f k) v (seen path_cmp f (λ x. x) es)
      ∙ ap (cond (eq_by_cmp path_cmp q (f k)) (Some v)) (find-lookup q es)

module _ (dialect : Dialect) where
  -- ---- the bytes of a list determine it

  pub written_is : (list : List Acl) → (list_format dialect).written (Some list) ≡ list_bytes list
  written_is list = list_written dialect (Some list)

  list_in : List Acl → Result (Option (List Acl) × List ℕ) Fault → List Acl
  list_in other (Ok x) = unwrap_or x.0 other
  list_in other (Err e) = other

  list_exact : (a b : List Acl) → FitsList dialect a → FitsList dialect b → list_bytes a ≡ list_bytes b → a ≡ b
  unfolding list_in
  list_exact a b f g e =
      ap (list_in a) (sym (again a f) ∙ ap (λ (bytes : List ℕ). (list_format dialect).read (bytes ++ [])) e ∙ again b g)
    where
      again : (l : List Acl) → FitsList dialect l → (list_format dialect).read (list_bytes l ++ []) ≡ Ok (Some l, [])
      again l h = (list_sound dialect).lawful.again (Some l) (list_bytes l) []
          (subst (λ (b : List ℕ). (list_format dialect).Spells (Some l) b) (written_is l)
          ((list_sound dialect).lawful.writes (Some l) h))

  -- ---- one more list

  new_key : (es : Lists) (key : ℤ) (list asked : List Acl) → key_in es asked ≡ None → is_same_list list asked ≡ true
      → key_in (es ++ (key, list) ∷ []) asked ≡ Some key
  new_key [] key list asked none same = ap (λ b. cond b (Some key) None) same
  new_key (e ∷ es) key list asked none same = by (new_key es key list asked) (is_same_list e.1 asked) none
    where
      by : (key_in es asked ≡ None → is_same_list list asked ≡ true → key_in (es ++ (key, list) ∷ []) asked ≡ Some key)
          → (b : Bool) → cond b (Some e.0) (key_in es asked) ≡ None
          → cond b (Some e.0) (key_in (es ++ (key, list) ∷ []) asked) ≡ Some key
      by later true n = absurd (true≢false (ap is_some n))
      by later false n = later n same

  old_key : (es : Lists) (key : ℤ) (list asked : List Acl) → is_same_list list asked ≡ false
      → key_in (es ++ (key, list) ∷ []) asked ≡ key_in es asked
  old_key [] key list asked other = ap (λ b. cond b (Some key) None) other
  old_key (e ∷ es) key list asked other =
      ap (cond (is_same_list e.1 asked) (Some e.0)) (old_key es key list asked other)

  not_same : (a b : List Acl) → a ≢ b → is_same_list a b ≡ false
  not_same a b other = by (is_same_list a b) refl
    where
      by : (t : Bool) → is_same_list a b ≡ t → t ≡ false
      by true e = absurd (other ((list_decides a b).0 e))
      by false e = refl

  -- A list with a key fits, if all lists do.
  abbrev Fit : ℤ × List Acl → Type 0
  Fit l = (pair_of long (list_format dialect)).Fits (l.0, Some l.1)

  pub keyed_fits : (es : Lists) (asked : List Acl) → AllByRecursion Fit es → is_some (key_in es asked) ≡ true
      → FitsList dialect asked
  keyed_fits [] asked h some = absurd (true≢false (sym some))
  keyed_fits (e ∷ es) asked h some = by (keyed_fits es asked h.1) (is_same_list e.1 asked) refl some
    where
      by : (is_some (key_in es asked) ≡ true → FitsList dialect asked) → (b : Bool) → is_same_list e.1 asked ≡ b
          → is_some (cond b (Some e.0) (key_in es asked)) ≡ true → FitsList dialect asked
      by later true same k = subst (λ (l : List Acl). FitsList dialect l) ((list_decides e.1 asked).0 same) h.0.1
      by later false same k = later k

  -- ---- the number of lists

  pub many_fit : (n : ℕ) → n ≤ count_limit → (count_format count_limit).Fits (Some n)
  many_fit n le = (rw (le-leb n count_limit le) refl, record { sfits = omega arith })

  pub fits_many : (n : ℕ) → (count_format count_limit).Fits (Some n) → n ≤ count_limit
  fits_many n h = by (leb n count_limit) refl h.0
    where
      by : (b : Bool) → leb n count_limit ≡ b → cond b (Ok (Some n)) (Err BadLength) ≡ Ok (Some n) → n ≤ count_limit
      by true e k = leb-true n count_limit e
      by false e k = absurd (true≢false (sym (ap is_ok k)))

  append-length : {A : Type 0} (xs : List A) (x : A) → length (xs ++ x ∷ []) ≡ suc (length xs)
  append-length [] x = refl
  append-length (y ∷ xs) x = ap suc (append-length xs x)

  all_append : {A : Type 0} (P : A → Type 0) (xs : List A) (x : A) → AllByRecursion P xs → P x
      → AllByRecursion P (xs ++ x ∷ [])
  all_append P [] x h p = (p, tt)
  all_append P (y ∷ xs) x h p = (h.0, all_append P xs x h.1 p)

  all_front : {A : Type 0} (P : A → Type 0) (xs ys : List A) → AllByRecursion P (xs ++ ys) → AllByRecursion P xs
  all_front P [] ys h = tt
  all_front P (x ∷ xs) ys h = (h.0, all_front P xs ys h.1)

  -- ---- the table

  abbrev more : Lists → List Acl → Lists
  more lists list = lists ++ (pos (suc (length lists)), list) ∷ []

  -- A list that has no key gets one.
  grown : (lists : Lists) (list : List Acl) → list ≢ open_acl → key_in lists list ≡ None
      → with_list lists list ≡ more lists list
  grown lists list other none =
      (λ i. cond (not_same list open_acl other i || is_some (none i)) lists (more lists list))

  -- The key that a look-up finds.
  pub key_found : (lists : Lists) (list : List Acl) (key : ℤ) → list ≢ open_acl → key_in lists list ≡ Some key
      → key ≡ key_of lists list
  key_found lists list key other is =
      sym (λ i. cond (not_same list open_acl other i) (negsuc 0) (unwrap_or (is i) (negsuc 0)))

  module _ (old new : KeyTable) (lists : Lists) (list : List Acl) where
    pub one_more : IsTable dialect old lists → FitsList dialect list → list ≢ open_acl
        → tree.get_by (λ k. path_cmp (list_bytes list) k.items) old.keys ≡ None
        → btree_map_len old.keys < count_limit
        → ((asked : List Acl) → FitsList dialect asked
        → tree.get_by (λ k. path_cmp (list_bytes asked) k.items) new.keys
        ≡ cond (eq_by_cmp path_cmp (list_bytes asked) (list_bytes list)) (Some (pos (suc (btree_map_len old.keys))))
        (tree.get_by (λ k. path_cmp (list_bytes asked) k.items) old.keys))
        → btree_map_len new.keys ≡ btree_map_len old.keys + 1
        → new.written.items ≡ old.written.items ++ keyed_bytes (pos (suc (btree_map_len old.keys)), list)
        → IsTable dialect new (with_list lists list)
    one_more t fits other absent few finds grew wrote =
        subst (IsTable dialect new) (sym (grown lists list other none)) (record {
          found = found;
          many = grew ∙ many ∙ sym (append-length lists (key, list));
          written = wrote ∙ (λ i. t.written i ++ keyed_bytes (pos (suc (t.many i)), list))
              ∙ ap (λ (b : List ℕ). flat_map keyed_bytes lists ++ b) (sym (append-nil (keyed_bytes (key, list))))
              ∙ sym (flat_map-append keyed_bytes lists ((key, list) ∷ []));
          fit = (
            subst (λ n. (count_format count_limit).Fits (Some n)) (sym (append-length lists (key, list)))
                (many_fit (suc (length lists)) few_more),
            all_append Fit lists (key, list) t.fit.1 (record { sfits = omega arith }, fits),
          );
        })
      where
        key : ℤ
        key = pos (suc (length lists))

        none : key_in lists list ≡ None
        none = sym (t.found list fits) ∙ absent

        many : btree_map_len old.keys + 1 ≡ suc (length lists)
        many = let m : btree_map_len old.keys ≡ length lists = t.many in omega arith

        few_more : suc (length lists) ≤ count_limit
        few_more = let m : btree_map_len old.keys ≡ length lists = t.many in omega arith

        found : (asked : List Acl) → FitsList dialect asked
            → tree.get_by (λ k. path_cmp (list_bytes asked) k.items) new.keys ≡ key_in (more lists list) asked
        found asked h =
            finds asked h
            ∙ (λ i. cond (eq_by_cmp path_cmp (list_bytes asked) (list_bytes list)) (Some (pos (suc (t.many i))))
            (t.found asked h i))
            ∙ by (eq_by_cmp path_cmp (list_bytes asked) (list_bytes list)) refl
          where
            by : (b : Bool) → eq_by_cmp path_cmp (list_bytes asked) (list_bytes list) ≡ b
                → cond b (Some key) (key_in lists asked) ≡ key_in (more lists list) asked
            by true e =
                let same : asked ≡ list = list_exact asked list h fits (tells_apart exact_bytes _ _ e) in
                sym (new_key lists key list asked (ap (key_in lists) same ∙ none)
                ((list_decides list asked).1 (sym same)))
            by false e =
                sym (old_key lists key list asked (not_same list asked (λ same. true≢false
                (sym (ap is_eq (tied_itself path_total (list_bytes asked)))
                ∙ ap (λ (l : List Acl). eq_by_cmp path_cmp (list_bytes asked) (list_bytes l)) (sym same) ∙ e))))

  -- ---- a list that doesn't fit

  pub too_long : (lists : Lists) (list : List Acl) → list ≢ open_acl → (FitsList dialect list → ⊥)
      → FitLists dialect (with_list lists list) → ⊥
  too_long lists list other bad h =
      bad (keyed_fits (with_list lists list) list h.1 (by (not_same list open_acl other) (keyed_with lists list)))
    where
      by : is_same_list list open_acl ≡ false → has_key (with_list lists list) list ≡ true
          → is_some (key_in (with_list lists list) list) ≡ true
      by e k = ap (λ (b : Bool). b || is_some (key_in (with_list lists list) list)) (sym e) ∙ k

  pub too_many : (lists : Lists) (list : List Acl) → list ≢ open_acl → key_in lists list ≡ None
      → count_limit ≤ length lists → FitLists dialect (with_list lists list) → ⊥
  too_many lists list other none full h =
      let many : suc (length lists) ≤ count_limit = fits_many (suc (length lists))
      (subst (λ n. (count_format count_limit).Fits (Some n)) (append-length lists (pos (suc (length lists)), list))
      (subst (λ (l : Lists). (count_format count_limit).Fits (Some (length l))) (grown lists list other none) h.0)) in
      absurd (omega arith)

  -- Lists only grow.
  pub fit_before : (lists : Lists) (list : List Acl) → FitLists dialect (with_list lists list) → FitLists dialect lists
  fit_before lists list = by (has_key lists list)
    where
      by : (b : Bool) → FitLists dialect (cond b lists (more lists list)) → FitLists dialect lists
      by true h = h
      by false h = (
        (let many : suc (length lists) ≤ count_limit = fits_many (suc (length lists))
            (subst (λ n. (count_format count_limit).Fits (Some n))
            (append-length lists (pos (suc (length lists)), list))
            h.0) in
            many_fit (length lists) (omega arith)),
        all_front Fit lists ((pos (suc (length lists)), list) ∷ []) h.1,
      )

  -- ---- the contracts of the calls

  -- The look-up by a list's bytes finds its key.
  pub looked : (table : KeyTable) (lists : Lists) (list : List Acl) (slice : List ℕ) (found : Option ℤ)
      → IsTable dialect table lists → FitsList dialect list → slice ≡ list_bytes list
      → found ≡ tree.get_by (λ k. path_cmp slice k.items) table.keys → found ≡ key_in lists list
  looked table lists list slice found t fits same e =
      e ∙ ap (λ (b : List ℕ). tree.get_by (λ k. path_cmp b k.items) table.keys) same ∙ t.found list fits

  pub adds_err : (Z : Type 0) (e : WriteError) (lists : Lists) (list asked : List Acl) (new : KeyTable)
      → list ≡ asked → list ≢ open_acl → GivesList {Z = Z} dialect (Err e) list
      → AddsList dialect (Err e) lists asked new
  adds_err Z NotWhole lists list asked new same other bad =
      subst (λ (l : List Acl). FitLists dialect (with_list lists l) → ⊥) same (too_long lists list other bad)
  adds_err Z NoMemory lists list asked new same other bad = tt

  fit_earlier : (es : List (Bytes × Node)) (lists : Lists) → FitLists dialect (lists_from lists es)
      → FitLists dialect lists
  fit_earlier [] lists h = h
  fit_earlier (e ∷ es) lists h = fit_before lists e.1.acl (fit_earlier es (with_list lists e.1.acl) h)

  pub tables_err : (e : WriteError) (lists : Lists) (x : Bytes × Node) (rest : List (Bytes × Node)) (all : Lists)
      (new : KeyTable) → lists_from lists (x ∷ rest) ≡ all → AddsList dialect (Err e) lists x.1.acl new
      → MakesTable dialect (Err e) all
  tables_err NotWhole lists x rest all new is bad =
      λ h. bad (fit_earlier rest (with_list lists x.1.acl) (subst (λ (l : Lists). FitLists dialect l) (sym is) h))
  tables_err NoMemory lists x rest all new is bad = tt

  -- No list of a node is too long, if all that have keys fit.
  pub key_err : (e : WriteError) (table : KeyTable) (lists : Lists) (list : List Acl) (bytes old new : List ℕ)
      (Fits : Type 0) → IsTable dialect table lists → has_key lists list ≡ true → NamesKey dialect (Err e) lists list
      → WritesBytes (Err e) bytes old new Fits
  key_err NotWhole table lists list bytes old new Fits t has bad =
      absurd (bad.1 (keyed_fits lists list t.fit.1
      (ap (λ (b : Bool). b || is_some (key_in lists list)) (sym (not_same list open_acl bad.0)) ∙ has)))
  key_err NoMemory table lists list bytes old new Fits t has bad = tt
