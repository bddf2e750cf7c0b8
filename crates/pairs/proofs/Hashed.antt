-- Maps and sets of texts that are found by their hash, read as finite maps and finite sets.
use Rattle.std.proofs.Common.{◌≡◌, List, [], ◌∷◌, Bool, true, false, cond, not, ◌||◌, ◌&&◌, Option, Some, None, refl, sym, subst, ◌∙◌, length}
use Rattle.std.specs.HashMap as hash
use Rattle.std.specs.HashMap.{HashMap}
use Rattle.std.specs.HashSet as bag
use Rattle.std.specs.HashSet.{HashSet}
use Rattle.std.specs.Map.{lookup}
use Rattle.std.specs.List.{list_any, IsDistinct}
use Rattle.std.specs.Ordering.{eq_by_cmp}
use Rattle.std.specs.Cmp.{eq_by_cmp_equiv}
use Rattle.std.specs.Str.{bytes_eq}
use Rattle.std.proofs.lemmas.Map.Lookups.{exact_bytes}
use Rattle.std.proofs.lemmas.Map.Text.{is_eq-slice_cmp}
use Rattle.std.specs.FinMap as finmap
use Rattle.std.specs.FinSet as set
use Rattle.pairs.specs.Pairs.{Bytes, text_cmp, TextKeys}
use Rattle.pairs.proofs.Totals.{text_total}
use Rattle.pairs.proofs.SetCounts.{len-listed}

-- A test by the order, and one by the bytes.
same_test : (q text : Bytes) → bytes_eq text q ≡ eq_by_cmp text_cmp q text
same_test q text = sym ((eq_by_cmp_equiv text_total).symm q text ∙ is_eq-slice_cmp text q)

pub distinct : (ks : List Bytes) → IsDistinct bytes_eq ks → IsDistinct (eq_by_cmp text_cmp) ks
distinct ks = subst (λ (e : Bytes → Bytes → Bool). IsDistinct e ks) (λ i a b. sym (is_eq-slice_cmp a b) i)

-- ---- maps

module _ {X : Type 0} where
  abbrev pub map_of : List (Bytes × X) → finmap.FinMap text_cmp X
  map_of es = finmap.from_entries es

  find-lookup : (es : List (Bytes × X)) (q : Bytes) → finmap.find text_cmp q es ≡ lookup (bytes_eq q) es
  find-lookup [] q = refl
  find-lookup (e ∷ es) q = λ i. cond (is_eq-slice_cmp q e.0 i) (Some e.1) (find-lookup es q i)

  pub get-hashed : (es : List (Bytes × X)) (q : Bytes) → finmap.get (map_of es) q ≡ lookup (bytes_eq q) es
  get-hashed es q = finmap.get-from_entries text_total es q ∙ find-lookup es q

  module _ {S : Type 0} (text : Bytes) (m n : HashMap Bytes X S) where
    get-updated : (w : Option X) → hash.UpdatesBy bytes_eq (bytes_eq text) m n w → (q : Bytes)
        → finmap.get (map_of n.entries) q ≡ cond (eq_by_cmp text_cmp q text) w (finmap.get (map_of m.entries) q)
    get-updated w u q =
        get-hashed n.entries q ∙ u.0 q
        ∙ (λ i. cond (same_test q text i) w (sym (get-hashed m.entries q) i))

    pub map_of-insert : (w : X) → hash.UpdatesBy bytes_eq (bytes_eq text) m n (Some w)
        → map_of n.entries ≡ finmap.insert (map_of m.entries) text w
    map_of-insert w u = finmap.same_map text_total exact_bytes _ _ (λ q.
        get-updated (Some w) u q ∙ sym (finmap.get-insert text_total (map_of m.entries) text w q))

    pub map_of-remove : hash.UpdatesBy bytes_eq (bytes_eq text) m n None
        → map_of n.entries ≡ finmap.remove (map_of m.entries) text
    map_of-remove u = finmap.same_map text_total exact_bytes _ _ (λ q.
        get-updated None u q ∙ sym (finmap.get-remove text_total (map_of m.entries) text q))

-- ---- sets

abbrev pub set_of : List Bytes → TextKeys
set_of ks = set.from_list ks

any-hashed : (ks : List Bytes) (q : Bytes) → list_any (eq_by_cmp text_cmp q) ks ≡ list_any (bytes_eq q) ks
any-hashed [] q = refl
any-hashed (k ∷ ks) q = λ i. is_eq-slice_cmp q k i || any-hashed ks q i

pub contains-hashed : (ks : List Bytes) (q : Bytes) → set.contains (set_of ks) q ≡ list_any (bytes_eq q) ks
contains-hashed ks q = set.contains-from_list text_total ks q ∙ any-hashed ks q

module _ {S : Type 0} (text : Bytes) (s n : HashSet Bytes S) where
  contains-updated : (b : Bool) → bag.UpdatesBy bytes_eq (bytes_eq text) s n b → (q : Bytes)
      → set.contains (set_of n.keys) q ≡ cond (eq_by_cmp text_cmp q text) b (set.contains (set_of s.keys) q)
  contains-updated b u q =
      contains-hashed n.keys q ∙ u.0 q ∙ (λ i. cond (same_test q text i) b (sym (contains-hashed s.keys q) i))

  pub set_of-insert : bag.UpdatesBy bytes_eq (bytes_eq text) s n true
      → set_of n.keys ≡ set.insert (set_of s.keys) text
  set_of-insert u = set.same_set text_total exact_bytes _ _ (λ q.
      contains-updated true u q ∙ by (eq_by_cmp text_cmp q text) (set.contains (set_of s.keys) q)
      ∙ sym (set.contains-insert text_total (set_of s.keys) text q))
    where
      by : (t b : Bool) → cond t true b ≡ (t || b)
      by true b = refl
      by false b = refl

  pub set_of-remove : bag.UpdatesBy bytes_eq (bytes_eq text) s n false
      → set_of n.keys ≡ set.remove (set_of s.keys) text
  set_of-remove u = set.same_set text_total exact_bytes _ _ (λ q.
      contains-updated false u q ∙ by (eq_by_cmp text_cmp q text) (set.contains (set_of s.keys) q)
      ∙ sym (set.contains-remove text_total (set_of s.keys) text q))
    where
      by : (t b : Bool) → cond t false b ≡ (not t && b)
      by true b = refl
      by false b = refl

pub len-hashed : (ks : List Bytes) → IsDistinct bytes_eq ks → set.len (set_of ks) ≡ length ks
len-hashed ks d = len-listed text_total exact_bytes ks (distinct ks d)
