-- The formats of the parts are sound, and no part is refused for want of bytes.
use Rattle.std.proofs.Common.{◌≡◌, ◌||◌, ℕ, List, [], ◌∷◌, ◌++◌, Option, Some, None, Result, Ok, Err, Bool, true, false, cond, refl, sym, ap, ◌∙◌, is_some}
use Rattle.std.specs.Prelude.{ℤ, All}
use Rattle.std.specs.FinMap as finmap
use Rattle.std.specs.List.{AllByRecursion}
use Rattle.std.specs.Str.{bytes_eq}
use Rattle.std.proofs.lemmas.Bool.{eqb-true}
use Rattle.std.proofs.lemmas.List.Elements.{All-head, All-tail, All-from_recursion}
use Rattle.std.proofs.lemmas.Slice.Eq.{bytes_eq-Decides}
use Rattle.settings.specs.Dialects.{reads_of}
use Rattle.settings.specs.declared.dialect.Dialect.{Dialect}
use Rattle.settings.specs.declared.dialect.Dialect.TheVariants.{Zk34}
use Rattle.values.specs.declared.fault.Fault.{Fault}
use Rattle.values.specs.declared.fault.Fault.TheVariants.{Short, BadPath, BadImage}
use Rattle.jute.specs.Format.{int, long, buffer, count_format, count_limit, text_format, vector_of, vector_bytes, back_bytes, pair_of}
use Rattle.jute.specs.Laws.{IsSound}
use Rattle.jute.specs.Loading.{AreSound, NeverWaits}
use Rattle.jute.specs.Owned.{acl_in, acl_format}
use Rattle.jute.specs.Records.{stat_persisted}
use Rattle.jute.specs.declared.owned.Acl.{Acl}
use Rattle.jute.proofs.Public.{ok_is, not_refused, guard_ended, bind_ok, int_sound, long_sound, count_sound, buffer_sound, text_sound, vector_sound, acl_in_sound, acl_written, acl_writable, stat_persisted_sound, both_sound, judged_sound, case_sound}
use Rattle.paths_and_acls.specs.Paths.{is_root, is_path, checked_path}
use Rattle.data_tree.specs.Making.{has_place}
use Rattle.snapshot_codec.specs.Dialects.{or_missing, comes_late}
use Rattle.snapshot_codec.specs.Made.{LoadedParts, with_value, with_listed_node, list_at_key, image_load}
use Rattle.snapshot_codec.specs.Parts.{Value, Count, Path, Close, Part, count_value, count_back, session_value, session_back, acl_value, acl_back, root_path, path_value, root_text_value, root_value, root_back, next_value, next_back, node_value, node_back, node_body, signature_text, signature_value, signature_back, counted_parts, list_format, part_format, part_stream}
use Rattle.snapshot_codec.specs.declared.part.ImageNode.{ImageNode}
use Rattle.snapshot_codec.specs.declared.part.ImagePart.TheVariants as part
use Rattle.snapshot_codec.specs.declared.part.PartPhase.{PartPhase}
use Rattle.snapshot_codec.specs.declared.part.PartPhase.TheVariants.{SessionCount, Sessions, AclCount, Acls, Root, Nodes, Body, Signature}

-- ---- a judged value is written back

abbrev Good : Value → Result Value Fault
Good v = Ok v

count_returns : (n : Option ℕ) (v : Value) → count_value n ≡ Ok v → count_back v ≡ Some n
count_returns None v e = absurd cc
count_returns (Some n) v e = ap count_back (sym (ok_is (Count n) v e))

pub path_is : (t : List ℕ) (v : Value) → path_value t ≡ Ok v → v ≡ Path t
path_is t v e =
    let p = bind_ok (checked_path t) (λ path. Good (Path path)) v e in
    sym (ok_is (Path p.0) v p.2) ∙ ap (λ x. Path x) (sym (guard_ended (is_path t) BadPath t p.0 p.1).1)

pub root_is : (t : List ℕ) → is_root t ≡ true → t ≡ root_path
root_is [] e = absurd cc
root_is (b ∷ []) e = ap (λ (n : ℕ). n ∷ []) (eqb-true b 47 e)
root_is (b ∷ c ∷ t) e = absurd cc

root_back_of : (t : List ℕ) (v : Value) → root_text_value t ≡ Ok v → root_back v ≡ Some (Some t)
root_back_of [] v e = ap root_back (sym (ok_is (Path root_path) v e))
root_back_of (b ∷ t) v e = by (is_root (b ∷ t)) refl e
  where
    by : (r : Bool) → is_root (b ∷ t) ≡ r → cond r (Err BadImage) (path_value (b ∷ t)) ≡ Ok v
        → root_back v ≡ Some (Some (b ∷ t))
    by true h k = absurd cc
    by false h k = ap root_back (path_is (b ∷ t) v k) ∙ ap (λ r. Some (Some (cond r [] (b ∷ t)))) h

root_returns : (t : Option (List ℕ)) (v : Value) → root_value t ≡ Ok v → root_back v ≡ Some t
root_returns None v e = absurd cc
root_returns (Some t) v e = root_back_of t v e

next_returns : (t : Option (List ℕ)) (v : Value) → next_value t ≡ Ok v → next_back v ≡ Some t
next_returns None v e = absurd cc
next_returns (Some t) v e = by (is_root t) refl e
  where
    by : (r : Bool) → is_root t ≡ r → cond r (Good Close) (path_value t) ≡ Ok v → next_back v ≡ Some (Some t)
    by true h k = ap next_back (sym (ok_is Close v k)) ∙ ap (λ x. Some (Some x)) (sym (root_is t h))
    by false h k = ap next_back (path_is t v k)

signature_returns : (t : Option (List ℕ)) (v : Value) → signature_value t ≡ Ok v → signature_back v ≡ Some t
signature_returns None v e = absurd cc
signature_returns (Some t) v e =
    let g = guard_ended (bytes_eq t signature_text) BadImage (Part part.End) v e in
    ap signature_back (sym g.1) ∙ ap (λ x. Some (Some x)) (sym ((bytes_eq-Decides t signature_text).0 g.0))

-- ---- the formats

counted_sound : IsSound counted_parts
counted_sound = judged_sound count_value count_back (count_format count_limit) count_returns (count_sound count_limit)

body_sound : IsSound node_body
body_sound = both_sound buffer _ buffer_sound (both_sound long stat_persisted long_sound stat_persisted_sound)

pub list_sound : (dialect : Dialect) → IsSound (list_format dialect)
list_sound dialect = vector_sound (acl_in (reads_of dialect).surrogates) (acl_in_sound (reads_of dialect).surrogates)

pub list_writable : (dialect : Dialect) (list : List Acl) → All (acl_in (reads_of dialect).surrogates).Writable list
    → All acl_format.Writable list
list_writable dialect list h = All-from_recursion acl_format.Writable list (each list h)
  where
    each : (entries : List Acl) → All (acl_in (reads_of dialect).surrogates).Writable entries
        → AllByRecursion acl_format.Writable entries
    each [] k = tt
    each (e ∷ es) k = (
      acl_writable (reads_of dialect).surrogates e (All-head (acl_in (reads_of dialect).surrogates).Writable e es k),
      each es (All-tail (acl_in (reads_of dialect).surrogates).Writable e es k),
    )

pub list_written : (dialect : Dialect) (list : Option (List Acl))
    → (list_format dialect).written list ≡ (vector_of acl_format).written list
list_written dialect list =
    ap (λ (w : Acl → List ℕ). vector_bytes w list) (acl_written (reads_of dialect).surrogates)

pub part_sound : (dialect : Dialect) (phase : PartPhase) → IsSound (part_format dialect phase)
part_sound dialect SessionCount = counted_sound
part_sound dialect (Sessions n) = case_sound session_value session_back (pair_of long int) (λ s. refl)
    (both_sound long int long_sound int_sound)
part_sound dialect AclCount = counted_sound
part_sound dialect (Acls n) = case_sound acl_value acl_back (pair_of long (list_format dialect)) (λ a. refl)
    (both_sound long (list_format dialect) long_sound (list_sound dialect))
part_sound dialect Root = judged_sound root_value root_back text_format root_returns text_sound
part_sound dialect Nodes = judged_sound next_value next_back text_format next_returns text_sound
part_sound dialect (Body path) = case_sound (node_value path) node_back node_body (λ n. refl) body_sound
part_sound dialect Signature = judged_sound signature_value signature_back text_format signature_returns text_sound

-- The bytes that are written don't depend on the dialect.
pub part_written : (dialect : Dialect) (phase : PartPhase) (v : Value)
    → (part_format dialect phase).written v ≡ (part_format Zk34 phase).written v
part_written dialect SessionCount v = refl
part_written dialect (Sessions n) v = refl
part_written dialect AclCount v = refl
part_written dialect (Acls n) v = by (acl_back v)
  where
    by : (back : Option (ℤ × Option (List Acl)))
        → back_bytes (pair_of long (list_format dialect)) back ≡ back_bytes (pair_of long (list_format Zk34)) back
    by None = refl
    by (Some a) = ap (λ (b : List ℕ). long.written a.0 ++ b) (list_written dialect a.1)
part_written dialect Root v = refl
part_written dialect Nodes v = refl
part_written dialect (Body path) v = refl
part_written dialect Signature v = refl

pub parts_sound : (dialect : Dialect) → AreSound (part_stream dialect)
parts_sound dialect = record { sound = λ phase. part_sound dialect phase }

-- ---- no refusal waits

not_short : {A : Type 0} (b : Bool) (x : A) → cond b (Err BadImage) (Ok x) ≡ Err Short → ⊥
not_short true x e = absurd cc
not_short false x e = not_refused x Short e

place_waits : (b : Bool) (x : LoadedParts) → cond b (Ok x) (Err BadImage) ≡ Err Short → ⊥
place_waits true x e = not_refused x Short e
place_waits false x e = absurd cc

node_waits : (made : LoadedParts) (n : ImageNode) (list : Option (List Acl))
    → with_listed_node made n list ≡ Err Short → ⊥
node_waits made n None e = absurd cc
node_waits made n (Some list) e = place_waits (has_place made.state.nodes n.path) _ e

value_waits : (made : LoadedParts) (v : Value) → with_value made v ≡ Err Short → ⊥
value_waits made (Count n) e = not_refused made Short e
value_waits made (Path path) e = not_refused made Short e
value_waits made Close e = not_refused made Short e
value_waits made (Part (part.Session s)) e = not_short (is_some (finmap.get made.state.sessions s.id)) _ e
value_waits made (Part (part.Acl a)) e = not_short
    (comes_late made.dialect made.state.nodes || is_some (finmap.get made.lists a.key)) _ e
value_waits made (Part (part.Node n)) e = node_waits made n
    (or_missing made.dialect (list_at_key made.lists n.acl)) e
value_waits made (Part part.End) e = not_refused made Short e

pub never_waits : (dialect : Dialect) → NeverWaits (image_load dialect)
never_waits dialect = record { goes_on = value_waits }
