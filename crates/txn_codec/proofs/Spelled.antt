-- The fields and records of transactions are sound.
use Rattle.std.proofs.Common.{◌≡◌, ℕ, Bool, true, false, cond, List, [], ◌∷◌, Option, Some, None, Ok, Err, refl, sym, ap, subst, ◌∙◌, arith}
use Rattle.std.specs.Prelude.{ℤ, negsuc, find}
use Rattle.std.specs.Option.{ok_or}
use Rattle.std.specs.Ordering.{int_eq}
use Rattle.std.proofs.lemmas.Bool.Decides.{Decides-int_eq}
use Rattle.values.specs.declared.fault.Fault.TheVariants.{Short, BadPath, BadTxnType}
use Rattle.settings.specs.declared.dialect.Dialect.{Dialect}
use Rattle.settings.specs.declared.dialect.Reads.{Reads}
use Rattle.jute.specs.Format.{Format, int, long, boolean, buffer, text_format, vector_of, pair_of}
use Rattle.jute.specs.Laws.{IsSound, IsSoundAtEnd}
use Rattle.jute.specs.Owned.{acl_in}
use Rattle.jute.proofs.Public.{guard_ended, int_sound, long_sound, boolean_sound, buffer_sound, text_sound, acl_in_sound, both_sound, both_at_end, mapped_sound, case_sound, case_at_end, refusal_sound, judged_sound, vector_sound}
use Rattle.txn_codec.specs.declared.kind.TxnKind.{TxnKind}
use Rattle.txn_codec.specs.declared.kind.TxnKind.TheVariants as kinds
use Rattle.txn_codec.specs.declared.place.Place.{Place}
use Rattle.txn_codec.specs.declared.place.Place.TheVariants.{Part}
use Rattle.txn_codec.specs.Kinds.{txn_kinds, kinds_at, kind_of, later_kind_of, kind_at, code_of, is_part_kind, part_kind_of}
use Rattle.txn_codec.specs.Endings.{or_end, with_trailer_if}
use Rattle.paths_and_acls.specs.Paths.{is_path, is_child_path}
use Rattle.paths_and_acls.specs.Fields.{tested_text, path_by, path_format, child_path}
use Rattle.txn_codec.specs.Spelling.{kind_format_in, part_kind_in, owner_if, with_flag, flagged_owner, owner_format, fields_of, create_with, delete_with, set_data_with, set_acl_in, check_format, header_of, header_numbers, header_in}
use Rattle.txn_codec.proofs.Endings.{trailer_if_sound, last_at_end}

-- ---- paths

pub tested_is : (test : List ℕ → Bool) (t : Option (List ℕ)) (p : List ℕ) → tested_text test t ≡ Ok p
    → (test p ≡ true) × (t ≡ Some p)
tested_is test None p e = absurd cc
tested_is test (Some q) p e =
    let g = guard_ended (test q) BadPath q p e in
    (subst (λ (x : List ℕ). test x ≡ true) g.1 g.0, ap (λ (x : List ℕ). Some x) g.1)

pub path_sound : (test : List ℕ → Bool) → IsSound (path_by test)
path_sound test = judged_sound (tested_text test) (λ p. Some (Some p)) text_format
    (λ t p e. ap (λ (x : Option (List ℕ)). Some x) (sym (tested_is test t p e).1)) text_sound

-- ---- a number that may be missing

minus_fits : int.Fits (negsuc 0)
minus_fits = record { sfits = omega arith }

short : (are_read : Bool) → (with_trailer_if are_read int).read [] ≡ Err Short
short false = refl
short true = refl

trailed_fits : (are_read : Bool) → (with_trailer_if are_read int).Fits (negsuc 0)
trailed_fits false = minus_fits
trailed_fits true = minus_fits

pub last_sound : (are_read : Bool) → IsSoundAtEnd (or_end (with_trailer_if are_read int))
last_sound are_read = last_at_end (with_trailer_if are_read int) (trailer_if_sound int int_sound are_read)
    (trailed_fits are_read) (short are_read)

-- ---- types

code_step : (b : Bool) (z : ℤ) (j k : TxnKind) (rest : Option TxnKind) → (b ≡ true → z ≡ code_of j)
    → (ok_or rest BadTxnType ≡ Ok k → z ≡ code_of k) → ok_or (cond b (Some j) rest) BadTxnType ≡ Ok k → z ≡ code_of k
code_step true z j k rest is more e =
    let same : j ≡ k = cc in
    is refl ∙ ap code_of same
code_step false z j k rest is more e = more e

-- The type that is found has the code.
code_found : (z : ℤ) (ks : List TxnKind) (k : TxnKind) → ok_or (find (λ j. int_eq z (code_of j)) ks) BadTxnType ≡ Ok k
    → z ≡ code_of k
code_found z [] k e = absurd cc
code_found z (j ∷ ks) k e =
    code_step (int_eq z (code_of j)) z j k (find (λ i. int_eq z (code_of i)) ks) (Decides-int_eq z (code_of j)).0
    (code_found z ks k) e

-- The type that is read has the code.
kind_code : (are_extended : Bool) (place : Place) (z : ℤ) (k : TxnKind)
    → cond are_extended (later_kind_of place z) (kind_of z) ≡ Ok k → z ≡ code_of k
kind_code true place z k e = code_found z (kinds_at place) k e
kind_code false place z k e = code_found z txn_kinds k e

pub kind_sound : (reads : Reads) (place : Place) → IsSound (kind_format_in reads place)
kind_sound reads place = judged_sound (kind_at reads place) (λ k. Some (code_of k)) int
    (λ z k e. ap (λ (c : ℤ). Some c) (sym (kind_code reads.extended_types place z k e))) int_sound

part_is : (k j : TxnKind) → part_kind_of k ≡ Ok j → k ≡ j
part_is k j e = (guard_ended (is_part_kind k) BadTxnType k j e).1

pub part_kind_sound : (reads : Reads) → IsSound (part_kind_in reads)
part_kind_sound reads =
    judged_sound part_kind_of (λ k. Some k) (kind_format_in reads Part)
    (λ k j e. ap (λ (x : TxnKind). Some x) (sym (part_is k j e))) (kind_sound reads Part)

-- ---- records

acls_sound : (surrogates : Bool) → IsSound (vector_of (acl_in surrogates))
acls_sound surrogates = vector_sound (acl_in surrogates) (acl_in_sound surrogates)

flag_back : (b : Bool) (z : ℤ) → with_flag (owner_if b) z ≡ Some (b, z)
flag_back true z = refl
flag_back false z = refl

flagged_sound : IsSound (flagged_owner int)
flagged_sound = case_sound _ _ (pair_of boolean int) (λ v. flag_back v.0 v.1)
    (both_sound boolean int boolean_sound int_sound)

flagged_at_end : (last : Format ℤ) → IsSoundAtEnd last → IsSoundAtEnd (flagged_owner last)
flagged_at_end last s = case_at_end _ _ (pair_of boolean last) (λ v. flag_back v.0 v.1)
    (both_at_end boolean last boolean_sound s)

owner_sound : (k : TxnKind) → IsSound (owner_format int k)
owner_sound kinds.Create = flagged_sound
owner_sound kinds.Delete = refusal_sound BadTxnType
owner_sound kinds.SetData = refusal_sound BadTxnType
owner_sound kinds.SetAcl = refusal_sound BadTxnType
owner_sound kinds.Check = refusal_sound BadTxnType
owner_sound kinds.Multi = refusal_sound BadTxnType
owner_sound kinds.Reconfig = refusal_sound BadTxnType
owner_sound kinds.DeleteContainer = refusal_sound BadTxnType
owner_sound kinds.Create2 = flagged_sound
owner_sound kinds.CreateContainer = case_sound _ _ int (λ z. refl) int_sound
owner_sound kinds.CreateTtl = case_sound _ _ (pair_of int long) (λ v. refl) (both_sound int long int_sound long_sound)
owner_sound kinds.CreateSession = refusal_sound BadTxnType
owner_sound kinds.CloseSession = refusal_sound BadTxnType
owner_sound kinds.Error = refusal_sound BadTxnType

pub create_sound : (surrogates : Bool) (k : TxnKind) → IsSound (create_with surrogates int k)
create_sound surrogates k =
    case_sound _ fields_of _ (λ v. refl)
    (both_sound child_path _ (path_sound is_child_path)
    (both_sound buffer _ buffer_sound
    (both_sound (vector_of (acl_in surrogates)) (owner_format int k) (acls_sound surrogates) (owner_sound k))))

pub create_at_end : (surrogates : Bool) (last : Format ℤ) → IsSoundAtEnd last
    → IsSoundAtEnd (create_with surrogates last kinds.Create)
create_at_end surrogates last s =
    case_at_end _ fields_of _ (λ v. refl)
    (both_at_end child_path _ (path_sound is_child_path)
    (both_at_end buffer _ buffer_sound
    (both_at_end (vector_of (acl_in surrogates)) (flagged_owner last) (acls_sound surrogates) (flagged_at_end last s))))

pub delete_sound : (of_container : Bool) → IsSound (delete_with of_container)
delete_sound of_container = case_sound _ (λ d. Some d.path) child_path (λ p. refl) (path_sound is_child_path)

pub set_data_sound : (is_reconfig : Bool) → IsSound (set_data_with is_reconfig)
set_data_sound is_reconfig = case_sound _ (λ s. Some (s.path, (s.bytes, s.version))) _ (λ v. refl)
    (both_sound path_format _ (path_sound is_path) (both_sound buffer int buffer_sound int_sound))

pub set_acl_sound : (surrogates : Bool) → IsSound (set_acl_in surrogates)
set_acl_sound surrogates = mapped_sound _ _ _ (λ v. refl) (λ s. refl)
    (both_sound path_format _ (path_sound is_path)
    (both_sound (vector_of (acl_in surrogates)) int (acls_sound surrogates) int_sound))

pub check_sound : IsSound check_format
check_sound = mapped_sound _ _ _ (λ v. refl) (λ c. refl) (both_sound path_format int (path_sound is_path) int_sound)

pub header_sound : (rules : Dialect) → IsSound (header_in rules)
header_sound rules = case_sound (header_of rules) header_numbers _ (λ v. refl)
    (both_sound long _ long_sound (both_sound int _ int_sound (both_sound long long long_sound long_sound)))
