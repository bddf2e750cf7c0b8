-- Operations, parts, bodies and transactions are sound.
use Rattle.std.proofs.Common.{◌≡◌, ℕ, Bool, true, false, ◌&&◌, List, refl, sym, ap, ◌∙◌}
use Rattle.std.specs.Prelude.{ℤ, not}
use Rattle.values.specs.declared.fault.Fault.TheVariants.{BadTxnType}
use Rattle.settings.specs.Dialects.{reads_of}
use Rattle.settings.specs.declared.dialect.Dialect.{Dialect}
use Rattle.settings.specs.declared.dialect.Reads.{Reads}
use Rattle.jute.specs.Format.{Format, int}
use Rattle.jute.specs.Laws.{IsSound, IsSoundAtEnd}
use Rattle.jute.proofs.Public.{ok_is, sound_at_end, int_sound, both_at_end, mapped_at_end, case_sound, case_at_end, refusal_sound, tagged_sound, tagged_at_end, null_vector_sound}
use Rattle.txn_codec.specs.declared.kind.TxnKind.{TxnKind}
use Rattle.txn_codec.specs.declared.kind.TxnKind.TheVariants as kinds
use Rattle.txn_codec.specs.declared.place.Place.TheVariants.{Alone}
use Rattle.txn_codec.specs.declared.txn.Owner.{Owner}
use Rattle.txn_codec.specs.declared.txn.Create.{Create}
use Rattle.txn_codec.specs.declared.txn.Delete.{Delete}
use Rattle.txn_codec.specs.declared.txn.SetData.{SetData}
use Rattle.txn_codec.specs.declared.txn.Operation.{Operation}
use Rattle.txn_codec.specs.declared.txn.Operation.TheVariants as operations
use Rattle.txn_codec.specs.declared.txn.Body.{Body}
use Rattle.txn_codec.specs.declared.txn.Body.TheVariants as bodies
use Rattle.txn_codec.specs.Kinds.{create_kind, delete_kind, set_data_kind, operation_kind, body_kind}
use Rattle.txn_codec.specs.Endings.{with_trailer_if, closing_if}
use Rattle.txn_codec.specs.Spelling.{last_field, kind_format_in, part_kind_in, owner_if, owner_format, shows_stat, create_with, delete_with, set_data_with, set_acl_in, check_format, header_in, as_create, as_delete, as_set_data, as_check, as_error, created_operation, deleted_operation, set_operation, operation_format, is_lenient, part_content, part_format_in, parts_format_in, as_single, as_set_acl, as_multi, as_session, as_close, has_own_end, body_fields, body_content, body_in, txn_in}
use Rattle.txn_codec.proofs.Closing.{closing_if_sound}
use Rattle.txn_codec.proofs.Endings.{trailer_if_sound, in_buffer_sound, before_trailer, buffered}
use Rattle.txn_codec.proofs.Spelled.{last_sound, kind_sound, part_kind_sound, create_sound, create_at_end, delete_sound, set_data_sound, set_acl_sound, check_sound, header_sound}

-- ---- operations

created_sound : (surrogates : Bool) (k : TxnKind) → IsSound (created_operation surrogates int k)
created_sound surrogates k =
    case_sound operations.Create as_create (create_with surrogates int k) (λ c. refl) (create_sound surrogates k)

deleted_sound : (of_container : Bool) → IsSound (deleted_operation of_container)
deleted_sound of_container =
    case_sound operations.Delete as_delete (delete_with of_container) (λ d. refl) (delete_sound of_container)

set_sound : (is_reconfig : Bool) → IsSound (set_operation is_reconfig)
set_sound is_reconfig =
    case_sound operations.SetData as_set_data (set_data_with is_reconfig) (λ s. refl) (set_data_sound is_reconfig)

pub operation_sound : (surrogates : Bool) (k : TxnKind) → IsSound (operation_format surrogates int k)
operation_sound surrogates kinds.Create = created_sound surrogates kinds.Create
operation_sound surrogates kinds.Create2 = created_sound surrogates kinds.Create2
operation_sound surrogates kinds.CreateContainer = created_sound surrogates kinds.CreateContainer
operation_sound surrogates kinds.CreateTtl = created_sound surrogates kinds.CreateTtl
operation_sound surrogates kinds.Delete = deleted_sound false
operation_sound surrogates kinds.DeleteContainer = deleted_sound true
operation_sound surrogates kinds.SetData = set_sound false
operation_sound surrogates kinds.Reconfig = set_sound true
operation_sound surrogates kinds.Check = case_sound operations.Check as_check check_format (λ c. refl) check_sound
operation_sound surrogates kinds.Error = case_sound operations.Error as_error int (λ e. refl) int_sound
operation_sound surrogates kinds.SetAcl = refusal_sound BadTxnType
operation_sound surrogates kinds.Multi = refusal_sound BadTxnType
operation_sound surrogates kinds.CreateSession = refusal_sound BadTxnType
operation_sound surrogates kinds.CloseSession = refusal_sound BadTxnType

flag_tells : (b : Bool) → create_kind (owner_if b) false ≡ kinds.Create
flag_tells true = refl
flag_tells false = refl

flag_tells_later : (b : Bool) → create_kind (owner_if b) true ≡ kinds.Create2
flag_tells_later true = refl
flag_tells_later false = refl

-- The owner that is spelled after a type is one of that type.
owner_tells : (last : Format ℤ) (k : TxnKind) (v : Owner × ℤ) (text : List ℕ) → (owner_format last k).Spells v text
    → create_kind v.0 (shows_stat k) ≡ k
owner_tells last kinds.Create v text s =
    ap (λ (w : Owner × ℤ). create_kind w.0 false) (sym (ok_is (owner_if s.0.0, s.0.1) v s.1)) ∙ flag_tells s.0.0
owner_tells last kinds.Create2 v text s =
    ap (λ (w : Owner × ℤ). create_kind w.0 true) (sym (ok_is (owner_if s.0.0, s.0.1) v s.1)) ∙ flag_tells_later s.0.0
owner_tells last kinds.CreateContainer v text s =
    ap (λ (w : Owner × ℤ). create_kind w.0 true) (sym (ok_is _ v s.1))
owner_tells last kinds.CreateTtl v text s = ap (λ (w : Owner × ℤ). create_kind w.0 true) (sym (ok_is _ v s.1))
owner_tells last kinds.Delete v text s = absurd s
owner_tells last kinds.SetData v text s = absurd s
owner_tells last kinds.SetAcl v text s = absurd s
owner_tells last kinds.Check v text s = absurd s
owner_tells last kinds.Multi v text s = absurd s
owner_tells last kinds.Reconfig v text s = absurd s
owner_tells last kinds.DeleteContainer v text s = absurd s
owner_tells last kinds.CreateSession v text s = absurd s
owner_tells last kinds.CloseSession v text s = absurd s
owner_tells last kinds.Error v text s = absurd s

created_tells : (surrogates : Bool) (last : Format ℤ) (k : TxnKind) (o : Operation) (text : List ℕ)
    → (created_operation surrogates last k).Spells o text
    → operation_kind o ≡ k
created_tells surrogates last k o text s =
    ap operation_kind (sym (ok_is (operations.Create s.0) o s.1))
    ∙ ap (λ (c : Create). create_kind c.owner c.asks_stat) (sym (ok_is _ s.0 s.2.1))
    ∙ owner_tells last k s.2.0.1.1.1 s.2.2.4.4.1 s.2.2.4.4.4

deleted_tells : (of_container : Bool) (o : Operation) (text : List ℕ) → (deleted_operation of_container).Spells o text
    → operation_kind o ≡ delete_kind of_container
deleted_tells of_container o text s =
    ap operation_kind (sym (ok_is (operations.Delete s.0) o s.1))
    ∙ ap (λ (d : Delete). delete_kind d.of_container) (sym (ok_is _ s.0 s.2.1))

set_tells : (is_reconfig : Bool) (o : Operation) (text : List ℕ) → (set_operation is_reconfig).Spells o text
    → operation_kind o ≡ set_data_kind is_reconfig
set_tells is_reconfig o text s =
    ap operation_kind (sym (ok_is (operations.SetData s.0) o s.1))
    ∙ ap (λ (d : SetData). set_data_kind d.is_reconfig) (sym (ok_is _ s.0 s.2.1))

-- An operation that is spelled after a type is of that type.
operation_tells : (surrogates : Bool) (last : Format ℤ) (k : TxnKind) (o : Operation) (text : List ℕ)
    → (operation_format surrogates last k).Spells o text
    → operation_kind o ≡ k
operation_tells surrogates last kinds.Create o text s = created_tells surrogates last kinds.Create o text s
operation_tells surrogates last kinds.Create2 o text s = created_tells surrogates last kinds.Create2 o text s
operation_tells surrogates last kinds.CreateContainer o text s = created_tells surrogates last kinds.CreateContainer o text s
operation_tells surrogates last kinds.CreateTtl o text s = created_tells surrogates last kinds.CreateTtl o text s
operation_tells surrogates last kinds.Delete o text s = deleted_tells false o text s
operation_tells surrogates last kinds.DeleteContainer o text s = deleted_tells true o text s
operation_tells surrogates last kinds.SetData o text s = set_tells false o text s
operation_tells surrogates last kinds.Reconfig o text s = set_tells true o text s
operation_tells surrogates last kinds.Check o text s = ap operation_kind (sym (ok_is (operations.Check s.0) o s.1))
operation_tells surrogates last kinds.Error o text s = ap operation_kind (sym (ok_is (operations.Error s.0) o s.1))
operation_tells surrogates last kinds.SetAcl o text s = absurd s
operation_tells surrogates last kinds.Multi o text s = absurd s
operation_tells surrogates last kinds.CreateSession o text s = absurd s
operation_tells surrogates last kinds.CloseSession o text s = absurd s

-- ---- parts

part_tells : (reads : Reads) (k : TxnKind) (o : Operation) (text : List ℕ) → (part_content reads k).Spells o text
    → operation_kind o ≡ k
part_tells reads k o text s =
    let held = buffered (is_lenient reads k) (operation_format reads.surrogates int k) o text s in
    operation_tells reads.surrogates int k o held.0 held.1

pub part_sound : (reads : Reads) → IsSound (part_format_in reads)
part_sound reads =
    tagged_sound (part_kind_in reads) operation_kind (part_content reads) (part_tells reads) (part_kind_sound reads)
    (λ k. in_buffer_sound (operation_format reads.surrogates int k) (operation_sound reads.surrogates k) (is_lenient reads k))

pub parts_sound : (reads : Reads) → IsSound (parts_format_in reads)
parts_sound reads = null_vector_sound (part_format_in reads) (part_sound reads)

-- ---- bodies

module _ (reads : Reads) where
  trailed : (are_read : Bool) (f : Format Body) → IsSound f → IsSoundAtEnd (with_trailer_if (are_read && true) f)
  trailed true f s = trailer_if_sound f s true
  trailed false f s = sound_at_end f s

  untrailed : (are_read : Bool) (f : Format Body) → IsSoundAtEnd f
      → IsSoundAtEnd (with_trailer_if (are_read && false) f)
  untrailed true f s = s
  untrailed false f s = s

  content_at_end : (k : TxnKind) → IsSoundAtEnd (body_content reads k)
  content_at_end kinds.Create =
      untrailed reads.trailer (body_fields reads kinds.Create)
      (case_at_end bodies.Single as_single (operation_format reads.surrogates (last_field reads Alone) kinds.Create) (λ o. refl)
      (case_at_end operations.Create as_create (create_with reads.surrogates (last_field reads Alone) kinds.Create) (λ c. refl)
      (create_at_end reads.surrogates (last_field reads Alone) (last_sound reads.trailer))))
  content_at_end kinds.Create2 =
      trailed reads.trailer (body_fields reads kinds.Create2)
      (case_sound bodies.Single as_single (operation_format reads.surrogates (last_field reads Alone) kinds.Create2) (λ o. refl)
      (operation_sound reads.surrogates kinds.Create2))
  content_at_end kinds.CreateContainer =
      trailed reads.trailer (body_fields reads kinds.CreateContainer)
      (case_sound bodies.Single as_single (operation_format reads.surrogates (last_field reads Alone) kinds.CreateContainer) (λ o. refl)
      (operation_sound reads.surrogates kinds.CreateContainer))
  content_at_end kinds.CreateTtl =
      trailed reads.trailer (body_fields reads kinds.CreateTtl)
      (case_sound bodies.Single as_single (operation_format reads.surrogates (last_field reads Alone) kinds.CreateTtl) (λ o. refl)
      (operation_sound reads.surrogates kinds.CreateTtl))
  content_at_end kinds.Delete =
      trailed reads.trailer (body_fields reads kinds.Delete)
      (case_sound bodies.Single as_single (operation_format reads.surrogates (last_field reads Alone) kinds.Delete) (λ o. refl)
      (operation_sound reads.surrogates kinds.Delete))
  content_at_end kinds.DeleteContainer =
      trailed reads.trailer (body_fields reads kinds.DeleteContainer)
      (case_sound bodies.Single as_single (operation_format reads.surrogates (last_field reads Alone) kinds.DeleteContainer) (λ o. refl)
      (operation_sound reads.surrogates kinds.DeleteContainer))
  content_at_end kinds.Reconfig =
      trailed reads.trailer (body_fields reads kinds.Reconfig)
      (case_sound bodies.Single as_single (operation_format reads.surrogates (last_field reads Alone) kinds.Reconfig) (λ o. refl)
      (operation_sound reads.surrogates kinds.Reconfig))
  content_at_end kinds.SetData =
      trailed reads.trailer (body_fields reads kinds.SetData)
      (case_sound bodies.Single as_single (operation_format reads.surrogates (last_field reads Alone) kinds.SetData) (λ o. refl)
      (operation_sound reads.surrogates kinds.SetData))
  content_at_end kinds.Check =
      trailed reads.trailer (body_fields reads kinds.Check)
      (case_sound bodies.Single as_single (operation_format reads.surrogates (last_field reads Alone) kinds.Check) (λ o. refl)
      (operation_sound reads.surrogates kinds.Check))
  content_at_end kinds.Error =
      trailed reads.trailer (body_fields reads kinds.Error)
      (case_sound bodies.Single as_single (operation_format reads.surrogates (last_field reads Alone) kinds.Error) (λ o. refl)
      (operation_sound reads.surrogates kinds.Error))
  content_at_end kinds.SetAcl =
      trailed reads.trailer (body_fields reads kinds.SetAcl)
      (case_sound bodies.SetAcl as_set_acl (set_acl_in reads.surrogates) (λ s. refl) (set_acl_sound reads.surrogates))
  content_at_end kinds.Multi =
      trailed reads.trailer (body_fields reads kinds.Multi)
      (case_sound bodies.Multi as_multi (parts_format_in reads) (λ ps. refl) (parts_sound reads))
  content_at_end kinds.CreateSession =
      trailed reads.trailer (body_fields reads kinds.CreateSession)
      (case_sound bodies.CreateSession as_session int (λ z. refl) int_sound)
  content_at_end kinds.CloseSession =
      untrailed reads.trailer (body_fields reads kinds.CloseSession)
      (case_at_end bodies.CloseSession as_close (closing_if reads.lists_paths) (λ listed. refl)
      (closing_if_sound reads.lists_paths))

  single_tells : (k : TxnKind) (o : Operation) (b : Body) (text : List ℕ) → bodies.Single o ≡ b
      → (operation_format reads.surrogates (last_field reads Alone) k).Spells o text → body_kind b ≡ k
  single_tells k o b text is s = ap body_kind (sym is) ∙ operation_tells reads.surrogates (last_field reads Alone) k o text s

  fields_tell : (k : TxnKind) (b : Body) (text : List ℕ) → (body_fields reads k).Spells b text → body_kind b ≡ k
  fields_tell kinds.Create b text s = single_tells kinds.Create s.0 b text (ok_is (bodies.Single s.0) b s.1) s.2
  fields_tell kinds.Create2 b text s = single_tells kinds.Create2 s.0 b text (ok_is (bodies.Single s.0) b s.1) s.2
  fields_tell kinds.CreateContainer b text s =
      single_tells kinds.CreateContainer s.0 b text (ok_is (bodies.Single s.0) b s.1) s.2
  fields_tell kinds.CreateTtl b text s = single_tells kinds.CreateTtl s.0 b text (ok_is (bodies.Single s.0) b s.1) s.2
  fields_tell kinds.DeleteContainer b text s =
      single_tells kinds.DeleteContainer s.0 b text (ok_is (bodies.Single s.0) b s.1) s.2
  fields_tell kinds.Reconfig b text s = single_tells kinds.Reconfig s.0 b text (ok_is (bodies.Single s.0) b s.1) s.2
  fields_tell kinds.Delete b text s = single_tells kinds.Delete s.0 b text (ok_is (bodies.Single s.0) b s.1) s.2
  fields_tell kinds.SetData b text s = single_tells kinds.SetData s.0 b text (ok_is (bodies.Single s.0) b s.1) s.2
  fields_tell kinds.Check b text s = single_tells kinds.Check s.0 b text (ok_is (bodies.Single s.0) b s.1) s.2
  fields_tell kinds.Error b text s = single_tells kinds.Error s.0 b text (ok_is (bodies.Single s.0) b s.1) s.2
  fields_tell kinds.SetAcl b text s = ap body_kind (sym (ok_is (bodies.SetAcl s.0) b s.1))
  fields_tell kinds.Multi b text s = ap body_kind (sym (ok_is (bodies.Multi s.0) b s.1))
  fields_tell kinds.CreateSession b text s = ap body_kind (sym (ok_is (bodies.CreateSession s.0) b s.1))
  fields_tell kinds.CloseSession b text s = ap body_kind (sym (ok_is (bodies.CloseSession s.0) b s.1))

  -- A body that is spelled after a type is of that type.
  content_tells : (k : TxnKind) (b : Body) (text : List ℕ) → (body_content reads k).Spells b text → body_kind b ≡ k
  content_tells k b text s =
      let fields = before_trailer (reads.trailer && not (has_own_end k)) (body_fields reads k) b text s in
      fields_tell k b fields.0 fields.1

  pub body_at_end : IsSoundAtEnd (body_in reads)
  body_at_end =
      tagged_at_end (kind_format_in reads Alone) body_kind (body_content reads) content_tells (kind_sound reads Alone)
      content_at_end

pub txn_at_end : (dialect : Dialect) → IsSoundAtEnd (txn_in dialect)
txn_at_end dialect = mapped_at_end _ _ _ (λ v. refl) (λ t. refl)
    (both_at_end (header_in dialect) (body_in (reads_of dialect)) (header_sound dialect)
    (body_at_end (reads_of dialect)))
