-- A decoded transaction is within the limits, and each node that it creates or deletes has a parent.
use Rattle.std.proofs.Common.{◌≡◌, ℕ, Bool, true, false, ◌&&◌, List, [], ◌∷◌, Option, Some, None, Result, Ok, Err, subst}
use Rattle.std.specs.Prelude.{ℤ, IfOk, IsTrue, not}
use Rattle.std.specs.List.{AllByRecursion}
use Rattle.std.proofs.lemmas.List.Elements.{All-from_recursion}
use Rattle.values.specs.declared.fault.ReadError.{ReadError}
use Rattle.settings.specs.Dialects.{reads_of}
use Rattle.settings.specs.declared.dialect.Dialect.{Dialect}
use Rattle.settings.specs.declared.dialect.Reads.{Reads}
use Rattle.jute.specs.Format.{Format, int, SpellsEach, or_empty, vector_of}
use Rattle.jute.proofs.Public.{ok_is}
use Rattle.txn_codec.specs.declared.kind.TxnKind.{TxnKind}
use Rattle.txn_codec.specs.declared.kind.TxnKind.TheVariants as kinds
use Rattle.txn_codec.specs.declared.place.Place.TheVariants.{Alone}
use Rattle.txn_codec.specs.declared.txn.Create.{Create}
use Rattle.txn_codec.specs.declared.txn.Delete.{Delete}
use Rattle.txn_codec.specs.declared.txn.Operation.{Operation}
use Rattle.txn_codec.specs.declared.txn.Operation.TheVariants as operations
use Rattle.txn_codec.specs.declared.txn.Body.{Body}
use Rattle.txn_codec.specs.declared.txn.Body.TheVariants as bodies
use Rattle.txn_codec.specs.declared.txn.Txn.{Txn}
use Rattle.txn_codec.specs.Kinds.{operation_kind, body_kind}
use Rattle.txn_codec.specs.Parents.{HasParent, HaveParents}
use Rattle.paths_and_acls.specs.Paths.{is_child_path}
use Rattle.paths_and_acls.specs.Fields.{child_path}
use Rattle.txn_codec.specs.Spelling.{last_field, created_operation, deleted_operation, operation_format, is_lenient, part_format_in, has_own_end, body_fields, body_in, txn_in}
use Rattle.txn_codec.proofs.Bodies.{txn_at_end}
use Rattle.txn_codec.proofs.Closing.{closing_children}
use Rattle.txn_codec.proofs.Endings.{before_trailer, buffered}
use Rattle.txn_codec.proofs.Spelled.{tested_is}

child_spelled : (p text : List ℕ) → child_path.Spells p text → IsTrue (is_child_path p)
child_spelled p text s = (tested_is is_child_path s.0 p s.1).0

created_parent : (surrogates : Bool) (last : Format ℤ) (k : TxnKind) (o : Operation) (text : List ℕ)
    → (created_operation surrogates last k).Spells o text → HasParent o
created_parent surrogates last k o text s =
    subst HasParent (ok_is (operations.Create s.0) o s.1)
    (subst (λ (c : Create). IsTrue (is_child_path c.path)) (ok_is _ s.0 s.2.1)
    (child_spelled s.2.0.0 s.2.2.0 s.2.2.3))

deleted_parent : (of_container : Bool) (o : Operation) (text : List ℕ)
    → (deleted_operation of_container).Spells o text → HasParent o
deleted_parent of_container o text s =
    subst HasParent (ok_is (operations.Delete s.0) o s.1)
    (subst (λ (d : Delete). IsTrue (is_child_path d.path)) (ok_is _ s.0 s.2.1) (child_spelled s.2.0 text s.2.2))

operation_parent : (surrogates : Bool) (last : Format ℤ) (k : TxnKind) (o : Operation) (text : List ℕ)
    → (operation_format surrogates last k).Spells o text → HasParent o
operation_parent surrogates last kinds.Create o text s = created_parent surrogates last kinds.Create o text s
operation_parent surrogates last kinds.Create2 o text s = created_parent surrogates last kinds.Create2 o text s
operation_parent surrogates last kinds.CreateContainer o text s = created_parent surrogates last kinds.CreateContainer o text s
operation_parent surrogates last kinds.CreateTtl o text s = created_parent surrogates last kinds.CreateTtl o text s
operation_parent surrogates last kinds.Delete o text s = deleted_parent false o text s
operation_parent surrogates last kinds.DeleteContainer o text s = deleted_parent true o text s
operation_parent surrogates last kinds.SetData o text s = subst HasParent (ok_is (operations.SetData s.0) o s.1) tt
operation_parent surrogates last kinds.Reconfig o text s = subst HasParent (ok_is (operations.SetData s.0) o s.1) tt
operation_parent surrogates last kinds.Check o text s = subst HasParent (ok_is (operations.Check s.0) o s.1) tt
operation_parent surrogates last kinds.Error o text s = subst HasParent (ok_is (operations.Error s.0) o s.1) tt
operation_parent surrogates last kinds.SetAcl o text s = absurd s
operation_parent surrogates last kinds.Multi o text s = absurd s
operation_parent surrogates last kinds.CreateSession o text s = absurd s
operation_parent surrogates last kinds.CloseSession o text s = absurd s

module _ (reads : Reads) where
  part_parent : (o : Operation) (text : List ℕ) → (part_format_in reads).Spells o text → HasParent o
  part_parent o text s =
      let held = buffered (is_lenient reads (operation_kind o)) (operation_format reads.surrogates int (operation_kind o)) o s.1 s.4 in
      operation_parent reads.surrogates int (operation_kind o) o held.0 held.1

  each_parent : (ps : List Operation) (text : List ℕ) → SpellsEach (part_format_in reads).Spells ps text
      → AllByRecursion HasParent ps
  each_parent [] text s = tt
  each_parent (p ∷ ps) text s = (part_parent p s.0 s.3, each_parent ps s.1 s.4)

  parts_parents : (ps : Option (List Operation)) (text : List ℕ)
      → (vector_of (part_format_in reads)).Spells ps text → AllByRecursion HasParent (or_empty ps)
  parts_parents None text s = tt
  parts_parents (Some ps) text s = each_parent ps s.1 s.3

  single_parent : (k : TxnKind) (o : Operation) (b : Body) (text : List ℕ) → bodies.Single o ≡ b
      → (operation_format reads.surrogates (last_field reads Alone) k).Spells o text → HaveParents b
  single_parent k o b text is s =
      subst HaveParents is (operation_parent reads.surrogates (last_field reads Alone) k o text s)

  fields_parents : (k : TxnKind) (b : Body) (text : List ℕ) → (body_fields reads k).Spells b text → HaveParents b
  fields_parents kinds.Create b text s = single_parent kinds.Create s.0 b text (ok_is (bodies.Single s.0) b s.1) s.2
  fields_parents kinds.Create2 b text s = single_parent kinds.Create2 s.0 b text (ok_is (bodies.Single s.0) b s.1) s.2
  fields_parents kinds.CreateContainer b text s =
      single_parent kinds.CreateContainer s.0 b text (ok_is (bodies.Single s.0) b s.1) s.2
  fields_parents kinds.CreateTtl b text s =
      single_parent kinds.CreateTtl s.0 b text (ok_is (bodies.Single s.0) b s.1) s.2
  fields_parents kinds.DeleteContainer b text s =
      single_parent kinds.DeleteContainer s.0 b text (ok_is (bodies.Single s.0) b s.1) s.2
  fields_parents kinds.Reconfig b text s =
      single_parent kinds.Reconfig s.0 b text (ok_is (bodies.Single s.0) b s.1) s.2
  fields_parents kinds.Delete b text s = single_parent kinds.Delete s.0 b text (ok_is (bodies.Single s.0) b s.1) s.2
  fields_parents kinds.SetData b text s = single_parent kinds.SetData s.0 b text (ok_is (bodies.Single s.0) b s.1) s.2
  fields_parents kinds.Check b text s = single_parent kinds.Check s.0 b text (ok_is (bodies.Single s.0) b s.1) s.2
  fields_parents kinds.Error b text s = single_parent kinds.Error s.0 b text (ok_is (bodies.Single s.0) b s.1) s.2
  fields_parents kinds.SetAcl b text s = subst HaveParents (ok_is (bodies.SetAcl s.0) b s.1) tt
  fields_parents kinds.Multi b text s =
      subst HaveParents (ok_is (bodies.Multi s.0) b s.1) (All-from_recursion HasParent s.0
      (subst (AllByRecursion HasParent) (ok_is (or_empty s.2.0) s.0 s.2.1) (parts_parents s.2.0 text s.2.2)))
  fields_parents kinds.CreateSession b text s = subst HaveParents (ok_is (bodies.CreateSession s.0) b s.1) tt
  fields_parents kinds.CloseSession b text s =
      subst HaveParents (ok_is (bodies.CloseSession s.0) b s.1) (All-from_recursion (λ path. IsTrue (is_child_path path))
      s.0 (closing_children reads.lists_paths s.0 text s.2))

  body_parents : (b : Body) (text : List ℕ) → (body_in reads).Spells b text → HaveParents b
  body_parents b text s =
      let fields = before_trailer (reads.trailer && not (has_own_end (body_kind b))) (body_fields reads (body_kind b)) b
      s.1 s.4 in
      fields_parents (body_kind b) b fields.0 fields.1

-- ---- the tests of the code

module _ (dialect : Dialect) where
  pub decoded_fits : (bytes : List ℕ) (r : Result Txn ReadError) → IfOk r (λ t. (txn_in dialect).Spells t bytes)
      → IfOk r (λ t. (txn_in dialect).Fits t)
  decoded_fits bytes (Ok t) s = (txn_at_end dialect).limited t bytes s
  decoded_fits bytes (Err e) s = tt

  pub decoded_writable : (r : Result Txn ReadError) → IfOk r (λ t. (txn_in dialect).Fits t)
      → IfOk r (λ t. (txn_in dialect).Writable t)
  decoded_writable (Ok t) h = (txn_at_end dialect).writable t h
  decoded_writable (Err e) h = tt

  pub decoded_parents : (bytes : List ℕ) (r : Result Txn ReadError) → IfOk r (λ t. (txn_in dialect).Spells t bytes)
      → IfOk r (λ t. HaveParents t.body)
  decoded_parents bytes (Ok t) s = body_parents (reads_of dialect) t.body s.1 s.4
  decoded_parents bytes (Err e) s = tt
