-- What is forwarded is of the type of its write.
use Rattle.std.proofs.Common.{◌≡◌, ◌≢◌, ℕ, List, [], ◌∷◌, Option, Some, None, Bool, true, false, cond, ℤ, pos, refl, ap, ◌∙◌, arith}
use Rattle.std.specs.List.{find}
use Rattle.std.specs.Ordering.{int_eq}
use Rattle.std.proofs.lemmas.Bool.Decides.{Decides-int_eq}
use Rattle.settings.specs.Dialects.{reads_of}
use Rattle.settings.specs.declared.dialect.Dialect.{Dialect}
use Rattle.client_records.specs.declared.request.PathAlone.{PathAlone}
use Rattle.client_records.specs.declared.kind.RequestKind.{RequestKind}
use Rattle.client_records.specs.declared.kind.RequestKind.TheVariants as kinds
use Rattle.client_records.specs.Requests.{path_alone}
use Rattle.client_records.specs.Kinds.{code_of, request_kinds_in, kind_of, request_kind_in}
use Rattle.forwarding.specs.declared.request.WriteKind.{WriteKind}
use Rattle.forwarding.specs.declared.request.WriteKind.TheVariants as writes
use Rattle.forwarding.specs.Queue.{write_number}
use Rattle.read_processor.specs.Look.{is_request_path}
use Rattle.client_frames.specs.declared.call.CallBody.TheVariants.{Forward, Sync, Local}
use Rattle.client_frames.specs.declared.call.LocalCall.TheVariants.{InvalidPath, Refused}
use Rattle.client_frames.specs.Call.{value_if_read, sync_of, sync_of_path, multi_call, call_body}
use Rattle.client_frames.specs.Laws.{ForwardedByType}

code_step : (b : Bool) (z : ℤ) (j k : RequestKind) (rest : Option RequestKind) → (b ≡ true → z ≡ code_of j)
    → (rest ≡ Some k → z ≡ code_of k) → cond b (Some j) rest ≡ Some k → z ≡ code_of k
code_step true z j k rest is more e =
    let same : j ≡ k = cc in
    is refl ∙ ap code_of same
code_step false z j k rest is more e = more e

-- The type that is found has the code.
code_found : (z : ℤ) (ks : List RequestKind) (k : RequestKind) → find (λ j. int_eq z (code_of j)) ks ≡ Some k
    → z ≡ code_of k
code_found z [] k e = absurd cc
code_found z (j ∷ ks) k e =
    code_step (int_eq z (code_of j)) z j k (find (λ i. int_eq z (code_of i)) ks) (Decides-int_eq z (code_of j)).0
    (code_found z ks k) e

code_of_found : (dialect : Dialect) (z : ℤ) (k : RequestKind) → request_kind_in dialect z ≡ Some k → z ≡ code_of k
unfolding kind_of
code_of_found dialect z k e = code_found z (request_kinds_in (reads_of dialect)) k e

-- A sync isn't forwarded as a write.
no_sync : (found : Option PathAlone) (write : WriteKind) → sync_of found ≡ Forward write → ⊥
no_sync None write e = cc
no_sync (Some r) write e = of_path r.path e
  where
    tested : (b : Bool) (path : List ℕ) → cond b (Sync path) (Local InvalidPath) ≡ Forward write → ⊥
    tested true path e = cc
    tested false path e = cc

    of_path : (path : Option (List ℕ)) → sync_of_path path ≡ Forward write → ⊥
    of_path None e = cc
    of_path (Some path) e = tested (is_request_path path) path e

forwarded_same : {w write : WriteKind} → Forward w ≡ Forward write → w ≡ write
forwarded_same e = cc

same_number : {z : ℤ} {w write : WriteKind} → z ≡ write_number w → Forward w ≡ Forward write → z ≡ write_number write
same_number is e = is ∙ ap write_number (forwarded_same e)

-- A multi that is forwarded is a multi.
number_of_multi : (later : Bool) (z : ℤ) (write : WriteKind) → z ≡ pos 14
    → cond later (Forward writes.Multi) (Local Refused) ≡ Forward write → z ≡ write_number write
number_of_multi true z write is e = same_number is e
number_of_multi false z write is e = absurd cc

number_of_forwarded : (dialect : Dialect) (found : Option RequestKind) (z : ℤ) (bytes : List ℕ) (write : WriteKind)
    → ((k : RequestKind) → found ≡ Some k → z ≡ code_of k) → call_body dialect found bytes ≡ Forward write
    → z ≡ write_number write
number_of_forwarded dialect None z bytes write is e = absurd cc
number_of_forwarded dialect (Some kinds.Create) z bytes write is e = same_number (is _ refl) e
number_of_forwarded dialect (Some kinds.Delete) z bytes write is e = same_number (is _ refl) e
number_of_forwarded dialect (Some (kinds.Read kind)) z bytes write is e = absurd cc
number_of_forwarded dialect (Some kinds.SetData) z bytes write is e = same_number (is _ refl) e
number_of_forwarded dialect (Some kinds.SetAcl) z bytes write is e = same_number (is _ refl) e
number_of_forwarded dialect (Some kinds.Sync) z bytes write is e = absurd (no_sync (value_if_read (path_alone.read bytes)) write e)
number_of_forwarded dialect (Some kinds.Ping) z bytes write is e = absurd cc
number_of_forwarded dialect (Some kinds.Check) z bytes write is e = absurd cc
number_of_forwarded dialect (Some kinds.Multi) z bytes write is e = number_of_multi (reads_of dialect).later_requests z write (is _ refl) e
number_of_forwarded dialect (Some kinds.Auth) z bytes write is e = absurd cc
number_of_forwarded dialect (Some kinds.SetWatches) z bytes write is e = absurd cc
number_of_forwarded dialect (Some kinds.AddWatch) z bytes write is e = absurd cc
number_of_forwarded dialect (Some kinds.SetWatches2) z bytes write is e = absurd cc
number_of_forwarded dialect (Some kinds.CheckWatches) z bytes write is e = absurd cc
number_of_forwarded dialect (Some kinds.RemoveWatches) z bytes write is e = absurd cc
number_of_forwarded dialect (Some kinds.MultiRead) z bytes write is e = absurd cc
number_of_forwarded dialect (Some kinds.GetEphemerals) z bytes write is e = absurd cc
number_of_forwarded dialect (Some kinds.GetAllChildrenNumber) z bytes write is e = absurd cc
number_of_forwarded dialect (Some kinds.WhoAmI) z bytes write is e = absurd cc
number_of_forwarded dialect (Some kinds.Sasl) z bytes write is e = absurd cc
number_of_forwarded dialect (Some kinds.CloseSession) z bytes write is e = same_number (is _ refl) e
number_of_forwarded dialect (Some kinds.Create2) z bytes write is e = same_number (is _ refl) e
number_of_forwarded dialect (Some kinds.Reconfig) z bytes write is e = same_number (is _ refl) e
number_of_forwarded dialect (Some kinds.CreateContainer) z bytes write is e = same_number (is _ refl) e
number_of_forwarded dialect (Some kinds.DeleteContainer) z bytes write is e = same_number (is _ refl) e
number_of_forwarded dialect (Some kinds.CreateTtl) z bytes write is e = same_number (is _ refl) e

no_check : (write : WriteKind) → write_number write ≢ pos 13
no_check writes.Create e = grind arith
no_check writes.Delete e = grind arith
no_check writes.SetData e = grind arith
no_check writes.SetAcl e = grind arith
no_check writes.Create2 e = grind arith
no_check writes.Reconfig e = grind arith
no_check writes.CreateContainer e = grind arith
no_check writes.DeleteContainer e = grind arith
no_check writes.CreateTtl e = grind arith
no_check writes.Multi e = grind arith
no_check writes.CloseSession e = cc

pub forwarded_by_type : ForwardedByType
forwarded_by_type = record {
  same_type = λ dialect frame rest header call write whole read forwards.
      let found = rw whole at read in
      let body : call_body dialect (request_kind_in dialect header.kind) rest ≡ Forward write = cc (found, forwards) in
      number_of_forwarded dialect (request_kind_in dialect header.kind) header.kind rest write (code_of_found dialect header.kind) body;
  no_check = no_check;
}
