-- The row of a transaction: what is asked of it, beside what it does. Each question has a case for each operation and
-- each body, and is asked by the function of src/row.rt.
use Rattle.std.specs.Prelude.{ℕ, ℤ, List, [], ◌∷◌, ◌++◌, ◌+◌, Option, Some, None, Bool, true, false, is_some, unwrap_or, length, if◌then◌else◌}
use Rattle.std.specs.List.{list_any}
use Rattle.paths_and_acls.specs.Paths.{parent_of}
use Rattle.txn_codec.specs.declared.txn.Operation.{Operation}
use Rattle.txn_codec.specs.declared.txn.Operation.TheVariants as operations
use Rattle.txn_codec.specs.declared.txn.Body.{Body}
use Rattle.txn_codec.specs.declared.txn.Body.TheVariants as bodies
use Rattle.txn_codec.specs.declared.row.SessionChange.{SessionChange}
use Rattle.txn_codec.specs.declared.row.SessionChange.TheVariants.{Nothing, Begins, Ends}

-- ---- whether it failed

-- The error of a request, or of a part of a multi, that failed.
abbrev pub error_of : Operation → Option ℤ
error_of (operations.Error error) = Some error
error_of (operations.Create c) = None
error_of (operations.Delete d) = None
error_of (operations.SetData s) = None
error_of (operations.Check c) = None

abbrev pub has_error : List Operation → Bool
has_error parts = list_any (λ (o : Operation). is_some (error_of o)) parts

-- ---- the paths that it touches

-- What creates or deletes a node changes its parent too.
abbrev pub footprint_of_operation : Operation → List (List ℕ)
footprint_of_operation (operations.Create c) = c.path ∷ parent_of c.path ∷ []
footprint_of_operation (operations.Delete d) = d.path ∷ parent_of d.path ∷ []
footprint_of_operation (operations.SetData s) = s.path ∷ []
footprint_of_operation (operations.Check c) = []
footprint_of_operation (operations.Error error) = []

abbrev pub footprint_of_parts : List Operation → List (List ℕ)
footprint_of_parts [] = []
footprint_of_parts (o ∷ os) = footprint_of_operation o ++ footprint_of_parts os

-- A multi with an error part touches nothing. The paths of a closeSession aren't here: they depend on the state.
abbrev pub footprint_of_body : Body → List (List ℕ)
footprint_of_body (bodies.Single operation) = footprint_of_operation operation
footprint_of_body (bodies.SetAcl s) = s.path ∷ []
footprint_of_body (bodies.Multi parts) = if has_error parts then [] else footprint_of_parts parts
footprint_of_body (bodies.CreateSession timeout) = []
footprint_of_body (bodies.CloseSession listed) = []

-- ---- the data that it brings, in bytes

abbrev pub data_len_of_operation : Operation → ℕ
data_len_of_operation (operations.Create c) = length (unwrap_or c.bytes [])
data_len_of_operation (operations.SetData s) = length (unwrap_or s.bytes [])
data_len_of_operation (operations.Delete d) = 0
data_len_of_operation (operations.Check c) = 0
data_len_of_operation (operations.Error error) = 0

abbrev pub data_len_of_parts : List Operation → ℕ
data_len_of_parts [] = 0
data_len_of_parts (o ∷ os) = data_len_of_operation o + data_len_of_parts os

abbrev pub data_len_of_body : Body → ℕ
data_len_of_body (bodies.Single operation) = data_len_of_operation operation
data_len_of_body (bodies.SetAcl s) = 0
data_len_of_body (bodies.Multi parts) = data_len_of_parts parts
data_len_of_body (bodies.CreateSession timeout) = 0
data_len_of_body (bodies.CloseSession listed) = 0

-- ---- the path that its reply shows, or whose node it shows

abbrev pub shown_path_of_operation : Operation → Option (List ℕ)
shown_path_of_operation (operations.Create c) = Some c.path
shown_path_of_operation (operations.SetData s) = Some s.path
shown_path_of_operation (operations.Delete d) = None
shown_path_of_operation (operations.Check c) = None
shown_path_of_operation (operations.Error error) = None

abbrev pub shown_path_of_body : Body → Option (List ℕ)
shown_path_of_body (bodies.Single operation) = shown_path_of_operation operation
shown_path_of_body (bodies.SetAcl s) = Some s.path
shown_path_of_body (bodies.Multi parts) = None
shown_path_of_body (bodies.CreateSession timeout) = None
shown_path_of_body (bodies.CloseSession listed) = None

-- ---- what it does to sessions

-- What becomes of the session of its header.
abbrev pub session_change : Body → SessionChange
session_change (bodies.CreateSession timeout) = Begins timeout
session_change (bodies.CloseSession listed) = Ends
session_change (bodies.Single operation) = Nothing
session_change (bodies.SetAcl s) = Nothing
session_change (bodies.Multi parts) = Nothing

abbrev pub is_ending : SessionChange → Bool
is_ending Ends = true
is_ending (Begins timeout) = false
is_ending Nothing = false

-- It also deletes the session's ephemeral nodes, so which paths it touches depends on the state.
abbrev pub ends_session : Body → Bool
ends_session b = is_ending (session_change b)
