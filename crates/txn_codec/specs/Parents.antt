-- The nodes that a transaction may create and delete: all but "/".
use Rattle.std.specs.Prelude.{IsTrue, All}
use Rattle.txn_codec.specs.declared.txn.Operation.{Operation}
use Rattle.txn_codec.specs.declared.txn.Operation.TheVariants as operations
use Rattle.txn_codec.specs.declared.txn.Body.{Body}
use Rattle.txn_codec.specs.declared.txn.Body.TheVariants as bodies
use Rattle.paths_and_acls.specs.Paths.{is_child_path}

-- The node that is created or deleted has a parent.
abbrev pub HasParent : Operation → Type 0
HasParent (operations.Create c) = IsTrue (is_child_path c.path)
HasParent (operations.Delete d) = IsTrue (is_child_path d.path)
HasParent (operations.SetData s) = Unit {0}
HasParent (operations.Check c) = Unit {0}
HasParent (operations.Error e) = Unit {0}

-- Each node that is created or deleted has a parent.
abbrev pub HaveParents : Body → Type 0
HaveParents (bodies.Single o) = HasParent o
HaveParents (bodies.SetAcl s) = Unit {0}
HaveParents (bodies.Multi ps) = All HasParent ps
HaveParents (bodies.CreateSession timeout) = Unit {0}
HaveParents (bodies.CloseSession listed) = All (λ path. IsTrue (is_child_path path)) listed
