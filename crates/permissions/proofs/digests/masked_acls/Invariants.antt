use Rattle.std.proofs.Common.{◌≡◌, ◌++◌, drop, map}
use Rattle.permissions.specs.Digests.{masked_acl}
use Rattle.permissions.proofs.digests.masked_acls.Given as goal

abbrev pub invariant-loop-acl : goal.invariant-loop-acl
invariant-loop-acl l = l.masked.items ++ map masked_acl (drop l.acl-index l.acls) ≡ map masked_acl l.acls
