-- An image in parts: the number of its sessions, and the sessions; the number of its ACL lists, and the lists with
-- their keys; the nodes, each a path and its other fields, until the path "/"; and the signature. A phase has one
-- format. It holds the state of an incomplete section: how many items are left, or the path of a node.
use Rattle.std.specs.Prelude.{◌≡◌, ℕ, ℤ, Bool, true, false, List, [], ◌∷◌, Option, Some, None, Result, Ok, Err, if◌then◌else◌, ◌==◌, ◌-◌, codes}
use Rattle.std.specs.Str.{bytes_eq}
use Rattle.settings.specs.Dialects.{reads_of}
use Rattle.settings.specs.declared.dialect.Dialect.{Dialect}
use Rattle.values.specs.declared.fault.Fault.{Fault}
use Rattle.values.specs.declared.fault.Fault.TheVariants.{BadLength, BadPath, BadImage}
use Rattle.jute.specs.Format.{Format, ◌>>=◌, int, long, count_format, count_limit, buffer, text_format, vector_of, pair_of, judged_format, case_of}
use Rattle.jute.specs.Owned.{acl_in}
use Rattle.jute.specs.Records.{stat_persisted}
use Rattle.jute.specs.Stream.{PhasedStream}
use Rattle.jute.specs.declared.owned.Acl.{Acl}
use Rattle.jute.specs.declared.stat.StatPersisted.{StatPersisted}
use Rattle.paths_and_acls.specs.Paths.{is_root, checked_path}
use Rattle.snapshot_codec.specs.declared.part.ImagePart.{ImagePart}
use Rattle.snapshot_codec.specs.declared.part.ImagePart.TheVariants as part
use Rattle.snapshot_codec.specs.declared.part.PartPhase.{PartPhase}
use Rattle.snapshot_codec.specs.declared.part.PartPhase.TheVariants.{SessionCount, Sessions, AclCount, Acls, Root, Nodes, Body, Signature}

-- A value of an image: a part, or a value that only moves the phase on.
pub data Value : Type 0 where
  Count : (n : ℕ) → Value
  Path : (path : List ℕ) → Value
  -- The path "/" after the last node.
  Close : Value
  Part : (part : ImagePart) → Value

-- The part, if the value is one.
abbrev pub part_in : Value → Option ImagePart
part_in (Part p) = Some p
part_in v = None

abbrev pub is_end : Value → Bool
is_end (Part part.End) = true
is_end v = false

-- ---- the meaning of the fields

-- There is no null count.
abbrev pub count_value : Option ℕ → Result Value Fault
count_value None = Err BadLength
count_value (Some n) = Ok (Count n)

abbrev pub session_value : ℤ × ℤ → Value
session_value s = Part (part.Session (record { id = s.0; timeout = s.1 }))

abbrev pub acl_value : ℤ × Option (List Acl) → Value
acl_value a = Part (part.Acl (record { key = a.0; list = a.1 }))

abbrev pub path_value : List ℕ → Result Value Fault
path_value text = checked_path text >>= λ path. Ok (Path path)

abbrev pub root_path : List ℕ
root_path = codes "/"

-- The first path is empty, and the root's. A "/" would end the nodes before there is one. Any other path is refused
-- with its node, which has no parent.
abbrev pub root_text_value : List ℕ → Result Value Fault
root_text_value [] = Ok (Path root_path)
root_text_value (b ∷ bytes) = if is_root (b ∷ bytes) then Err BadImage else path_value (b ∷ bytes)

abbrev pub root_value : Option (List ℕ) → Result Value Fault
root_value None = Err BadPath
root_value (Some path) = root_text_value path

abbrev pub next_value : Option (List ℕ) → Result Value Fault
next_value None = Err BadPath
next_value (Some path) = if is_root path then Ok Close else path_value path

abbrev pub node_value : List ℕ → Option (List ℕ) × (ℤ × StatPersisted) → Value
node_value path n = Part (part.Node (record { path = path; bytes = n.0; acl = n.1.0; stat = n.1.1 }))

abbrev pub signature_text : List ℕ
signature_text = codes "BenWasHere"

abbrev pub signature_value : Option (List ℕ) → Result Value Fault
signature_value None = Err BadImage
signature_value (Some text) = if bytes_eq text signature_text then Ok (Part part.End) else Err BadImage

-- ---- the fields of a value

abbrev pub count_back : Value → Option (Option ℕ)
count_back (Count n) = Some (Some n)
count_back v = None

abbrev pub session_back : Value → Option (ℤ × ℤ)
session_back (Part (part.Session s)) = Some (s.id, s.timeout)
session_back v = None

abbrev pub acl_back : Value → Option (ℤ × Option (List Acl))
acl_back (Part (part.Acl a)) = Some (a.key, a.list)
acl_back v = None

abbrev pub root_back : Value → Option (Option (List ℕ))
root_back (Path path) = Some (Some (if is_root path then [] else path))
root_back v = None

abbrev pub next_back : Value → Option (Option (List ℕ))
next_back (Path path) = Some (Some path)
next_back Close = Some (Some root_path)
next_back v = None

abbrev pub node_back : Value → Option (Option (List ℕ) × (ℤ × StatPersisted))
node_back (Part (part.Node n)) = Some (n.bytes, (n.acl, n.stat))
node_back v = None

abbrev pub signature_back : Value → Option (Option (List ℕ))
signature_back (Part part.End) = Some (Some signature_text)
signature_back v = None

-- ---- the phases

abbrev pub counted_parts : Format Value
counted_parts = judged_format count_value count_back (count_format count_limit)

-- The fields of a node after its path: its data, the key of its list, and its stat.
abbrev pub node_body : Format (Option (List ℕ) × (ℤ × StatPersisted))
node_body = pair_of buffer (pair_of long stat_persisted)

-- An ACL list, in whose texts surrogates are read in later dialects.
abbrev pub list_format : Dialect → Format (Option (List Acl))
list_format dialect = vector_of (acl_in (reads_of dialect).surrogates)

abbrev pub part_format : Dialect → PartPhase → Format Value
part_format dialect SessionCount = counted_parts
part_format dialect (Sessions n) = case_of session_value session_back (pair_of long int)
part_format dialect AclCount = counted_parts
part_format dialect (Acls n) = case_of acl_value acl_back (pair_of long (list_format dialect))
part_format dialect Root = judged_format root_value root_back text_format
part_format dialect Nodes = judged_format next_value next_back text_format
part_format dialect (Body path) = case_of (node_value path) node_back node_body
part_format dialect Signature = judged_format signature_value signature_back text_format

abbrev pub sessions_from : ℕ → PartPhase
sessions_from n = if n == 0 then AclCount else Sessions n

abbrev pub acls_from : ℕ → PartPhase
acls_from n = if n == 0 then Root else Acls n

abbrev pub after_count : PartPhase → ℕ → PartPhase
after_count AclCount n = acls_from n
after_count phase n = sessions_from n

abbrev pub after_session : PartPhase → PartPhase
after_session (Sessions n) = sessions_from (n - 1)
after_session phase = AclCount

abbrev pub after_acl : PartPhase → PartPhase
after_acl (Acls n) = acls_from (n - 1)
after_acl phase = Root

abbrev pub part_after : PartPhase → Value → PartPhase
part_after phase (Count n) = after_count phase n
part_after phase (Path path) = Body path
part_after phase Close = Signature
part_after phase (Part (part.Session s)) = after_session phase
part_after phase (Part (part.Acl a)) = after_acl phase
part_after phase (Part (part.Node n)) = Nodes
part_after phase (Part part.End) = SessionCount

-- Images of leaders of a dialect in parts, one after another.
abbrev pub part_stream : Dialect → PhasedStream PartPhase Value
part_stream dialect = record { format = λ phase. part_format dialect phase; after = part_after }

-- A node was begun.
abbrev pub IsBody : PartPhase → Type 0
IsBody phase = (path : List ℕ) × (phase ≡ Body path)
