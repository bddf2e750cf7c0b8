-- The parts of a multiRead, and the headers of parts.
use Rattle.std.specs.Prelude.{ℕ, zero, suc, ℤ, pos, List, [], ◌∷◌, length, Option, Some, None, Result, Ok, Err, if◌then◌else◌}
use Rattle.std.specs.Ordering.{int_eq}
use Rattle.values.specs.declared.fault.Fault.{Fault}
use Rattle.values.specs.declared.fault.Fault.TheVariants.{Short, BadTxnType}
use Rattle.jute.specs.Format.{Format, int, boolean, pair_of, mapped_format, ◌>>=◌}
use Rattle.client_records.specs.declared.kind.ReadKind.{ReadKind}
use Rattle.client_records.specs.declared.kind.ReadKind.TheVariants.{GetData, GetChildren}
use Rattle.client_records.specs.declared.multi.MultiHeader.{MultiHeader}
use Rattle.client_records.specs.declared.multi.ReadPart.{ReadPart}
use Rattle.client_records.specs.Requests.{path_and_watch}

unfoldable pub multi_header : Format MultiHeader
multi_header =
    mapped_format
    (λ v. record { kind = v.0; done = v.1.0; err = v.1.1 })
    (λ r. (r.kind, (r.done, r.err)))
    (pair_of int (pair_of boolean int))

-- What a part of this type reads.
abbrev pub read_part_kind : ℤ → Option ReadKind
read_part_kind code =
    if int_eq code (pos 4) then Some GetData else if int_eq code (pos 8) then Some GetChildren else None

-- The body of a part is that of the read; its watch isn't left.
abbrev pub read_part_of : Option ReadKind → List ℕ → Result (Option ReadPart × List ℕ) Fault
read_part_of None bytes = Err BadTxnType
read_part_of (Some kind) bytes =
    path_and_watch.read bytes >>= λ asked. Ok (Some (record { kind = kind; path = asked.0.path }), asked.1)

-- A header says whether it is the end, or else the type of the part after it.
unfoldable pub part_or_end : List ℕ → Result (Option ReadPart × List ℕ) Fault
part_or_end bytes =
    multi_header.read bytes >>= λ header.
    if header.0.done then Ok (None, header.1) else read_part_of (read_part_kind header.0.kind) header.1

-- The part, and the parts after it; none at the end.
abbrev pub and_parts : (List ℕ → Result (List ReadPart × List ℕ) Fault) → Option ReadPart → List ℕ
    → Result (List ReadPart × List ℕ) Fault
and_parts others None bytes = Ok ([], bytes)
and_parts others (Some part) bytes = others bytes >>= λ parts. Ok (part ∷ parts.0, parts.1)

-- At most so many parts, and the end.
unfoldable pub parts_within : ℕ → List ℕ → Result (List ReadPart × List ℕ) Fault
parts_within zero bytes = Err Short
parts_within (suc n) bytes = part_or_end bytes >>= λ found. and_parts (parts_within n) found.0 found.1

-- The parts of a multiRead. Each has more than one byte.
abbrev pub multi_read : List ℕ → Result (List ReadPart × List ℕ) Fault
multi_read bytes = parts_within (length bytes) bytes
