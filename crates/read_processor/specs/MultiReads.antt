-- Several reads of one state in one answer.
use Rattle.std.specs.Prelude.{ℕ, ℤ, negsuc, List, [], ◌∷◌, ◌++◌, Option, Some, true, false, if◌then◌else◌}
use Rattle.std.specs.Ordering.{int_eq}
use Rattle.std.specs.Option.{option_map, option_and_then}
use Rattle.jute.specs.Format.{int}
use Rattle.jute.specs.declared.owned.Id.{Id}
use Rattle.settings.specs.declared.dialect.Dialect.TheVariants.{Zk38}
use Rattle.client_records.specs.declared.codes.TheConstants.{OK}
use Rattle.client_records.specs.declared.kind.ReadKind.{ReadKind}
use Rattle.client_records.specs.declared.multi.MultiHeader.{MultiHeader}
use Rattle.client_records.specs.declared.multi.ReadPart.{ReadPart}
use Rattle.client_records.specs.Kinds.{code_of_read}
use Rattle.client_records.specs.Multi.{multi_header}
use Rattle.data_tree.specs.State.{State}
use Rattle.read_processor.specs.Limits.{fitting_body}
use Rattle.read_processor.specs.Look.{look_at_state}
use Rattle.read_processor.specs.declared.shown.Look.{Look}

-- Only later clients ask for several reads at once, which leave no watch.
abbrev pub look_at_part : State → List Id → ReadPart → Look
look_at_part s ids part =
    look_at_state s ids (record { kind = part.kind; path = part.path; watch = false; rules = Zk38 })

abbrev pub header_of_part : ReadKind → MultiHeader
header_of_part kind = record { kind = code_of_read kind; done = false; err = OK }

abbrev pub header_of_error : ℤ → MultiHeader
header_of_error error = record { kind = negsuc 0; done = false; err = error }

abbrev pub end_of_parts : MultiHeader
end_of_parts = record { kind = negsuc 0; done = true; err = negsuc 0 }

-- A part shows its type and what the read shows, or the error of the read, twice. It shows nothing if the read alone is
-- too long for a frame.
abbrev pub part_shown : ReadKind → Look → Option (List ℕ)
part_shown kind seen =
    if int_eq seen.error OK then option_map (λ body. multi_header.written (header_of_part kind) ++ body) seen.body
    else Some (multi_header.written (header_of_error seen.error) ++ int.written seen.error)

abbrev pub and_then_shown : Option (List ℕ) → Option (List ℕ) → Option (List ℕ)
and_then_shown first others = option_and_then (λ x. option_map (λ y. x ++ y) others) first

-- The parts, each in its turn, and the end.
unfoldable pub parts_shown : State → List Id → List ReadPart → Option (List ℕ)
parts_shown s ids [] = Some (multi_header.written end_of_parts)
parts_shown s ids (part ∷ parts) = and_then_shown (part_shown part.kind (look_at_part s ids part)) (parts_shown s ids parts)

-- The answer to a multiRead, an error of a part being no error of the whole.
abbrev pub look_at_parts : State → List Id → List ReadPart → Look
look_at_parts s ids parts = record { error = OK; body = option_and_then fitting_body (parts_shown s ids parts) }
