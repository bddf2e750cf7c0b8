-- The worked calls, by evaluation.
use Rattle.std.proofs.Common.{◌≡◌, [], ◌∷◌, refl}
use Rattle.std.specs.Prelude.{codes}
use Rattle.std.specs.Str.{IsUtf8}
use lib.Utf8.{encode}
use Rattle.std.proofs.lemmas.Str.{is_utf8-from_IsUtf8}
use Rattle.settings.specs.declared.dialect.Dialect.{Dialect}
use Rattle.jute.specs.Format.{judged_at, buffer_at}
use Rattle.jute.specs.Records.{request_header}
use Rattle.client_records.specs.Kinds.{kind_of}
use Rattle.client_records.specs.Requests.{path_alone, auth_packet}
use Rattle.client_frames.specs.declared.call.LocalCall.TheVariants.{InvalidPath}
use Rattle.client_frames.specs.declared.call.CallBody.TheVariants.{Sync, Local}
use Rattle.client_frames.specs.Call.{call_in}
use Rattle.client_frames.specs.Rows.{frame_of, frame_call, WorkedCalls}

root_is_text : IsUtf8 (codes "/")
unfolding encode
root_is_text = (codes "/", (refl, refl))

empty_is_text : IsUtf8 []
unfolding encode
empty_is_text = ([], (refl, refl))

sync_of_root_read : (d : Dialect) → call_in d (frame_of 9 (0 ∷ 0 ∷ 0 ∷ 1 ∷ 47 ∷ [])) ≡ frame_call (Sync (codes "/"))
unfolding request_header kind_of path_alone judged_at buffer_at
sync_of_root_read d = rw (is_utf8-from_IsUtf8 (codes "/") root_is_text)

sync_of_empty_read : (d : Dialect) → call_in d (frame_of 9 (0 ∷ 0 ∷ 0 ∷ 0 ∷ [])) ≡ frame_call (Local InvalidPath)
unfolding request_header kind_of path_alone judged_at buffer_at
sync_of_empty_read d = rw (is_utf8-from_IsUtf8 [] empty_is_text)

pub worked_calls : WorkedCalls
unfolding request_header kind_of path_alone auth_packet judged_at buffer_at
worked_calls = record {
  create = λ d. refl;
  sync_of_root = sync_of_root_read;
  sync_of_empty = sync_of_empty_read;
  sync_of_null = λ d. refl;
  check = λ d. refl;
  multi = refl;
  multi_before = refl;
  who_am_i = refl;
  unreadable_auth = λ d. refl;
  close_session = λ d. refl;
  create2 = refl;
  create2_before = refl;
}
