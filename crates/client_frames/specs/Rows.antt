-- Frames, and the calls in them, that were worked out by hand.
use Rattle.std.specs.Prelude.{◌≡◌, ℕ, pos, List, [], ◌∷◌, None, Result, Ok, codes}
use Rattle.values.specs.declared.fault.Fault.{Fault}
use Rattle.settings.specs.declared.dialect.Dialect.{Dialect}
use Rattle.settings.specs.declared.dialect.Dialect.TheVariants.{Zk34, Zk38}
use Rattle.forwarding.specs.declared.request.WriteKind.TheVariants as writes
use Rattle.client_frames.specs.declared.call.LocalCall.TheVariants.{InvalidPath, WhoAmI, Refused, Unknown}
use Rattle.client_frames.specs.declared.call.Call.{Call}
use Rattle.client_frames.specs.declared.call.CallBody.{CallBody}
use Rattle.client_frames.specs.declared.call.CallBody.TheVariants.{Forward, Sync, Auth, Local}
use Rattle.client_frames.specs.Call.{call_in}

-- A frame of xid 7 with a request of this type.
abbrev pub frame_of : ℕ → List ℕ → List ℕ
frame_of kind body = 0 ∷ 0 ∷ 0 ∷ 7 ∷ 0 ∷ 0 ∷ 0 ∷ kind ∷ body

-- What is read from such a frame: a call with this body.
abbrev pub frame_call : CallBody → Result Call Fault
frame_call body = Ok (record { xid = pos 7; body = body })

pub record WorkedCalls : Type 0 where
  -- The one byte isn't a create's body.
  pub create : (d : Dialect) → call_in d (frame_of 1 (255 ∷ [])) ≡ frame_call (Forward writes.Create)
  pub sync_of_root : (d : Dialect) → call_in d (frame_of 9 (0 ∷ 0 ∷ 0 ∷ 1 ∷ 47 ∷ [])) ≡ frame_call (Sync (codes "/"))
  pub sync_of_empty : (d : Dialect) → call_in d (frame_of 9 (0 ∷ 0 ∷ 0 ∷ 0 ∷ [])) ≡ frame_call (Local InvalidPath)
  pub sync_of_null : (d : Dialect) → call_in d (frame_of 9 (255 ∷ 255 ∷ 255 ∷ 255 ∷ [])) ≡ frame_call (Local InvalidPath)
  pub check : (d : Dialect) → call_in d (frame_of 13 []) ≡ frame_call (Local Refused)
  pub multi : call_in Zk38 (frame_of 14 []) ≡ frame_call (Forward writes.Multi)
  pub multi_before : call_in Zk34 (frame_of 14 []) ≡ frame_call (Local Refused)
  pub unreadable_auth : (d : Dialect) → call_in d (frame_of 100 (0 ∷ [])) ≡ frame_call (Auth None)
  pub close_session : (d : Dialect)
      → call_in d (0 ∷ 0 ∷ 0 ∷ 7 ∷ 255 ∷ 255 ∷ 255 ∷ 245 ∷ []) ≡ frame_call (Forward writes.CloseSession)
  pub create2 : call_in Zk38 (frame_of 15 (255 ∷ [])) ≡ frame_call (Forward writes.Create2)
  pub who_am_i : call_in Zk38 (frame_of 107 []) ≡ frame_call (Local WhoAmI)
  pub create2_before : call_in Zk34 (frame_of 15 (255 ∷ [])) ≡ frame_call (Local Unknown)
