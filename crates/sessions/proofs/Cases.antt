-- A claim that holds in each case of a conditional holds for the conditional.
use Rattle.std.proofs.Common.{◌≡◌, Bool, true, false, ◌&&◌, ◌+◌, ◌==◌, ℤ, None, refl, sym, ap}
use Rattle.std.specs.Prelude.{if◌then◌else◌}
use mathlib.Core.Bool.{true≢false}
use Rattle.sessions.specs.Credentials.{session_id_of}
use Rattle.sessions.specs.State.{SessionTable}
use Rattle.sessions.specs.Sessions.{ConnectResult, greatest_counter, session_response, refused_connect, name_session}

pub at_if : {A : Type 0} (P : A → Type 0) (b : Bool) (x y : A) → (b ≡ true → P x) → (b ≡ false → P y)
    → P (if b then x else y)
at_if P true x y f g = f refl
at_if P false x y f g = g refl

pub first_of : (a b : Bool) → (a && b) ≡ true → a ≡ true
first_of true b e = refl
first_of false b e = e

pub second_of : (a b : Bool) → (a && b) ≡ true → b ≡ true
second_of true b e = e
second_of false b e = absurd (true≢false (sym e))

-- The id with the next counter is given out.
abbrev pub next_named : SessionTable → ℤ → ConnectResult
next_named s time_out = record {
  connected = record {
    response = session_response s.terms (session_id_of s.terms.server_id (s.counter + 1)) time_out;
    older = None;
  };
  after = record s { counter = s.counter + 1 };
}

-- So it is where the counters aren't used up.
pub names_next : (s : SessionTable) (time_out : ℤ) → (s.counter == greatest_counter) ≡ false
    → name_session s time_out ≡ next_named s time_out
names_next s time_out left = ap (λ b. if b then refused_connect s else next_named s time_out) left
