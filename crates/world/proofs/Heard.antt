-- Connections that are heard: those that are open and not leaving.
use Rattle.std.proofs.Common.{◌≡◌, ℕ, List, Option, Some, None, Bool, true, false, not, cond, refl, sym, ap, ◌∙◌}
use Rattle.std.specs.Prelude.{is_some}
use mathlib.Core.Bool.{true≢false}
use Rattle.world.specs.World.{OpenConnection}
use Rattle.world.specs.Clients.{heard_in}

-- A connection is heard unless it is leaving.
pub heard_some : (rest : List ℕ) (leaving : Bool) (address : Option (List ℕ))
    → is_some (heard_in (Some (record { rest = rest; is_leaving = leaving; address = address }))) ≡ not leaving
heard_some rest true address = refl
heard_some rest false address = refl

pub heard_as : (c : OpenConnection) (leaving : Bool) → c.is_leaving ≡ leaving
    → heard_in (Some c) ≡ cond leaving None (Some c)
heard_as c leaving is = ap (λ b. cond b None (Some c)) is

-- What is heard is open.
pub heard_open : (o : Option OpenConnection) (c : OpenConnection) → heard_in o ≡ Some c → o ≡ Some c
heard_open None c e = e
heard_open (Some k) c e = by k.is_leaving e
  where
    by : (b : Bool) → cond b None (Some k) ≡ Some c → Some k ≡ Some c
    by true none = absurd (true≢false (sym (ap is_some none)))
    by false is = is

-- The same connection with other bytes is heard, too.
pub heard_still : (o : Option OpenConnection) (c : OpenConnection) (rest : List ℕ) → heard_in o ≡ Some c
    → heard_in (Some (record c { rest = rest })) ≡ Some (record c { rest = rest })
heard_still o c rest e = ap (λ b. cond b None (Some (record c { rest = rest }))) (stays o e)
  where
    stays : (o : Option OpenConnection) → heard_in o ≡ Some c → c.is_leaving ≡ false
    stays None none = absurd (true≢false (sym (ap is_some none)))
    stays (Some k) is = by k.is_leaving refl is
      where
        there : Option OpenConnection → Bool
        there None = false
        there (Some x) = x.is_leaving

        by : (b : Bool) → k.is_leaving ≡ b → cond b None (Some k) ≡ Some c → c.is_leaving ≡ false
        by true leaving none = absurd (true≢false (sym (ap is_some none)))
        by false staying same = sym (ap there same) ∙ staying
