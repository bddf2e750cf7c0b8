-- What several reads show of one state.
use Rattle.std.specs.Prelude.{◌≡◌, List, map, Result, IfOk, Vec}
use Rattle.std.specs.declared.alloc.Global.{Global}
use Rattle.std.specs.Borrow.{Bor}
use Rattle.values.specs.declared.fault.NoMemory.{NoMemory}
use Rattle.data_tree.specs.State.{State}
use Rattle.read_processor.specs.Look.{look_at_state}
use Rattle.read_processor.specs.declared.asking.Ask.{Ask}
use Rattle.read_processor.specs.declared.shown.Look.{Look}

-- The answer to an ask.
abbrev pub look_for_ask : State → Ask → Look
look_for_ask s ask = look_at_state s ask.ids.now ask.request

-- The answers to all asks at one state, in order.
abbrev pub looks_at : State → List Ask → List Look
looks_at s asks = map (look_for_ask s) asks

-- The contract of a closure that looks: it may be called with every tree and every list of asks.
pub record LooksAtAsks (pre : Bor State → Bor (List Ask) → Type 0)
    (post : Bor State → Bor (List Ask) → Result (Vec Look Global) NoMemory → Type 0) : Type 0 where
  pub may : (tree : Bor State) (asks : Bor (List Ask)) → pre tree asks
  pub looks : (tree : Bor State) (asks : Bor (List Ask)) (r : Result (Vec Look Global) NoMemory)
      → post tree asks r → IfOk r (λ v. v.items ≡ looks_at tree.now asks.now)
