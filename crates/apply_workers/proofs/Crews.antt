-- Seats before and after their workers' work.
use Rattle.std.proofs.Common.{◌≡◌, zero, suc, ◌+◌, Bool, true, ◌||◌, List, [], ◌∷◌, ◌++◌, map, reverse, length, sym, refl, ap, ◌∙◌, subst, arith, All}
use Rattle.std.proofs.lemmas.List.{map-append, reverse-append, length-reverse}
use Rattle.apply_board.specs.Sitting.{BoardId, Sitting}
use Rattle.apply_board.specs.Seats.{IsIdle, IsOpener, any_spent}
use Rattle.apply_workers.specs.declared.crew.Worker.{Worker}
use Rattle.apply_workers.specs.Working.{IsWorked}
use Rattle.apply_workers.specs.Inner.{AreReady, AreWorked}

module _ {W F : Type 0} where
  -- A seat of the board without an open claim.
  abbrev pub Fits : BoardId → Sitting W F → Type 0
  Fits board seat = (seat.board ≡ board) × IsIdle seat

  abbrev pub seats_of : List (Worker W F) → List (Sitting W F)
  seats_of crew = map (λ w. w.seat) crew

  -- Each of these workers' seats is such a seat.
  abbrev pub EachFits : BoardId → List (Worker W F) → Type 0
  EachFits board [] = Unit {0}
  EachFits board (w ∷ ws) = Fits board w.seat × EachFits board ws

  pub fits_append : (board : BoardId) (vs ws : List (Worker W F)) → EachFits board vs → EachFits board ws
      → EachFits board (vs ++ ws)
  fits_append board [] ws h k = k
  fits_append board (v ∷ vs) ws h k = (h.0, fits_append board vs ws h.1 k)

  fits_reverse : (board : BoardId) (ws : List (Worker W F)) → EachFits board ws → EachFits board (reverse ws)
  fits_reverse board [] h = tt
  fits_reverse board (w ∷ ws) h = subst (EachFits board) (sym (reverse-append (w ∷ []) ws))
      (fits_append board (reverse ws) (w ∷ []) (fits_reverse board ws h.1) (h.0, tt))

  all_fit : (board : BoardId) (ws : List (Worker W F)) → EachFits board ws → All (Fits board) (seats_of ws)
  all_fit board [] h k d l = absurd (omega arith)
  all_fit board (w ∷ ws) h zero d l = h.0
  all_fit board (w ∷ ws) h (suc k) d l = all_fit board ws h.1 k d (omega arith)

  seats_fit : (board : BoardId) (ws : List (Worker W F)) → All (Fits board) (seats_of ws)
      → All (λ w. Fits board w.seat) ws
  seats_fit board [] h k d l = absurd (omega arith)
  seats_fit board (w ∷ ws) h zero d l = h 0 w.seat (omega arith)
  seats_fit board (w ∷ ws) h (suc k) d l = seats_fit board ws (λ i e n. h (suc i) e (omega arith)) k d (omega arith)

  seats_length : (ws : List (Worker W F)) → length (seats_of ws) ≡ length ws
  seats_length [] = refl
  seats_length (w ∷ ws) = omega (arith, seats_length ws)

  -- The opener's worker o is put before the others.
  pub ready : (board : BoardId) (works : List W) (others crew all : List (Worker W F)) (o : Worker W F)
      → crew ≡ others ++ o ∷ [] → all ≡ reverse crew → EachFits board others → Fits board o.seat → IsOpener o.seat
      → o.seat.view.unjoined ≡ length others + 1 → o.seat.view.works ≡ works → AreReady board works (seats_of all)
  ready board works others crew all o is are each fits opener unjoined same =
      let e : all ≡ o ∷ reverse others = are ∙ (ap (λ (l : List (Worker W F)). reverse l) is
      ∙ reverse-append others (o ∷ [])) in
      let n = seats_length (reverse others) in let m = length-reverse others in
      subst (λ (l : List (Worker W F)). AreReady board works (seats_of l)) (sym e)
      ((opener, omega arith, all_fit board (o ∷ reverse others) (fits, fits_reverse board others each)), same)

  pub ready_fits : (board : BoardId) (works : List W) (crew : List (Worker W F))
      → AreReady board works (seats_of crew) → All (λ w. Fits board w.seat) crew
  ready_fits board works [] h = absurd h.0
  ready_fits board works (w ∷ ws) h = seats_fit board (w ∷ ws) h.0.2

  worked_append : (ss ts : List (Sitting W F)) (s t : Sitting W F) → AreWorked ss ts → IsWorked s t
      → AreWorked (ss ++ s ∷ []) (ts ++ t ∷ [])
  worked_append [] [] s t h is = (is, tt)
  worked_append [] (u ∷ ts) s t h is = absurd h
  worked_append (r ∷ ss) [] s t h is = absurd h
  worked_append (r ∷ ss) (u ∷ ts) s t h is = (h.0, worked_append ss ts s t h.1 is)

  -- The last worker has worked as well.
  pub last_worked : (crew rest : List (Worker W F)) (last : Worker W F) (ts all : List (Sitting W F)) (t : Sitting W F)
      → crew ≡ rest ++ last ∷ [] → all ≡ ts ++ t ∷ [] → AreWorked (seats_of rest) ts → IsWorked last.seat t
      → AreWorked (seats_of crew) all
  last_worked crew rest last ts all t is are h worked =
      subst (λ (l : List (Worker W F)). AreWorked (seats_of l) all) (sym is)
      (subst (λ (l : List (Sitting W F)). AreWorked l all) (sym (map-append (λ (w : Worker W F). w.seat) rest (last ∷ [])))
      (subst (AreWorked (seats_of rest ++ last.seat ∷ [])) (sym are)
      (worked_append (seats_of rest) ts last.seat t h worked)))

  worked_length : (ss ts : List (Sitting W F)) → AreWorked ss ts → length ts ≡ length ss
  worked_length [] [] h = refl
  worked_length [] (t ∷ ts) h = absurd h
  worked_length (s ∷ ss) [] h = absurd h
  worked_length (s ∷ ss) (t ∷ ts) h = omega (arith, worked_length ss ts h.1)

  worked_fit : (board : BoardId) (ss ts : List (Sitting W F)) → AreWorked ss ts → All (Fits board) ss
      → All (Fits board) ts
  worked_fit board [] [] h fit k d l = absurd (omega arith)
  worked_fit board [] (t ∷ ts) h fit k d l = absurd h
  worked_fit board (s ∷ ss) [] h fit k d l = absurd h
  worked_fit board (s ∷ ss) (t ∷ ts) h fit zero d l = (h.0.own ∙ (fit 0 s (omega arith)).0, h.0.idle)
  worked_fit board (s ∷ ss) (t ∷ ts) h fit (suc k) d l = worked_fit board ss ts h.1
      (λ i e n. fit (suc i) e (omega arith)) k d (omega arith)

  -- All seats are back, and spent.
  pub back : (board : BoardId) (works : List W) (ss ts : List (Sitting W F)) → AreReady board works ss
      → AreWorked ss ts → AreReady board works ts × (any_spent ts ≡ true)
  back board works [] ts ready h = absurd ready.0
  back board works (s ∷ ss) [] ready h = absurd h
  back board works (s ∷ ss) (t ∷ ts) ready h = let n = worked_length ss ts h.1 in let made = h.0.made in
      let unjoined = h.0.unjoined in let opener = ready.0.0 in let count = ready.0.1 in (
        ((omega arith, omega arith, worked_fit board (s ∷ ss) (t ∷ ts) h ready.0.2), h.0.works ∙ ready.1),
        ap (λ (b : Bool). b || any_spent ts) h.0.spent,
      )
