use Rattle.std.proofs.Common.{◌≡◌, ℕ, ◌-◌, List, [], ◌++◌, length, take, drop, rules, sym, ap, ◌∙◌, subst, append_assoc, append-nil, take-append-drop, drop_of_length-le}
use Rattle.std.proofs.lemmas.List.{take_rest}
use Rattle.std.specs.Io.KnownBytes.{Appends}
use Rattle.std.proofs.KnownBytes.{Appends-trans, Appends-kept}
use Rattle.replay.proofs.writing.write_whole.Goals as goal
use Rattle.replay.proofs.writing.write_whole.Goals.{in-Ok, in-Err}

moves_front : (all done rest : List ℕ) (n : ℕ) → all ≡ done ++ rest
    → all ≡ (done ++ take n rest) ++ take (length rest - n) (drop n rest)
moves_front all done rest n e =
    e ∙ ap (λ l. done ++ l) (sym (take-append-drop n rest)) ∙ sym (append_assoc done (take n rest) (drop n rest))
    ∙ ap (λ l. (done ++ take n rest) ++ l) (sym (take_rest rest n))

pub loop-preserved : goal.loop-preserved
loop-preserved g c =
    let (done, split, appended) = c.loop.invariant in
    let rest = c.loop.rest.now in
    elim c.match-write.branch [
      | in-Ok w ↦
          let n = w.in-Ok.count in
          let left = ap (λ r. r.now) w.rest-is in (
            done ++ take n rest,
            moves_front _ done rest n split ∙ ap (λ l. (done ++ take n rest) ++ l) (sym left),
            Appends-trans _ _ _ _ _ appended w.in-Ok.ensures.bytes,
          )
      | in-Err w ↦
          let left = ap (λ r. r.now) w.rest-is in
          (done, split ∙ ap (λ l. done ++ l) (sym left), Appends-kept _ _ _ done appended w.in-Err.ensures.bytes)
    ]

pub returns-then-is_empty-clause-ok : goal.returns-then-is_empty-clause-ok
returns-then-is_empty-clause-ok g c =
    let (done, split, appended) = c.loop.invariant in
    let rest = c.loop.rest.now in
    let empty : rest ≡ [] = drop_of_length-le rest {i = 0} (search rules) in
    subst (Appends _ _) (sym (split ∙ ap (λ l. done ++ l) empty ∙ append-nil done)) appended
