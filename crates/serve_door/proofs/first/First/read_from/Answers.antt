use Rattle.std.proofs.Common.{◌-◌, ◌++◌, ◌∙◌, ap, arith, take}
use Rattle.std.proofs.lemmas.Result.{err_from_is_err_and}
use Rattle.serve_door.specs.Beginnings.{Beginning}
use Rattle.serve_door.proofs.Beginnings.{read_at_end, nothing_at_end}
use Rattle.serve_door.proofs.first.First.read_from.Goals as goal

pub returns-in_err-count-clause-err : goal.returns-in_err-count-clause-err
returns-in_err-count-clause-err g c =
    let f = c.self.inside in
    let all = nothing_at_end f.bytes c.read.new.buf f.at f.len (64 - f.len) (omega arith) (omega arith) in
    let bytes = all ∙ ap (λ (b : Beginning). b.bytes) c.self.view_is in
    let failed = err_from_is_err_and c.from_residual.result c.from_residual.ensures.1 in
    rw failed.1 (λ i. record { bytes = bytes i; is_last = (c.self.view_is i).is_last })

pub returns-clause-read : goal.returns-clause-read
returns-clause-read g c =
    let f = c.self.inside in
    let count = c.in_ok-count.count in
    let all = read_at_end f.bytes c.read.new.buf f.at f.len (64 - f.len) count (omega arith) (omega arith)
    c.in_ok-count.ensures.bound.0 in
    let bytes = all ∙ ap (λ (b : Beginning). b.bytes ++ take count c.read.new.buf) c.self.view_is in (
      take count c.read.new.buf,
      (λ i. record { bytes = bytes i; is_last = (c.self.view_is i).is_last }),
      c.in_ok-count.ensures.bytes.0,
    )
