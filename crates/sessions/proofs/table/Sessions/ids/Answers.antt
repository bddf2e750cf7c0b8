use Rattle.std.proofs.Common.{rules, ◌≡◌, ◌≤◌, List, length, subst, sym}
use Rattle.std.specs.List.{All}
use Rattle.jute.specs.Owned.{id_format}
use Rattle.jute.specs.declared.owned.Id.{Id}
use Rattle.sessions.specs.Sessions.{ids_of, ids_limit, ids_bytes_limit, bytes_of_ids}
use Rattle.sessions.specs.Agreement.{SessionsAgree}
use Rattle.sessions.proofs.Agreeing.{few_ids, small_ids, writable_ids}
use Rattle.sessions.proofs.table.Sessions.ids.Goals as goal

pub returns-in-Some-clause-few : goal.returns-in-Some-clause-few
returns-in-Some-clause-few c =
    let agrees : SessionsAgree c.args.self.now = search rules in
    let same : c.ids.result.now ≡ ids_of c.args.self.now c.args.connection = search rules in
    subst (λ (ids : List Id). length ids ≤ ids_limit) (sym same)
    (few_ids c.args.self.now c.args.connection agrees)

pub returns-in-Some-clause-bytes : goal.returns-in-Some-clause-bytes
returns-in-Some-clause-bytes c =
    let agrees : SessionsAgree c.args.self.now = search rules in
    let same : c.ids.result.now ≡ ids_of c.args.self.now c.args.connection = search rules in
    subst (λ (ids : List Id). bytes_of_ids ids ≤ ids_bytes_limit) (sym same)
    (small_ids c.args.self.now c.args.connection agrees)

pub returns-in-Some-clause-writable : goal.returns-in-Some-clause-writable
returns-in-Some-clause-writable c =
    let agrees : SessionsAgree c.args.self.now = search rules in
    let same : c.ids.result.now ≡ ids_of c.args.self.now c.args.connection = search rules in
    subst (All id_format.Writable) (sym same) (writable_ids c.args.self.now c.args.connection agrees)
