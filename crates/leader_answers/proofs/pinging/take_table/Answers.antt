use Rattle.leader_answers.proofs.Tables.{short_if_ok}
use Rattle.leader_answers.proofs.pinging.take_table.Goals as goal

pub returns-clause-short : goal.returns-clause-short
returns-clause-short c =
    short_if_ok _ _ _ c.in_ok-rows.ensures c.as_slice.result.now c.as_slice.ensures.value c.session_table.result
    c.session_table.ensures.length
