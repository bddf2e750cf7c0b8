use Rattle.intake.proofs.Turning.{turn_of_leader, own_of_leader}
use Rattle.intake.proofs.desk.Desk.serve_leader.Goals as goal

pub returns-clause-ok : goal.returns-clause-ok
returns-clause-ok g c = λ m is none full.
    turn_of_leader m c.args.self.now c.feed.new.self is none full c.in_ok-feed.ensures.ok

pub returns-clause-own : goal.returns-clause-own
returns-clause-own g c = λ none. own_of_leader c.args.self.now c.feed.new.self none c.in_ok-feed.ensures.ok
