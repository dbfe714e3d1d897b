use Rattle.queue_rules.proofs.Points.{walk_is_greedy}
use Rattle.queue_rules.proofs.laws.walk_is_greedy.Goals as goal

pub returns : goal.returns
returns g c = walk_is_greedy g.T.Time.before g.met.T.Time.ordered
