use Rattle.queue_rules.proofs.Going.{walk_goes_on}
use Rattle.queue_rules.proofs.laws.walk_goes_on.Goals as goal

pub returns : goal.returns
returns g c = walk_goes_on g.T.Time.before g.met.T.Time.ordered
