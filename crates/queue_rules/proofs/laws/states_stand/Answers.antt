use Rattle.queue_rules.proofs.Living.{states_stand}
use Rattle.queue_rules.proofs.laws.states_stand.Goals as goal

pub returns : goal.returns
returns g c = states_stand g.T.Time.before g.met.T.Time.ordered
