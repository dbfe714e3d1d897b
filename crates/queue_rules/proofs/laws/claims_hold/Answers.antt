use Rattle.queue_rules.proofs.Claiming.{claims_hold}
use Rattle.queue_rules.proofs.laws.claims_hold.Goals as goal

pub returns : goal.returns
returns g c = claims_hold g.T.Time.before g.met.T.Time.ordered
