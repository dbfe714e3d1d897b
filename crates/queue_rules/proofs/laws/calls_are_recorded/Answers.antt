use Rattle.queue_rules.proofs.Recording.{calls_recorded}
use Rattle.queue_rules.proofs.laws.calls_are_recorded.Goals as goal

pub returns : goal.returns
returns g c = calls_recorded g.T.Time.before
