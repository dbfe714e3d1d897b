use Rattle.queue_rules.proofs.Refuted.{wrong_rules_refused}
use Rattle.queue_rules.proofs.laws.wrong_rules_are_refused.Goals as goal

pub returns : goal.returns
returns c = wrong_rules_refused
