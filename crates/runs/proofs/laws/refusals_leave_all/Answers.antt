use Rattle.runs.proofs.Refusing.{refusals_leave}
use Rattle.runs.proofs.laws.refusals_leave_all.Goals as goal

pub returns : goal.returns
returns c = refusals_leave
