use Rattle.runs.proofs.Accounting.{files_accounted}
use Rattle.runs.proofs.laws.files_are_accounted.Goals as goal

pub returns : goal.returns
returns c = files_accounted
