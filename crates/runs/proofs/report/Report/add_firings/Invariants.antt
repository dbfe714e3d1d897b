use Rattle.std.proofs.Common.{◌≡◌, ◌+◌, ◌*◌, take}
use Rattle.runs.specs.Reports.{Extends}
use Rattle.runs.proofs.FiringLines.{lines_of}
use Rattle.runs.proofs.report.Report.add_firings.Given as goal

abbrev pub invariant-loop-entry : goal.invariant-loop-entry
invariant-loop-entry g l = Extends (lines_of g.T.Plain.plain (take l.entry-index l.log)) l.initial.self l.self × (l.self.at ≡ l.initial.self.at + 63 * l.entry-index)
