use Rattle.std.proofs.Common.{refl, arith, rules}
use Rattle.std.proofs.lemmas.List.{take_rest}
use Rattle.runs.proofs.ReportLines.{placed}
use Rattle.runs.proofs.report.Report.add.Goals as goal

pub returns : goal.returns
returns c = record {
  same = refl;
  size = search rules;
  placed = placed c.args.payload.now c.args.self.now.buffer.now _ c.write_frame.new.buffer c.args.self.now.at c.write_frame.result (omega arith)
      (take_rest c.args.self.now.buffer.now c.args.self.now.at) c.write_frame.ensures;
}
