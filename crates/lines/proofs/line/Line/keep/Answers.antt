use Rattle.std.proofs.Common.{arith, rules}
use Rattle.lines.proofs.LineSteps.{keeps}
use Rattle.lines.proofs.line.Line.keep.Goals as goal

pub returns : goal.returns
returns c = keeps c.args.self.now.bytes c.args.bytes.now c.copy_from_slice.new.self c.args.self.now.len c.min-count.result (omega arith) (omega arith) (omega arith) (search rules)
