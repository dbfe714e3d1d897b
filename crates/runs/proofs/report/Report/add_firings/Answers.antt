use Rattle.std.proofs.Common.{◌≡◌, ◌+◌, ◌*◌, arith}
use Rattle.runs.proofs.FiringLines.{line_size, lines_next}
use Rattle.runs.proofs.report.Report.add_firings.Goals as goal

pub add_firing-requires : goal.add_firing-requires
add_firing-requires g c =
    let inv = c.loop-entry.invariant in
    let size = inv.0.size in
    let at = inv.1 in
    omega (arith, c.requires, c.loop-entry-test.true)

pub loop-entry-preserved : goal.loop-entry-preserved
loop-entry-preserved g c =
    let inv = c.loop-entry.invariant in
    let e = c.entry-item.result in
    let size = line_size g.T.Plain.plain e in
    let end : c.add_firing.new.self.at ≡ c.args.self.now.at + 63 * (c.loop-entry.entry-index + 1) =
    let f = c.add_firing.ensures.placed.ends in let at = inv.1 in omega arith in (
      lines_next g.T.Plain.plain c.args.log.now c.loop-entry.entry-index e c.args.self.now c.loop-entry.self c.add_firing.new.self
          c.loop-entry-test.true c.entry-item.is inv.0 c.add_firing.ensures,
      end,
    )
