use Rattle.std.proofs.Common.{ℕ, ◌+◌, List, MutBor, sym, subst, rules}
use Rattle.runs.specs.Replies.{tally_of}
use Rattle.runs.specs.Report.{report_line, outcome_payload, Placed}
use Rattle.runs.proofs.Finished.{Logged, logged, none_logged, finished}
use Rattle.runs.proofs.finishing.finish.Goals.{in-Ok, in_default}
use Rattle.runs.proofs.finishing.finish.Goals as goal

pub returns : goal.returns
returns g c =
    let plain : g.row.T.Denot → ℕ = g.T.Plain.plain in
    let old : List ℕ = c.args.buffer.now in
    let report = c.match-outcome.report in
    let new : List ℕ = c.answer.new.report.buffer.now in
    let Stands : MutBor (List ℕ) × (ℕ × Unit {0}) → Type 0 = λ x. Logged plain c.args.log.now old c.args.outcome x.0.now x.1.0 in
    let firings : Stands report =
    elim c.match-outcome.branch [
      | in-Ok w ↦ subst Stands (sym w.report-is)
          (logged plain c.args.log.now old c.args.outcome w.in-Ok.field-0-0 w.in-Ok.firings w.from.result _ _ w.in-Ok.is w.from.ensures w.add_firings.ensures.added.placed)
      | in_default w ↦ subst Stands (sym w.report-is) (none_logged plain c.args.log.now old c.args.outcome w.in_default.field-0 w.in_default.is)
    ] in
    let said : List ℕ = report_line (outcome_payload (c.args.next.counts.lines + 1) c.args.outcome) in
    let done = finished plain c.args.log.now old (tally_of c.args.next.counts) (tally_of c.answer.result.0) report.0.now new report.1.0 c.answer.result.1
    c.args.outcome firings
    (subst (λ (n : ℕ). Placed said report.1.0 report.0.now new n) (sym c.answer.ensures.written) c.answer.ensures.added.placed)
    c.answer.ensures.answer c.answer.ensures.counted in
    search rules
