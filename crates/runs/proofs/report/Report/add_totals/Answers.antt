use Rattle.std.proofs.Common.{ℕ, List, ◌∷◌, ◌++◌, sym, ap, ap₂, ◌∙◌}
use Rattle.frames.specs.Reading.{big_endian}
use Rattle.frames.proofs.Fields.{listed}
use Rattle.frames.proofs.WriteBack.{four_bytes}
use Rattle.runs.specs.Report.{totals_payload}
use Rattle.runs.proofs.ReportLines.{extends_as, two_bytes}
use Rattle.runs.proofs.report.Report.add_totals.Goals as goal

pub returns : goal.returns
returns c =
    let wakes : ℕ = c.wakes.result in
    let firings : ℕ = c.firings.result in
    let pending : ℕ = c.args.pending in
    let w = four_bytes wakes _ c.to_be_bytes.ensures in
    let f = four_bytes firings _ c.to_be_bytes-2.ensures in
    let p = two_bytes pending _ c.to_be_bytes-3.ensures in
    extends_as (totals_payload c.args.counts.wakes c.args.counts.firings pending) _
    (ap₂ (λ (m n : ℕ). totals_payload m n pending) (sym c.wakes.ensures) (sym c.firings.ensures)
    ∙ ap (λ (t : List ℕ). 0x95 ∷ t ++ big_endian 4 firings ++ big_endian 2 pending) w
    ∙ ap (λ (t : List ℕ). 0x95 ∷ listed c.to_be_bytes.result 0 4 ++ t ++ big_endian 2 pending) f
    ∙ ap (λ (t : List ℕ). 0x95 ∷ listed c.to_be_bytes.result 0 4 ++ listed c.to_be_bytes-2.result 0 4 ++ t) p
    )
    c.add.ensures
