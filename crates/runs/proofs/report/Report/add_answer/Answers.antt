use Rattle.std.proofs.Common.{◌≡◌, ℕ, List, [], ◌∷◌, ◌++◌, sym, ap, ◌∙◌}
use Rattle.frames.specs.Reading.{big_endian}
use Rattle.frames.proofs.Fields.{listed}
use Rattle.frames.proofs.WriteBack.{four_bytes}
use Rattle.runs.specs.Report.{answer_payload, outcome_payload}
use Rattle.runs.proofs.ReportLines.{extends_as, two_bytes}
use Rattle.runs.proofs.report.Report.add_answer.Goals.{in-Ok, in-Err}
use Rattle.runs.proofs.report.Report.add_answer.Goals as goal

pub returns : goal.returns
returns c =
    let line : ℕ = c.args.line in
    let said : ℕ × ℕ × ℕ = c.match-outcome.refusal in
    let payload : ℕ × ℕ × ℕ → List ℕ = λ x. answer_payload line x.0 x.1 x.2 in
    let told : outcome_payload line c.args.outcome ≡ payload said =
    elim c.match-outcome.branch [
      | in-Ok w ↦ ap (outcome_payload line) w.in-Ok.is ∙ sym (ap payload w.refusal-is)
      | in-Err w ↦ ap (outcome_payload line) w.in-Err.is ∙ sym (ap payload w.refusal-is ∙ ap (λ (n : ℕ). answer_payload line n 0 0) w.number.ensures)
    ] in
    let l = four_bytes line _ c.to_be_bytes.ensures in
    let w = two_bytes said.1 _ c.to_be_bytes-2.ensures in
    let f = two_bytes said.2 _ c.to_be_bytes-3.ensures in
    extends_as (outcome_payload line c.args.outcome) _
    (told
    ∙ ap (λ (t : List ℕ). 0x90 ∷ t ++ (said.0 ∷ []) ++ big_endian 2 said.1 ++ big_endian 2 said.2) l
    ∙ ap (λ (t : List ℕ). 0x90 ∷ listed c.to_be_bytes.result 0 4 ++ (said.0 ∷ []) ++ t ++ big_endian 2 said.2) w
    ∙ ap (λ (t : List ℕ). 0x90 ∷ listed c.to_be_bytes.result 0 4 ++ (said.0 ∷ []) ++ listed c.to_be_bytes-2.result 0 2 ++ t) f
    )
    c.add.ensures
