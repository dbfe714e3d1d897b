use Rattle.std.proofs.Common.{◌≡◌, ℕ, Bool, true, false, cond, List, [], ◌∷◌, ◌++◌, refl, ap, ◌∙◌}
use Rattle.std.specs.Int.{from_bool}
use Rattle.frames.specs.Reading.{big_endian}
use Rattle.frames.proofs.Fields.{listed}
use Rattle.frames.proofs.WriteBack.{four_bytes, eight_bytes}
use Rattle.runs.specs.Report.{firing_payload}
use Rattle.runs.proofs.FiringLines.{payload_as}
use Rattle.runs.proofs.ReportLines.{extends_as}
use Rattle.runs.proofs.report.Report.add_firing.Goals as goal

-- the byte of a mark
mark_byte : (mark : Bool) → from_bool mark ≡ cond mark 1 0
mark_byte true = refl
mark_byte false = refl

pub returns : goal.returns
returns g c =
    let number : ℕ = c.args.entry.now.number in
    let mark : ℕ = c.from-mark.result in
    let wake : ℕ = c.to_plain.result in
    let soft : ℕ = c.to_plain-2.result in
    let hard : ℕ = c.to_plain-3.result in
    let n = four_bytes number _ c.to_be_bytes.ensures in
    let w = eight_bytes wake _ c.to_be_bytes-2.ensures in
    let s = eight_bytes soft _ c.to_be_bytes-3.ensures in
    let h = eight_bytes hard _ c.to_be_bytes-4.ensures in
    let head : List ℕ = listed c.to_be_bytes.result 0 4 ++ (mark ∷ []) in
    extends_as _ _
    (payload_as number _ _ _ _ _ _ _ _ (c.from-mark.ensures ∙ mark_byte c.args.entry.now.mark) c.to_plain.ensures c.to_plain-2.ensures c.to_plain-3.ensures)
    (extends_as (firing_payload number mark wake soft hard) _
    (ap (λ (t : List ℕ). 0x91 ∷ t ++ (mark ∷ []) ++ big_endian 8 wake ++ big_endian 8 soft ++ big_endian 8 hard) n
    ∙ ap (λ (t : List ℕ). 0x91 ∷ head ++ t ++ big_endian 8 soft ++ big_endian 8 hard) w
    ∙ ap (λ (t : List ℕ). 0x91 ∷ head ++ listed c.to_be_bytes-2.result 0 8 ++ t ++ big_endian 8 hard) s
    ∙ ap (λ (t : List ℕ). 0x91 ∷ head ++ listed c.to_be_bytes-2.result 0 8 ++ listed c.to_be_bytes-3.result 0 8 ++ t) h
    )
    c.add.ensures)
