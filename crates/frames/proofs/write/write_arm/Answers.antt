use Rattle.std.proofs.Common.{ℕ, List, ◌∷◌, ◌++◌, ap, ◌∙◌, arith}
use Rattle.frames.specs.declared.request.Request.TheVariants.{Arm}
use Rattle.frames.specs.Reading.{big_endian}
use Rattle.frames.proofs.Fields.{listed}
use Rattle.frames.proofs.WriteBack.{written, four_bytes, eight_bytes}
use Rattle.frames.proofs.write.write_arm.Goals as goal

pub returns : goal.returns
returns c =
    let n = four_bytes c.args.number _ c.to_be_bytes.ensures in
    let s = eight_bytes c.args.soft _ c.to_be_bytes-2.ensures in
    let h = eight_bytes c.args.hard _ c.to_be_bytes-3.ensures in
    let payload =
    ap (λ (t : List ℕ). 2 ∷ t ++ big_endian 8 c.args.soft ++ big_endian 8 c.args.hard) n
    ∙ ap (λ (t : List ℕ). 2 ∷ listed c.to_be_bytes.result 0 4 ++ t ++ big_endian 8 c.args.hard) s
    ∙ ap (λ (t : List ℕ). 2 ∷ listed c.to_be_bytes.result 0 4 ++ listed c.to_be_bytes-2.result 0 8 ++ t) h in
    written (Arm c.args.number c.args.soft c.args.hard) _ c.args.buffer.now _ _ (omega arith, omega arith, omega arith) payload c.write_frame.ensures
