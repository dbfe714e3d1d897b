use Rattle.std.proofs.Common.{ℕ, List, [], ◌∷◌, ◌++◌, ap, arith}
use Rattle.frames.specs.declared.request.Request.TheVariants.{ArmByPurpose}
use Rattle.frames.proofs.WriteBack.{written, four_bytes}
use Rattle.frames.proofs.write.write_purpose.Goals as goal

pub returns : goal.returns
returns c =
    let payload = ap (λ (t : List ℕ). 6 ∷ t ++ c.args.purpose ∷ []) (four_bytes c.args.number _ c.to_be_bytes.ensures) in
    written (ArmByPurpose c.args.number c.args.purpose) _ c.args.buffer.now _ _ (omega arith, omega arith) payload c.write_frame.ensures
