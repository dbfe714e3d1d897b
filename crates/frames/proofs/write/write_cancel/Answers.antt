use Rattle.std.proofs.Common.{ℕ, List, ◌∷◌, ap, arith}
use Rattle.frames.specs.declared.request.Request.TheVariants.{Cancel}
use Rattle.frames.proofs.WriteBack.{written, four_bytes}
use Rattle.frames.proofs.write.write_cancel.Goals as goal

pub returns : goal.returns
returns c =
    let payload = ap (λ (t : List ℕ). 3 ∷ t) (four_bytes c.args.number _ c.to_be_bytes.ensures) in
    written (Cancel c.args.number) _ c.args.buffer.now _ _ (omega arith) payload c.write_frame.ensures
