use Rattle.std.proofs.Common.{ℕ, List, ◌∷◌, ap, arith}
use Rattle.frames.specs.declared.request.Request.TheVariants.{Advance}
use Rattle.frames.proofs.WriteBack.{written, eight_bytes}
use Rattle.frames.proofs.write.write_advance.Goals as goal

pub returns : goal.returns
returns c =
    let payload = ap (λ (t : List ℕ). 4 ∷ t) (eight_bytes c.args.to _ c.to_be_bytes.ensures) in
    written (Advance c.args.to) _ c.args.buffer.now _ _ (omega arith) payload c.write_frame.ensures
