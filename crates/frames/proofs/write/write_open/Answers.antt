use Rattle.std.proofs.Common.{ℕ, List, ◌∷◌, ap, arith}
use Rattle.frames.specs.declared.request.Request.TheVariants.{Open}
use Rattle.frames.proofs.WriteBack.{written, eight_bytes}
use Rattle.frames.proofs.write.write_open.Goals as goal

pub returns : goal.returns
returns c =
    let payload = ap (λ (t : List ℕ). 1 ∷ c.args.time_kind ∷ c.args.device ∷ t) (eight_bytes c.args.start _ c.to_be_bytes.ensures) in
    written (Open c.args.time_kind c.args.device c.args.start) _ c.args.buffer.now _ _ (omega arith, omega arith, omega arith) payload c.write_frame.ensures
