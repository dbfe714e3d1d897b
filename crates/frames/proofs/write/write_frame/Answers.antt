use Rattle.std.proofs.Common.{ℕ, ◌*◌, List, length, sym, refl, ap, ◌∙◌, arith}
use Rattle.frames.specs.Writing.{hexed}
use Rattle.frames.proofs.HexWrites.{length_line, line_stands}
use Rattle.frames.proofs.write.write_frame.Goals as goal

pub returns-then-buffer-last : goal.returns-then-buffer-last
returns-then-buffer-last c = (omega (arith, length_line c.args.payload.now), refl)

pub returns : goal.returns
returns c =
    let n = length_line c.args.payload.now in (
      sym n,
      omega arith,
      c.put.ensures
          ∙ ap (λ (t : List ℕ). hexed t (2 * length c.args.payload.now) c.check_byte.result) c.put_all.ensures
          ∙ ap (hexed _ (2 * length c.args.payload.now)) c.check_byte.ensures
          ∙ line_stands c.args.payload.now c.args.buffer.now (omega arith),
    )
