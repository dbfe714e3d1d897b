use Rattle.std.proofs.Common.{ℕ, ◌*◌, List, get_or, ap, ◌∙◌, arith}
use Rattle.frames.specs.Writing.{hexed}
use Rattle.frames.proofs.HexWrites.{hexed_more}
use Rattle.frames.proofs.write.put_all.Goals as goal

pub loop-i-preserved : goal.loop-i-preserved
loop-i-preserved c =
    c.put.ensures
    ∙ ap (λ (t : List ℕ). hexed t (2 * c.loop-i.i) (get_or c.args.bytes.now c.loop-i.i 0)) c.loop-i.invariant
    ∙ hexed_more c.args.bytes.now c.args.buffer.now c.loop-i.i (omega arith) (omega arith)
