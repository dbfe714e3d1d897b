use Rattle.std.proofs.Common.{◌≡◌, ◌*◌, ◌++◌, take, drop}
use Rattle.frames.specs.Hex.{hex}
use Rattle.frames.proofs.write.put_all.Given as goal

abbrev pub invariant-loop-i : goal.invariant-loop-i
invariant-loop-i l = l.buffer ≡ hex (take l.i l.bytes) ++ drop (2 * l.i) l.initial.buffer
