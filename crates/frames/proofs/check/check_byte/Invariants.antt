use Rattle.std.proofs.Common.{◌≡◌, take}
use Rattle.frames.specs.Check.{check}
use Rattle.frames.proofs.check.check_byte.Given as goal

abbrev pub invariant-loop-byte : goal.invariant-loop-byte
invariant-loop-byte l = l.sum ≡ check (take l.byte-index l.bytes)
