use Rattle.std.proofs.Common.{◌≡◌, ◌*◌, length, take, drop}
use Rattle.frames.specs.Hex.{spelled}
use Rattle.frames.proofs.Spelling.{after}
use Rattle.frames.proofs.decode.unhex.Given as goal

abbrev pub invariant-loop-i : goal.invariant-loop-i
invariant-loop-i l = record {
  found : after (take l.i l.bytes) (spelled (drop (2 * l.i) l.line)) ≡ spelled l.line;
  size : length l.bytes ≡ 64;
}
