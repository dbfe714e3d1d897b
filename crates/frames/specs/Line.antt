-- From the characters of a line to the bytes of a checked frame. Assumes nothing.
use Rattle.std.specs.Prelude.{ℕ, ◌%◌, Bool, cond, ◌||◌, List, length, take, Some, None, Ok, Err, Option, Result, ◌==◌, nat_lt}
use Rattle.frames.specs.declared.faults.LineFault.{LineFault}
use Rattle.frames.specs.declared.faults.LineFault.TheVariants.{TooLong, BadCount, NotHex, BadCheck}
use Rattle.frames.specs.declared.frame_bytes.FrameBytes.{FrameBytes}
use Rattle.frames.specs.Check.{checked}
use Rattle.frames.specs.Hex.{spelled}

-- a frame has its kind and its check byte at least: four characters, and two for each byte
abbrev pub counted : ℕ → Bool
counted n = nat_lt n 4 || n % 2 == 1

-- the bytes that were spelled, if they end in their check byte
abbrev pub checked_bytes : Option (List ℕ) → Result (List ℕ) LineFault
checked_bytes None = Err NotHex
checked_bytes (Some bs) = cond (checked bs) (Ok bs) (Err BadCheck)

-- the bytes of the frame that a line spells, or the first thing that is wrong with the line
unfoldable pub line_bytes : List ℕ → Result (List ℕ) LineFault
line_bytes cs = cond (nat_lt 128 (length cs)) (Err TooLong) (cond (counted (length cs)) (Err BadCount) (checked_bytes (spelled cs)))

-- the bytes that a `FrameBytes` holds
abbrev pub held : FrameBytes → List ℕ
held f = take f.len f.bytes

abbrev pub held_in : Result FrameBytes LineFault → Result (List ℕ) LineFault
held_in (Ok f) = Ok (held f)
held_in (Err e) = Err e
