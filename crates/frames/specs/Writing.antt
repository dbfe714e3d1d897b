-- What writing leaves in a lent buffer. Assumes nothing.
use Rattle.std.specs.Prelude.{◌≡◌, ℕ, ◌+◌, ◌/◌, ◌%◌, ◌<◌, ◌≤◌, List, ◌++◌, length, take, drop, IfOk, Ok, Err, Result, slice_set}
use Rattle.frames.specs.declared.faults.WriteFault.{WriteFault}
use Rattle.frames.specs.declared.faults.WriteFault.TheVariants.{ShortBuffer}
use Rattle.frames.specs.declared.request.Request.{Request}
use Rattle.frames.specs.Hex.{character}
use Rattle.frames.specs.Reading.{line_of, read_line}

-- a buffer after the two characters of a byte were written at a place
abbrev pub hexed : List ℕ → ℕ → ℕ → List ℕ
hexed buffer at byte = slice_set (slice_set buffer at (character (byte / 16))) (at + 1) (character (byte % 16))

-- either the line stands at the start of the buffer, its length is the answer, and the later bytes
-- stay; or the buffer is shorter than the line, and all of it stays
abbrev pub Wrote : List ℕ → List ℕ → List ℕ → Result ℕ WriteFault → Type 0
Wrote line old new (Ok n) = (n ≡ length line) × (length line ≤ length old) × (new ≡ line ++ drop n old)
Wrote line old new (Err ShortBuffer) = (length old < length line) × (new ≡ old)

-- the line of a request was written or refused so, and what was written reads as that request
pub record Written (request : Request) (old new : List ℕ) (r : Result ℕ WriteFault) : Type 0 where
  pub line : Wrote (line_of request) old new r
  pub back : IfOk r (λ n. read_line (take n new) ≡ Ok request)
