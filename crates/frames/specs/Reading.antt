-- A line read as a request, and the one line of a request. Assumes nothing.
use Rattle.std.specs.Prelude.{ℕ, zero, suc, ◌/◌, ◌%◌, ◌^◌, ◌<◌, List, [], ◌∷◌, ◌++◌, Ok, Err, Result}
use Rattle.frames.specs.declared.faults.LineFault.{LineFault}
use Rattle.frames.specs.declared.faults.FrameFault.{FrameFault}
use Rattle.frames.specs.declared.faults.ReadFault.{ReadFault}
use Rattle.frames.specs.declared.faults.ReadFault.TheVariants.{Line, Frame}
use Rattle.frames.specs.declared.request.Request.{Request}
use Rattle.frames.specs.declared.request.Request.TheVariants.{Open, Arm, Cancel, Advance, Close, ArmByPurpose}
use Rattle.frames.specs.Check.{check}
use Rattle.frames.specs.Frame.{frame_request}
use Rattle.frames.specs.Hex.{hex}
use Rattle.frames.specs.Line.{line_bytes}

abbrev pub frame_answer : Result Request FrameFault → Result Request ReadFault
frame_answer (Ok request) = Ok request
frame_answer (Err fault) = Err (Frame fault)

abbrev pub line_answer : Result (List ℕ) LineFault → Result Request ReadFault
line_answer (Ok bytes) = frame_answer (frame_request bytes)
line_answer (Err fault) = Err (Line fault)

-- what a line asks for, or the first thing that is wrong with it
unfoldable pub read_line : List ℕ → Result Request ReadFault
read_line line = line_answer (line_bytes line)

-- a number as n bytes, big_endian: the last byte is the remainder by 256
abbrev pub big_endian : ℕ → ℕ → List ℕ
big_endian zero x = []
big_endian (suc n) x = big_endian n (x / 256) ++ (x % 256) ∷ []

-- the kind byte and the payload of a request
abbrev pub payload_of : Request → List ℕ
payload_of (Open kind device start) = 1 ∷ kind ∷ device ∷ big_endian 8 start
payload_of (Arm number soft hard) = 2 ∷ big_endian 4 number ++ big_endian 8 soft ++ big_endian 8 hard
payload_of (Cancel number) = 3 ∷ big_endian 4 number
payload_of (Advance to) = 4 ∷ big_endian 8 to
payload_of Close = 5 ∷ []
payload_of (ArmByPurpose number purpose) = 6 ∷ big_endian 4 number ++ purpose ∷ []

-- each field has the width that the format gives it, as every `Request` of the code has
abbrev pub Sized : Request → Type 0
Sized (Open kind device start) = (kind < 256) × (device < 256) × (start < 256 ^ 8)
Sized (Arm number soft hard) = (number < 256 ^ 4) × (soft < 256 ^ 8) × (hard < 256 ^ 8)
Sized (Cancel number) = number < 256 ^ 4
Sized (Advance to) = to < 256 ^ 8
Sized Close = Unit {0}
Sized (ArmByPurpose number purpose) = (number < 256 ^ 4) × (purpose < 256)

-- bytes with their check byte
abbrev pub with_check : List ℕ → List ℕ
with_check bs = bs ++ check bs ∷ []

-- the line of a request
unfoldable pub line_of : Request → List ℕ
line_of request = hex (with_check (payload_of request))
