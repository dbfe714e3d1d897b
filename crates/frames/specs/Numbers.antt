-- The number of each fault, written in hexadecimal in every document. Assumes nothing.
use Rattle.std.specs.Prelude.{ℕ}
use Rattle.frames.specs.declared.faults.LineFault.{LineFault}
use Rattle.frames.specs.declared.faults.LineFault.TheVariants.{TooLong, BadCount, NotHex, BadCheck}
use Rattle.frames.specs.declared.faults.FrameFault.{FrameFault}
use Rattle.frames.specs.declared.faults.FrameFault.TheVariants.{UnknownKind, WrongLength}
use Rattle.frames.specs.declared.faults.ReadFault.{ReadFault}
use Rattle.frames.specs.declared.faults.ReadFault.TheVariants.{Line, Frame}
use Rattle.frames.specs.declared.faults.WriteFault.{WriteFault}
use Rattle.frames.specs.declared.faults.WriteFault.TheVariants.{ShortBuffer}

abbrev pub line_number : LineFault → ℕ
line_number TooLong = 0x10
line_number BadCount = 0x11
line_number NotHex = 0x12
line_number BadCheck = 0x13

abbrev pub frame_number : FrameFault → ℕ
frame_number UnknownKind = 0x21
frame_number WrongLength = 0x22

abbrev pub read_number : ReadFault → ℕ
read_number (Line fault) = line_number fault
read_number (Frame fault) = frame_number fault

abbrev pub write_number : WriteFault → ℕ
write_number ShortBuffer = 0x45
