-- The number of each fault of a run. Assumes nothing.
use Rattle.std.specs.Prelude.{ℕ}
use Rattle.runs.specs.declared.faults.RunFault.{RunFault}
use Rattle.runs.specs.declared.faults.RunFault.TheVariants.{Line, Frame, Time, Queue, UnknownDevice, UnknownPurpose, NotOpenedYet, OpenedAlready, NotNow, TooManyLines, ShortBuffer, NotAccepted}
use Rattle.frames.specs.Numbers.{line_number, frame_number}
use Rattle.times.specs.Faults.{time_fault_number}
use Rattle.queue_rules.specs.Faults.{numeral}

abbrev pub run_number : RunFault → ℕ
run_number (Line fault) = line_number fault
run_number (Frame fault) = frame_number fault
run_number (Time fault) = time_fault_number fault
run_number (Queue fault) = numeral fault
run_number UnknownDevice = 0x24
run_number UnknownPurpose = 0x25
run_number NotOpenedYet = 0x41
run_number OpenedAlready = 0x42
run_number NotNow = 0x43
run_number TooManyLines = 0x44
run_number ShortBuffer = 0x45
run_number NotAccepted = 0x46
