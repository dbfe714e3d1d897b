-- The number of each refusal of a time. Assumes nothing.
use Rattle.std.specs.Prelude.{ℕ}
use Rattle.times.specs.declared.faults.TimeFault.{TimeFault}
use Rattle.times.specs.declared.faults.TimeFault.TheVariants.{NoSuchTime}

abbrev pub time_fault_number : TimeFault → ℕ
time_fault_number NoSuchTime = 0x23
