-- The number of each refusal of an alarm. Assumes nothing.
use Rattle.std.specs.Prelude.{ℕ}
use Rattle.alarms.specs.declared.faults.AlarmFault.{AlarmFault}
use Rattle.alarms.specs.declared.faults.AlarmFault.TheVariants.{BeforeClock, BeyondReach}

abbrev pub alarm_fault_number : AlarmFault → ℕ
alarm_fault_number BeforeClock = 0x01
alarm_fault_number BeyondReach = 0x02
