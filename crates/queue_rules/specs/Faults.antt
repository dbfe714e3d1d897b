-- The number by which each refusal of the queue is reported. Assumes nothing.
use Rattle.std.specs.Prelude.{ℕ}
use Rattle.queue_rules.specs.declared.fault.QueueFault.{QueueFault}
use Rattle.queue_rules.specs.declared.fault.QueueFault.TheVariants.{AlarmMoved, HardBeforeSoft, SoftPassed, NumberPending, QueueFull, NotPending, AdvancePassed, LogShort}

abbrev pub numeral : QueueFault → ℕ
numeral AlarmMoved = 0x31
numeral HardBeforeSoft = 0x32
numeral SoftPassed = 0x33
numeral NumberPending = 0x34
numeral QueueFull = 0x35
numeral NotPending = 0x36
numeral AdvancePassed = 0x37
numeral LogShort = 0x38
