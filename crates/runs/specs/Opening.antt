-- What an open frame asks for. Assumes nothing.
use Rattle.std.specs.Prelude.{ℕ, Bool, true, false, cond, ◌&&◌, is_some, Some, None, Ok, Err, Option, Result, ◌==◌}
use Rattle.frames.specs.declared.request.Request.{Request}
use Rattle.frames.specs.declared.request.Request.TheVariants.{Open, Arm, Cancel, Advance, Close, ArmByPurpose}
use Rattle.times.specs.declared.faults.TimeFault.TheVariants.{NoSuchTime}
use Rattle.times.specs.Ticks.{tick_at}
use Rattle.times.specs.DayTicks.{day_tick_reads}
use Rattle.runs.specs.declared.faults.RunFault.{RunFault}
use Rattle.runs.specs.declared.faults.RunFault.TheVariants.{Time, UnknownDevice, NotOpenedYet}
use Rattle.runs.specs.declared.opening.Opening.{Opening}
use Rattle.runs.specs.declared.opening.TimeKind.{TimeKind}
use Rattle.runs.specs.declared.opening.TimeKind.TheVariants.{Ticks, DayTicks}
use Rattle.runs.specs.declared.opening.Device.{Device}
use Rattle.runs.specs.declared.opening.Device.TheVariants.{Comparator, ChainedDownCounter, ChainedLowBitMatcher}

-- the kind of time of a number, and the device of one
abbrev pub kind_of : ℕ → Option TimeKind
kind_of n = cond (n == 0) (Some Ticks) (cond (n == 1) (Some DayTicks) None)

abbrev pub device_of : ℕ → Option Device
device_of n = cond (n == 0) (Some Comparator) (cond (n == 1) (Some ChainedDownCounter) (cond (n == 2) (Some ChainedLowBitMatcher) None))

-- whether a plain form is a time of a kind
abbrev pub is_time : TimeKind → ℕ → Bool
is_time Ticks n = is_some (tick_at n)
is_time DayTicks n = is_some (day_tick_reads n)

abbrev pub opening : Option TimeKind → Option Device → ℕ → Result Opening RunFault
opening None d start = Err UnknownDevice
opening (Some k) None start = Err UnknownDevice
opening (Some k) (Some d) start = cond (is_time k start) (Ok (record { kind = k; device = d; start = start })) (Err (Time NoSuchTime))

-- what a request opens a run with, or why it opens none
abbrev pub opens : Request → Result Opening RunFault
opens (Open kind device start) = opening (kind_of kind) (device_of device) start
opens (Arm number soft hard) = Err NotOpenedYet
opens (Cancel number) = Err NotOpenedYet
opens (Advance to) = Err NotOpenedYet
opens Close = Err NotOpenedYet
opens (ArmByPurpose number purpose) = Err NotOpenedYet

abbrev pub same_kind : TimeKind → TimeKind → Bool
same_kind Ticks Ticks = true
same_kind Ticks DayTicks = false
same_kind DayTicks Ticks = false
same_kind DayTicks DayTicks = true

-- whether an accepted open frame asked for this kind of time, and for a start at this clock
abbrev pub startable : Option Opening → TimeKind → ℕ → Bool
startable None k clock = false
startable (Some o) k clock = same_kind o.kind k && o.start == clock
