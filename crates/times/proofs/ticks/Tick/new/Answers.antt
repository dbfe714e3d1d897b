use Rattle.std.proofs.Common.{Option, sym, ap}
use Rattle.std.specs.Option.{ok_or}
use Rattle.times.specs.declared.faults.TimeFault.TheVariants.{NoSuchTime}
use Rattle.times.specs.declared.ticks.Tick.{Tick}
use Rattle.times.specs.TickTimes.{tick_found}
use Rattle.times.proofs.ticks.Tick.new.Goals as goal

pub returns : goal.returns
returns c = sym (ap (λ (o : Option Tick). ok_or o NoSuchTime) (tick_found _))
