use Rattle.std.proofs.Common.{Option, sym, refl, ap}
use Rattle.std.specs.Option.{ok_or}
use Rattle.times.specs.declared.faults.TimeFault.TheVariants.{NoSuchTime}
use Rattle.times.specs.declared.day_ticks.DayTick.{DayTick}
use Rattle.times.specs.DayTimes.{day_tick_made}
use Rattle.times.proofs.day_ticks.DayTick.new.Goals as goal

pub returns : goal.returns
returns c = sym (ap (λ (o : Option DayTick). ok_or o NoSuchTime) (day_tick_made _ c.args.day c.args.tick refl refl))
