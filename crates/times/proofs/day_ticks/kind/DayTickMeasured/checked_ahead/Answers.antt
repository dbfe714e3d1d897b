use Rattle.std.proofs.Common.{◌≡◌, ◌∙◌, rules, sym}
use Rattle.times.specs.DayTimes.{day_tick_made}
use Rattle.times.proofs.day_ticks.kind.DayTickMeasured.checked_ahead.Goals as goal

pub returns-clause-value : goal.returns-clause-value
returns-clause-value c =
    let carried = c.carry-day.ensures in
    let fits : c.in_ok-day.day ≡ c.carry-day.result.0 = search rules in
    sym (day_tick_made _ _ _ (fits ∙ carried.day) carried.tick)
