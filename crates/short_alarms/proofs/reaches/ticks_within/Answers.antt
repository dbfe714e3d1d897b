use Rattle.std.proofs.Common.{◌≡◌, ◌+◌, sym, arith, rules}
use Rattle.times.proofs.Measures.{at_place, measure}
use Rattle.short_alarms.proofs.reaches.ticks_within.Goals as goal

pub returns-in-Ok-clause-value : goal.returns-in-Ok-clause-value
returns-in-Ok-clause-value g c =
    let m = measure g.met.T.Time.ordered c.place.ensures.agrees g.met.T.Measured.placed in
    let place = g.T.Measured.place in
    let fits : c.in-Ok.ticks ≡ c.in_ok-ticks.ticks = search rules in
    let apart : c.place-2.result + c.in_ok-ticks.ticks ≡ c.place.result = search rules in
    let exact : place c.args.clock + c.in-Ok.ticks ≡ place c.args.t = omega (arith, fits, apart, c.place.ensures.value, c.place-2.ensures.value) in
    let there = at_place m _ c.args.t (sym exact) in
    search rules
