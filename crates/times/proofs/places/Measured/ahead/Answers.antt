use Rattle.std.proofs.Common.{rules}
use Rattle.times.proofs.Measures.{measure, same_place}
use Rattle.times.proofs.places.Measured.ahead.Goals as goal

pub returns-clause-value : goal.returns-clause-value
returns-clause-value g c =
    let m = measure g.met.Self.Time.ordered c.checked_ahead.ensures.agrees g.met.Self.Measured.placed in
    let same = same_place m c.last.result g.Self.Measured.last c.last.ensures in
    search rules
