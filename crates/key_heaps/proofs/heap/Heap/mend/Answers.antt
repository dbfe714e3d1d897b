use Rattle.std.proofs.Common.{arith}
use Rattle.heap_links.specs.Columns.{timers, slot_at}
use Rattle.key_heaps.specs.Sifts.{order}
use Rattle.key_heaps.proofs.Orders.{precedes_ranks}
use Rattle.key_heaps.proofs.Sifting.{rising_under}
use Rattle.key_heaps.proofs.heap.Heap.mend.Goals as goal

pub returns-then-rises-clause-ordered : goal.returns-then-rises-clause-ordered
returns-then-rises-clause-ordered g c =
    let xs = c.args.self.now.slots.now in
    let lt = order g.T.Time.before g.K.Key.time xs in
    let p = c.args.p in
    let n = c.args.self.now.count in
    let ranks = precedes_ranks g.T.Time.before g.K.Key.time g.met.T.Time.ordered (timers xs) in
    λ gap. c.sift_up.ensures.ordered n (omega arith) gap (rising_under lt ranks (slot_at g.K.Key.link xs) p n c.if-rises.ensures gap)
