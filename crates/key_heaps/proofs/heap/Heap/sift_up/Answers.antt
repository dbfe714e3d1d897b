use Rattle.std.proofs.Common.{◌+◌, ◌-◌, ◌/◌, ◌<◌, true, subst, arith}
use Rattle.heap_links.specs.Columns.{timers, slot_at}
use Rattle.key_heaps.specs.HeapOrder.{Rising}
use Rattle.key_heaps.specs.Sooner.{precedes}
use Rattle.key_heaps.proofs.Halving.{log2_falls}
use Rattle.key_heaps.proofs.Orders.{precedes_ranks}
use Rattle.key_heaps.proofs.Sifting.{moved_exchanged, up_steps}
use Rattle.key_heaps.proofs.heap.Heap.sift_up.Goals as goal

pub loop-parent-preserved : goal.loop-parent-preserved
loop-parent-preserved g c =
    let xs = c.args.self.now.slots.now in
    let ys = c.loop-parent.self.slots.now in
    let zs = c.exchange.new.self.slots.now in
    let link = g.K.Key.link in
    let lt = precedes g.T.Time.before g.K.Key.time in
    let p = c.loop-parent.p in
    let was = c.loop-parent.invariant in
    let goes = subst (λ ts. Rising (lt ts) (slot_at link ys) p true) was.moved.kept.timers c.loop-parent-test.ensures in
    let ranks = precedes_ranks g.T.Time.before g.K.Key.time g.met.T.Time.ordered (timers xs) in
    let x = c.exchange.ensures in
    record {
      same_reference = cc;
      rising = omega arith;
      moved = moved_exchanged link g.K.Key.other _ xs ys zs ((p - 1) / 2) p (omega arith) (omega arith) c.exchange.new.self.linked x.swapped x.kept was.moved;
      going_up = up_steps (lt (timers xs)) ranks (slot_at link xs) (slot_at link ys) (slot_at link zs) c.args.from p was.rising goes x.swapped was.going_up;
    }

pub loop-parent-smaller : goal.loop-parent-smaller
loop-parent-smaller g c =
    let p = c.loop-parent.p in
    let up : 0 < p = c.loop-parent-test.ensures.0 in
    log2_falls ((p - 1) / 2 + 1) (p + 1) (omega arith) (omega arith)
