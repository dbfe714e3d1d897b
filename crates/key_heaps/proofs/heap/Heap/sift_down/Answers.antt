use Rattle.std.proofs.Common.{◌≡◌, ◌+◌, true, false, Some, ap, subst, arith}
use Rattle.heap_links.specs.Columns.{timers, slot_at}
use Rattle.key_heaps.specs.HeapOrder.{FirstChild}
use Rattle.key_heaps.specs.Sooner.{precedes}
use Rattle.key_heaps.specs.Levels.{log2}
use Rattle.key_heaps.proofs.Halving.{log2_le, log2_falls}
use Rattle.key_heaps.proofs.Orders.{precedes_ranks}
use Rattle.key_heaps.proofs.Sifting.{moved_exchanged, down_steps, down_rests}
use Rattle.key_heaps.proofs.heap.Heap.sift_down.Goals as goal

pub returns-then-not-precedes-clause-ordered : goal.returns-then-not-precedes-clause-ordered
returns-then-not-precedes-clause-ordered g c =
    let xs = c.args.self.now.slots.now in
    let lt = precedes g.T.Time.before g.K.Key.time in
    let b = slot_at g.K.Key.link c.loop-child.self.slots.now in
    let p = c.loop-child.p in
    let k = c.in-Some.child in
    let n = c.args.self.now.count in
    let was = c.loop-child.invariant in
    let child = subst (λ n. FirstChild (lt (timers xs)) b p n (Some k)) was.same_count (subst (λ ts. FirstChild (lt ts) b p c.loop-child.self.count (Some k)) was.moved.kept.timers c.in-Some.ensures) in
    let stays : lt (timers xs) (b k) (b p) ≡ false = cc in
    let ranks = precedes_ranks g.T.Time.before g.K.Key.time g.met.T.Time.ordered (timers xs) in
    down_rests (lt (timers xs)) ranks (slot_at g.K.Key.link xs) b c.args.from p k n child stays was.going_down

pub loop-child-preserved : goal.loop-child-preserved
loop-child-preserved g c =
    let xs = c.args.self.now.slots.now in
    let ys = c.loop-child.self.slots.now in
    let zs = c.exchange.new.self.slots.now in
    let link = g.K.Key.link in
    let lt = precedes g.T.Time.before g.K.Key.time in
    let b = slot_at link ys in
    let p = c.loop-child.p in
    let k = c.in-Some.child in
    let n = c.args.self.now.count in
    let was = c.loop-child.invariant in
    let child = subst (λ n. FirstChild (lt (timers xs)) b p n (Some k)) was.same_count (subst (λ ts. FirstChild (lt ts) b p c.loop-child.self.count (Some k)) was.moved.kept.timers c.in-Some.ensures) in
    let goes : lt (timers xs) (b k) (b p) ≡ true = cc in
    let ranks = precedes_ranks g.T.Time.before g.K.Key.time g.met.T.Time.ordered (timers xs) in
    let x = c.exchange.ensures in
    record {
      same_reference = cc;
      same_count = cc;
      within = child.1;
      moved = moved_exchanged link g.K.Key.other n xs ys zs p k was.within child.1 c.exchange.new.self.linked x.swapped x.kept was.moved;
      going_down = down_steps (lt (timers xs)) ranks (slot_at link xs) b (slot_at link zs) c.args.from p k n child goes x.swapped was.going_down;
    }

pub loop-child-smaller : goal.loop-child-smaller
loop-child-smaller g c =
    let p = c.loop-child.p in
    let k = c.in-Some.child in
    let child = c.in-Some.ensures in
    let low = child.0.low in
    let falls = log2_falls (p + 1) (k + 1) (omega arith) (omega arith) in
    omega (arith, ap log2 c.exchange.ensures.count, falls, log2_le (k + 1) c.loop-child.self.count (omega (arith, child.1)))
