use Rattle.std.proofs.Common.{rules, ◌+◌, true, length, sym, ap, subst, arith}
use Rattle.heap_links.specs.Columns.{timers, slot_at, place_of}
use Rattle.heap_links.proofs.Lengths.{kept_length}
use Rattle.key_heaps.specs.HeapOrder.{Ordered}
use Rattle.key_heaps.specs.Members.{Marked}
use Rattle.key_heaps.specs.Sifts.{Heaped}
use Rattle.key_heaps.specs.Sooner.{precedes}
use Rattle.key_heaps.proofs.Gaps.{enters}
use Rattle.key_heaps.proofs.Marking.{marked_entered}
use Rattle.key_heaps.proofs.Sifting.{heaped_there}
use Rattle.key_heaps.proofs.heaps.push.Goals as goal

pub sift_up-requires : goal.sift_up-requires
sift_up-requires g c =
    let same = ap (λ ws. place_of g.K.Key.link ws c.args.slot) c.over-heap.ensures.slots in
    omega (arith, kept_length g.K.Key.other _ _ c.exchange.ensures.kept)

pub returns-clause-marked : goal.returns-clause-marked
returns-clause-marked g c =
    let xs = c.over-heap.result.slots.now in
    let zs = c.sift_up.new.self.slots.now in
    let n = c.args.count in
    let p = c.place_of-p.result in
    let x = c.exchange.ensures in
    let same = c.over-heap.ensures.slots in
    let there = c.requires.linked.1 c.args.slot c.requires.within in
    let m : Marked g.K.Key.link g.K.Key.other c.args.slot true n (n + 1) xs zs =
    marked_entered g.K.Key.link g.K.Key.other xs c.exchange.new.self.slots.now zs c.args.slot p n c.place_of-p.ensures.value
    (omega (arith, ap length same, c.requires.within)) (omega (arith, ap length same, there.0))
    c.over-heap.result.linked x.kept c.exchange.new.self.linked x.moved
    (omega (arith, c.place_of-p.ensures.value, ap (λ ws. place_of g.K.Key.link ws c.args.slot) same)) c.sift_up.ensures.moved in
    search rules

pub returns-clause-ordered : goal.returns-clause-ordered
returns-clause-ordered g c = λ h.
    let before = g.T.Time.before in
    let time = g.K.Key.time in
    let link = g.K.Key.link in
    let xs = c.over-heap.result.slots.now in
    let ys = c.exchange.new.self.slots.now in
    let zs = c.sift_up.new.self.slots.now in
    let n = c.args.count in
    let same = c.over-heap.ensures.slots in
    let was = heaped_there before time link c.args.slots.now xs n same h in
    let gap = enters (precedes before time (timers ys)) (slot_at link xs) (slot_at link ys) c.place_of-p.result n c.exchange.ensures.swapped
    (omega (arith, c.place_of-p.ensures.value, ap (λ ws. place_of link ws c.args.slot) same))
    (subst (λ ts. Ordered (precedes before time ts) (slot_at link xs) n) (sym c.exchange.ensures.kept.timers) was) in
    let now : Heaped before time link zs (n + 1) =
    subst (λ ts. Ordered (precedes before time ts) (slot_at link zs) (n + 1)) (sym c.sift_up.ensures.moved.kept.timers)
    (c.sift_up.ensures.ordered (n + 1) (omega arith) gap.0 gap.1) in
    heaped_there before time link zs _ (n + 1) (search rules) now
