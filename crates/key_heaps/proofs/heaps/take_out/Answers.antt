use Rattle.std.proofs.Common.{rules, ◌+◌, ◌≤◌, false, length, sym, ap, ◌∙◌, subst, arith}
use Rattle.heap_links.specs.Columns.{timers, slot_at, place_of}
use Rattle.heap_links.specs.Links.{Moved}
use Rattle.key_heaps.specs.HeapOrder.{Ordered}
use Rattle.key_heaps.specs.Members.{Marked}
use Rattle.key_heaps.specs.Sifts.{Mends, Heaped}
use Rattle.key_heaps.specs.Sooner.{precedes}
use Rattle.key_heaps.proofs.Gaps.{leaves, leaves_last}
use Rattle.key_heaps.proofs.Marking.{marked_left}
use Rattle.key_heaps.proofs.Orders.{precedes_ranks}
use Rattle.key_heaps.proofs.Sifting.{unmoved, heaped_there}
use Rattle.key_heaps.proofs.heaps.take_out.Goals as goal

pub returns-then-p-left-clause-marked : goal.returns-then-p-left-clause-marked
returns-then-p-left-clause-marked g c =
    let xs = c.over-heap.result.slots.now in
    let zs = c.mend.new.self.slots.now in
    let n = c.args.left in
    let x = c.exchange.ensures in
    let same = ap length c.over-heap.ensures.slots in
    let v = subst (λ m. Moved g.K.Key.link g.K.Key.other m c.exchange.new.self.slots.now zs) (x.count ∙ c.over-heap.ensures.count) c.mend.ensures.moved in
    let m : Marked g.K.Key.link g.K.Key.other c.args.slot false (n + 1) n xs zs =
    marked_left g.K.Key.link g.K.Key.other xs c.exchange.new.self.slots.now zs c.args.slot c.place_of-p.result n c.place_of-p.ensures.value
    (omega (arith, same, c.requires.within)) (omega (arith, same, c.requires.fits))
    c.over-heap.result.linked x.kept c.exchange.new.self.linked x.moved (omega arith) v in
    search rules

pub returns-then-p-left-clause-ordered : goal.returns-then-p-left-clause-ordered
returns-then-p-left-clause-ordered g c = λ h.
    let before = g.T.Time.before in
    let time = g.K.Key.time in
    let link = g.K.Key.link in
    let xs = c.over-heap.result.slots.now in
    let ys = c.exchange.new.self.slots.now in
    let zs = c.mend.new.self.slots.now in
    let n = c.args.left in
    let p = c.place_of-p.result in
    let lt = precedes before time (timers ys) in
    let was = heaped_there before time link c.args.slots.now xs (n + 1) c.over-heap.ensures.slots h in
    let gap = leaves lt (slot_at link xs) (slot_at link ys) p n c.exchange.ensures.swapped (precedes_ranks before time g.met.T.Time.ordered (timers ys)) (omega arith)
    (subst (λ ts. Ordered (precedes before time ts) (slot_at link xs) (n + 1)) (sym c.exchange.ensures.kept.timers) was) in
    let mends = subst (λ m. Mends lt (slot_at link ys) p m (slot_at link zs)) (c.exchange.ensures.count ∙ c.over-heap.ensures.count) c.mend.ensures.ordered in
    let now : Heaped before time link zs n =
    subst (λ ts. Ordered (precedes before time ts) (slot_at link zs) n) (sym c.mend.ensures.moved.kept.timers) (mends gap) in
    heaped_there before time link zs _ n (search rules) now

pub returns-else-p-left-clause-marked : goal.returns-else-p-left-clause-marked
returns-else-p-left-clause-marked g c =
    let xs = c.over-heap.result.slots.now in
    let zs = c.exchange.new.self.slots.now in
    let n = c.args.left in
    let x = c.exchange.ensures in
    let same = c.over-heap.ensures.slots in
    let there : c.place_of-p.result ≤ n = omega (arith, c.place_of-p.ensures.value, ap (λ ws. place_of g.K.Key.link ws c.args.slot) same) in
    let m : Marked g.K.Key.link g.K.Key.other c.args.slot false (n + 1) n xs zs =
    marked_left g.K.Key.link g.K.Key.other xs zs zs c.args.slot c.place_of-p.result n c.place_of-p.ensures.value
    (omega (arith, ap length same, c.requires.within)) (omega (arith, ap length same, c.requires.fits))
    c.over-heap.result.linked x.kept c.exchange.new.self.linked x.moved there (unmoved g.K.Key.link g.K.Key.other n zs c.exchange.new.self.linked) in
    search rules

pub returns-else-p-left-clause-ordered : goal.returns-else-p-left-clause-ordered
returns-else-p-left-clause-ordered g c = λ h.
    let before = g.T.Time.before in
    let time = g.K.Key.time in
    let link = g.K.Key.link in
    let xs = c.over-heap.result.slots.now in
    let ys = c.exchange.new.self.slots.now in
    let n = c.args.left in
    let was = heaped_there before time link c.args.slots.now xs (n + 1) c.over-heap.ensures.slots h in
    let now : Heaped before time link ys n =
    leaves_last (precedes before time (timers ys)) (slot_at link xs) (slot_at link ys) c.place_of-p.result n c.exchange.ensures.swapped (omega arith)
    (subst (λ ts. Ordered (precedes before time ts) (slot_at link xs) (n + 1)) (sym c.exchange.ensures.kept.timers) was) in
    heaped_there before time link ys _ n (search rules) now
