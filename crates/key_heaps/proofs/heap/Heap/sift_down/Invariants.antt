use Rattle.std.proofs.Common.{◌≡◌, ◌+◌, ◌-◌, ◌<◌}
use Rattle.heap_links.specs.Columns.{slot_at}
use Rattle.key_heaps.specs.Levels.{log2}
use Rattle.heap_links.specs.Links.{Moved}
use Rattle.key_heaps.specs.Sifts.{order}
use Rattle.key_heaps.proofs.Sifting.{GoingDown}
use Rattle.key_heaps.proofs.heap.Heap.sift_down.Given as goal

abbrev pub invariant-loop-child : goal.invariant-loop-child
invariant-loop-child g l =
    let xs = l.initial.self.slots.now in
    let ys = l.self.slots.now in
    let count = l.initial.self.count in
    record {
      same_reference : l.self.slots.ghost_name ≡ l.initial.self.slots.ghost_name;
      same_count : l.self.count ≡ count;
      within : l.p < count;
      moved : Moved g.K.Key.link g.K.Key.other count xs ys;
      going_down : GoingDown (order g.T.Time.before g.K.Key.time xs) count (slot_at g.K.Key.link xs) l.from (slot_at g.K.Key.link ys) l.p;
    }

abbrev pub decreases-loop-child : goal.decreases-loop-child
decreases-loop-child g l = log2 l.self.count - log2 (l.p + 1)
