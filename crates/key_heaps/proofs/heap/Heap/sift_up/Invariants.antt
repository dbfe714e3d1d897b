use Rattle.std.proofs.Common.{◌≡◌, ◌+◌, ◌≤◌}
use Rattle.heap_links.specs.Columns.{slot_at}
use Rattle.key_heaps.specs.Levels.{log2}
use Rattle.heap_links.specs.Links.{Moved}
use Rattle.key_heaps.specs.Sifts.{order}
use Rattle.key_heaps.proofs.Sifting.{GoingUp}
use Rattle.key_heaps.proofs.heap.Heap.sift_up.Given as goal

abbrev pub invariant-loop-parent : goal.invariant-loop-parent
invariant-loop-parent g l =
    let xs = l.initial.self.slots.now in
    let ys = l.self.slots.now in
    record {
      same_reference : l.self.slots.ghost_name ≡ l.initial.self.slots.ghost_name;
      rising : l.p ≤ l.from;
      moved : Moved g.K.Key.link g.K.Key.other (l.from + 1) xs ys;
      going_up : GoingUp (order g.T.Time.before g.K.Key.time xs) (slot_at g.K.Key.link xs) l.from (slot_at g.K.Key.link ys) l.p;
    }

abbrev pub decreases-loop-parent : goal.decreases-loop-parent
decreases-loop-parent g l = log2 (l.p + 1)
