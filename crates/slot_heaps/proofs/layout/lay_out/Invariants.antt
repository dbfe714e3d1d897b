use Rattle.std.proofs.Common.{◌≡◌}
use Rattle.heap_links.specs.Columns.{timers}
use Rattle.heap_links.specs.Links.{Straight}
use Rattle.slot_heaps.specs.Pending.{by_hard, by_soft}
use Rattle.slot_heaps.proofs.layout.lay_out.Given as goal

abbrev pub invariant-loop-i : goal.invariant-loop-i
invariant-loop-i g l = record {
  hard : Straight by_hard l.i l.slots;
  soft : Straight by_soft l.i l.slots;
  timers : timers l.slots ≡ timers l.initial.slots;
}
