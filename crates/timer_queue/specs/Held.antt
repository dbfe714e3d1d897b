-- The timers that lie in pending slots. Assumes nothing.
--     held_timers p       the pending timers, in order of the slots
use Rattle.std.specs.Prelude.{List}
use Rattle.heap_links.specs.declared.timer.Timer.{Timer}
use Rattle.slot_heaps.specs.Pending.{listed}
use Rattle.slot_heaps.specs.declared.pending.PendingTimers.{PendingTimers}
use Rattle.times.specs.declared.order.Time.{Ghosts}

abbrev pub held_timers : {A : Type 0} {G : Ghosts A} → PendingTimers A G → List (Timer A)
held_timers p = listed p.count p.slots.now
