use Rattle.std.proofs.Common.{◌≡◌, ◌+◌, length}
use Rattle.queue_rules.specs.Timers.{Distinct}
use Rattle.timer_queue.specs.Held.{held_timers}
use Rattle.timer_queue.proofs.FiringLoop.{FiringOn}
use Rattle.timer_queue.proofs.serving.fire.Given as goal

abbrev pub invariant-loop-entry : goal.invariant-loop-entry
invariant-loop-entry g l =
    (l.entry-index + l.timers.count ≡ l.fn.timers.count)
    × (length (held_timers l.timers) + l.fn.timers.count ≡ length (held_timers l.fn.timers) + l.timers.count)
    × (Distinct (held_timers l.fn.timers) →
    FiringOn g.T.Time.before g.met.T.Time.ordered l.wake l.forcing 0 (held_timers l.fn.timers) l.fn.log
    l.entry-items l.entry-index (held_timers l.timers))
    × (length l.timers.slots.now ≡ length l.fn.timers.slots.now)
