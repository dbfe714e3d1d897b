use Rattle.std.proofs.Common.{◌≡◌, ◌+◌, ◌≤◌, length}
use Rattle.timer_queue.specs.Held.{held_timers}
use Rattle.timer_queue.specs.Services.{Ready}
use Rattle.timer_queue.proofs.ServingLoop.{Serving}
use Rattle.timer_queue.proofs.advancing.serve.Given as goal

abbrev pub invariant-loop-t : goal.invariant-loop-t
invariant-loop-t g l =
    (l.wakes + l.timers.count ≤ l.initial.timers.count)
    × (length (held_timers l.timers) + l.initial.timers.count ≡ length (held_timers l.initial.timers) + l.timers.count)
    × (Ready g.T.Time.before l.initial.timers.count (held_timers l.initial.timers) (g.A.AlarmDevice.clock l.initial.alarm) (g.A.AlarmDevice.due l.initial.alarm) l.t →
    Serving g.T.Time.before g.met.T.Time.ordered l.t (held_timers l.initial.timers) l.initial.log
    l.wakes l.log (held_timers l.timers) (g.A.AlarmDevice.clock l.alarm) (g.A.AlarmDevice.due l.alarm))
    × (length l.timers.slots.now ≡ length l.initial.timers.slots.now)

abbrev pub decreases-loop-t : goal.decreases-loop-t
decreases-loop-t g l = l.timers.count
