-- A queue as a state. Assumes nothing.
--     queue_timers q      the pending timers, in order of the slots
--     Spared q q'         as many slots are usable, and those past them are as they were
--     state_of q c d      the queue with an alarm at clock c that is due at d, as the state that the calls are defined on
use Rattle.std.specs.Prelude.{◌≡◌, List, length, Option}
use Rattle.heap_links.specs.declared.timer.Timer.{Timer}
use Rattle.times.specs.declared.order.Time.{Ghosts}
use Rattle.timer_queue.specs.declared.queue.TimerQueue.{TimerQueue}
use Rattle.queue_rules.specs.Calls.{State}
use Rattle.timer_queue.specs.Held.{held_timers}
use Rattle.timer_queue.specs.Views.{view}

module _ {A : Type 0} {G : Ghosts A} where
  abbrev pub queue_timers : TimerQueue A G → List (Timer A)
  queue_timers q = held_timers q.timers

  abbrev pub state_of : TimerQueue A G → A → Option A → State A
  state_of q c d = view (length q.timers.slots.now) (queue_timers q) c d

  pub record Spared (q q' : TimerQueue A G) : Type 0 where
    pub usable : length q'.timers.slots.now ≡ length q.timers.slots.now
    pub spare : q'.spare.now ≡ q.spare.now
