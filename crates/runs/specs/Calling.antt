-- A line to an open run, over a queue and its alarm. Assumes nothing.
--     opened_with b q a     an open run as the definitions have it: whether a close frame was accepted, and the queue with its alarm
--     line_effect ..        what a line does that is counted, or why it is refused
--     effect_left e s       what the run keeps after that
--     step_events ..        the events of the calls that a step makes: one, or none
--     line_events ..        the events of the calls that a line makes
--     CarriesOn s es s'    a history that was lived with s is lived with s' once the events es are added, and the claims hold of it
--     Started ..            the queue was started with the alarm, whose clock stays: nothing is pending, and a history begins
--     Untouched ..          a refused line leaves the queue with all its slots, the alarm's clock and due time, and the log
use Rattle.std.specs.Prelude.{◌≡◌, ℕ, Bool, List, [], ◌∷◌, ◌++◌, length, Some, None, Ok, Err, Option, Result}
use Rattle.times.specs.declared.order.Time.{Ghosts}
use Rattle.alarms.specs.Meaning.{Clears}
use Rattle.queue_rules.specs.declared.firing.Firing.{Firing}
use Rattle.queue_rules.specs.Calls.{State}
use Rattle.queue_rules.specs.Claims.{Claims}
use Rattle.queue_rules.specs.Events.{Event, arm_event, cancel_event, advance_event, Lived}
use Rattle.timer_queue.specs.declared.queue.TimerQueue.{TimerQueue}
use Rattle.timer_queue.specs.Doing.{state_with}
use Rattle.timer_queue.specs.Queues.{queue_timers}
use Rattle.runs.specs.declared.faults.RunFault.{RunFault}
use Rattle.runs.specs.declared.steps.Step.{Step}
use Rattle.runs.specs.declared.steps.Step.TheVariants.{Arm, Cancel, Advance, Close}
use Rattle.runs.specs.Hearing.{and_then}
use Rattle.runs.specs.Opened.{Opened, Kind, carried_out, step_in}
use Rattle.runs.specs.Replies.{Tally, Effect, unanswered}

abbrev pub opened_with : {S A : Type 0} {G : Ghosts A} → (S → A) → (S → Option A) → Bool → TimerQueue A G → S → Opened A
opened_with clock due closing q a = record { closing = closing; queue = state_with clock due q a }

abbrev pub effect_left : {S : Type 0} → Result (Effect S) RunFault → S → S
effect_left (Ok e) s = e.left
effect_left (Err f) s = s

abbrev pub Untouched : {R E A : Type 0} {G : Ghosts A} → Result R E → TimerQueue A G → TimerQueue A G → A → A → Option A → Option A → List (Firing A) → List (Firing A) → Type 0
Untouched (Ok r) q q' c c' d d' l l' = Unit {0}
Untouched (Err f) q q' c c' d d' l l' = (q' ≡ q) × (c' ≡ c) × (d' ≡ d) × (l' ≡ l)

module _ {A : Type 0} (k : Kind A) where
  abbrev pub line_effect : ℕ → Opened A → List ℕ → Result (Effect (Opened A)) RunFault
  line_effect log s line = and_then (step_in k s.closing s.queue.clock line) (carried_out k log s.queue)

  abbrev pub step_events : ℕ → State A → Step A → List (Event A)
  step_events log q (Arm x) = arm_event k.before q x ∷ []
  step_events log q (Cancel n) = cancel_event k.before q n ∷ []
  step_events log q (Advance t) = advance_event k.before q t log ∷ []
  step_events log q Close = []

  abbrev pub heard_events : ℕ → State A → Result (Step A) RunFault → List (Event A)
  heard_events log q (Ok step) = step_events log q step
  heard_events log q (Err f) = []

  abbrev pub events_unless : Option RunFault → List (Event A) → List (Event A)
  events_unless (Some f) es = []
  events_unless None es = es

  abbrev pub line_events : ℕ → ℕ → Tally → Opened A → List ℕ → List (Event A)
  line_events room log t s line =
      events_unless (unanswered room (length s.queue.pending) t) (heard_events log s.queue (step_in k s.closing s.queue.clock line))

  abbrev pub CarriesOn : State A → List (Event A) → State A → Type 0
  CarriesOn s es s' =
      (u : ℕ) (c : A) (past : List (Event A)) → Lived k.before u c past s →
      Lived k.before u c (past ++ es) s' × Claims k.before c (past ++ es)

pub record Started {S A : Type 0} {G : Ghosts A} (before : A → A → Bool) (clock : S → A) (due : S → Option A) (q q' : TimerQueue A G) (a a' : S) : Type 0 where
  pub timers : queue_timers q' ≡ []
  pub alarm : Clears clock due a a'
  pub history : Lived before (length q.timers.slots.now) (clock a) [] (state_with clock due q' a')
