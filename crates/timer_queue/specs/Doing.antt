-- What a call of the queue does to the queue and its alarm. Assumes nothing.
--     state_with .. q a     the queue q with the alarm a, as the state that the calls are defined on
--     gives r s fs          the outcome of a call that answered r, left the state s and logged fs
--     written r log         the entries that an advance with the answer r wrote: as many as it fired, from the start of the log
--     unwritten r log       the later entries
--     Carries s e s'        a history that was lived with s is lived with s' once the event e is added, and the claims hold of it
--     Done .. call r fs d   the call came out as it is defined: the caller sees the answer r and the entries fs, and records the deed d
--     Leaves r ..           a refusal leaves the queue with all its slots, and the alarm's clock and due time, as they were
--     Greedily s t r fs     an accepted advance to t woke at the textbook greedy's points for the pending windows that end before t
use Rattle.std.specs.Prelude.{◌≡◌, ℕ, Bool, List, [], ◌∷◌, ◌++◌, length, take, drop, Ok, Err, filter, Option, Result}
use Rattle.times.specs.declared.order.Time.{Ghosts}
use Rattle.queue_rules.specs.declared.fault.QueueFault.{QueueFault}
use Rattle.queue_rules.specs.declared.firing.Firing.{Firing}
use Rattle.timer_queue.specs.declared.queue.TimerQueue.{TimerQueue}
use Rattle.queue_rules.specs.Calls.{State, Outcome}
use Rattle.queue_rules.specs.Claims.{Claims}
use Rattle.queue_rules.specs.Events.{Deed, Event, event, counts, Lived}
use Rattle.queue_rules.specs.Greedy.{Greedy, wake_times}
use Rattle.timer_queue.specs.Queues.{state_of}

abbrev pub gives : {R A : Type 0} → Result R QueueFault → State A → List (Firing A) → Outcome R A
gives r s fs = record { answer = r; left = s; logged = fs }

abbrev pub written : {X : Type 0} → Result (ℕ × ℕ) QueueFault → List X → List X
written r log = take (counts r).1 log

abbrev pub unwritten : {X : Type 0} → Result (ℕ × ℕ) QueueFault → List X → List X
unwritten r log = drop (counts r).1 log

module _ {A : Type 0} {G : Ghosts A} where
  abbrev pub Leaves : {R : Type 0} → Result R QueueFault → TimerQueue A G → TimerQueue A G → A → A → Option A → Option A → Type 0
  Leaves (Ok r) q q' c c' d d' = Unit {0}
  Leaves (Err f) q q' c c' d d' = (q' ≡ q) × (c' ≡ c) × (d' ≡ d)

  abbrev pub state_with : {S : Type 0} → (S → A) → (S → Option A) → TimerQueue A G → S → State A
  state_with clock due q a = state_of q (clock a) (due a)

module _ {A : Type 0} (before : A → A → Bool) where
  abbrev pub Carries : State A → Event A → State A → Type 0
  Carries s e s' =
      (u : ℕ) (c : A) (es : List (Event A)) → Lived before u c es s →
      Lived before u c (es ++ (e ∷ [])) s' × Claims before c (es ++ (e ∷ []))

  abbrev pub Greedily : State A → A → Result (ℕ × ℕ) QueueFault → List (Firing A) → Type 0
  Greedily s t (Ok n) fs = Greedy before (filter (λ x. before x.hard t) s.pending) (wake_times fs) × (n.0 ≡ length (wake_times fs))
  Greedily s t (Err f) fs = fs ≡ []

  module _ {G : Ghosts A} {S : Type 0} (clock : S → A) (due : S → Option A) (q q' : TimerQueue A G) (a a' : S) where
    pub record Done {R : Type 0} (call : State A → Outcome R A) (r : Result R QueueFault) (fs : List (Firing A)) (d : Deed A) : Type 0 where
      pub outcome : call (state_with clock due q a) ≡ gives r (state_with clock due q' a') fs
      pub history : Carries (state_with clock due q a) (event d (clock a')) (state_with clock due q' a')
