-- A run that is open, over a queue. Assumes nothing.
--     Opened A           whether a close frame was accepted, and the state of the queue
--     Kind A             a kind of time: its order, the time of a plain form and the plain form of a time, and the time so many ticks on
--     carried-out ..     what a step does: it is one call of the queue, or the run is to be closed
--     open-line ..       a line to an open run, with so much room in the buffer and in the log
use Rattle.std.specs.Prelude.{ℕ, Bool, true, false, cond, List, map, length, Ok, Err, Option, Result}
use Rattle.times.specs.Places.{capped}
use Rattle.queue_rules.specs.declared.fault.QueueFault.{QueueFault}
use Rattle.queue_rules.specs.Calls.{State, Outcome, arming, cancelling, advancing}
use Rattle.runs.specs.declared.faults.RunFault.{RunFault}
use Rattle.runs.specs.declared.faults.RunFault.TheVariants.{Queue, NotNow}
use Rattle.runs.specs.declared.steps.Step.{Step}
use Rattle.runs.specs.declared.steps.Step.TheVariants.{Arm, Cancel, Advance, Close}
use Rattle.runs.specs.Frames.{firing_frame}
use Rattle.runs.specs.Hearing.{request_of, and_then}
use Rattle.runs.specs.Replies.{Tally, Effect, Reply, quiet, replied}
use Rattle.runs.specs.Steps.{step_of}

pub record Opened (A : Type 0) : Type 0 where
  pub closing : Bool
  pub queue : State A

pub record Kind (A : Type 0) : Type 0 where
  pub before : A → A → Bool
  pub reads : ℕ → Option A
  pub plain : A → ℕ
  pub ahead : A → ℕ → A

abbrev pub kind_by : {A : Type 0} → (A → A → Bool) → (ℕ → Option A) → (A → ℕ) → (A → ℕ) → (ℕ → Option A) → A → Kind A
kind_by before reads plain place at last = record { before = before; reads = reads; plain = plain; ahead = capped place at last }

-- a kind of time as a bound gives it
abbrev pub kind_of_time : {A : Type 0} → record { before : A → A → Bool; place : A → ℕ; at : ℕ → Option A; last : A; plain : A → ℕ; reads : ℕ → Option A } → Kind A
kind_of_time t = kind_by t.before t.reads t.plain t.place t.at t.last

module _ {A : Type 0} (k : Kind A) where
  -- what a call of the queue does that answers these wake-ups and firings
  abbrev pub effect_of : {R : Type 0} → (R → ℕ × ℕ) → Result R QueueFault → Outcome R A → Result (Effect (Opened A)) RunFault
  effect_of counts (Ok r) o =
      Ok (record { left = record { closing = false; queue = o.left }; wakes = (counts r).0; firings = (counts r).1; log = map (firing_frame k.plain) o.logged })
  effect_of counts (Err f) o = Err (Queue f)

  abbrev pub called : {R : Type 0} → (R → ℕ × ℕ) → Outcome R A → Result (Effect (Opened A)) RunFault
  called counts o = effect_of counts o.answer o

  abbrev pub carried_out : ℕ → State A → Step A → Result (Effect (Opened A)) RunFault
  carried_out log q (Arm x) = called (λ _. (0, 0)) (arming k.before q x)
  carried_out log q (Cancel n) = called (λ _. (0, 0)) (cancelling k.before q n)
  carried_out log q (Advance t) = called (λ n. n) (advancing k.before q t log)
  carried_out log q Close = Ok (quiet (record { closing = true; queue = q }))

  -- the step that a line asks for
  abbrev pub step_in : Bool → A → List ℕ → Result (Step A) RunFault
  step_in closing clock line = cond closing (Err NotNow) (and_then (request_of line) (step_of k.reads k.ahead clock))

  abbrev pub open_line : ℕ → ℕ → Tally → Opened A → List ℕ → Reply (Opened A)
  open_line room log t s line =
      replied room (length s.queue.pending) t s (and_then (step_in s.closing s.queue.clock line) (carried_out log s.queue))
