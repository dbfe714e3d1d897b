-- A line carries every history of the queue on, by the events of the calls that it makes.
use Rattle.std.proofs.Common.{◌≡◌, ℕ, List, [], ◌∷◌, ◌++◌, length, Some, None, Ok, Err, Option, Result, sym, refl, subst, append-nil}
use Rattle.times.specs.Order.{StrictOrder}
use Rattle.queue_rules.specs.declared.fault.QueueFault.{QueueFault}
use Rattle.queue_rules.specs.declared.firing.Firing.{Firing}
use Rattle.queue_rules.specs.Calls.{State, conclude, arm_fault, cancel_fault, advance_fault}
use Rattle.queue_rules.specs.Events.{Event, arm_event, cancel_event, advance_event, Lived, armed_next, cancelled_next, advanced_next}
use Rattle.queue_rules.proofs.Claiming.{claims_hold}
use Rattle.runs.specs.declared.faults.RunFault.{RunFault}
use Rattle.runs.specs.declared.steps.Step.{Step}
use Rattle.runs.specs.declared.steps.Step.TheVariants.{Arm, Cancel, Advance, Close}
use Rattle.runs.specs.Calling.{effect_left, step_events, heard_events, events_unless, line_events, CarriesOn}
use Rattle.runs.specs.Hearing.{and_then}
use Rattle.runs.specs.Opened.{Opened, Kind, called, carried_out, step_in, open_line}
use Rattle.runs.specs.Replies.{Tally, unanswered, heard, unless}

module _ {A : Type 0} (k : Kind A) (o : StrictOrder k.before) where
  abbrev Onward : State A → List (Event A) → State A → Type 0
  Onward q es q' = (u : ℕ) (c : A) (past : List (Event A)) → Lived k.before u c past q → Lived k.before u c (past ++ es) q'

  -- the run keeps the state that the call left, refused or not
  call_left : {R : Type 0} (counts : R → ℕ × ℕ) (f : Option QueueFault) (s : Opened A) (r : R) (q' : State A) (es : List (Firing A)) →
      (conclude f s.queue r q' es).left ≡ (effect_left (called k counts (conclude f s.queue r q' es)) s).queue
  call_left counts None s r q' es = refl
  call_left counts (Some f) s r q' es = refl

  nothing_more : (q : State A) → Onward q [] q
  nothing_more q u c past l = subst (λ (es : List (Event A)). Lived k.before u c es q) (sym (append-nil past)) l

  step_onward : (log : ℕ) (s : Opened A) (step : Step A) → Onward s.queue (step_events k log s.queue step) (effect_left (carried_out k log s.queue step) s).queue
  step_onward log s (Arm x) u c past l =
      subst (Lived k.before u c (past ++ (arm_event k.before s.queue x ∷ []))) (call_left _ (arm_fault k.before s.queue x) s _ _ _) (armed_next l x)
  step_onward log s (Cancel n) u c past l =
      subst (Lived k.before u c (past ++ (cancel_event k.before s.queue n ∷ []))) (call_left _ (cancel_fault k.before s.queue n) s _ _ _) (cancelled_next l n)
  step_onward log s (Advance t) u c past l =
      subst (Lived k.before u c (past ++ (advance_event k.before s.queue t log ∷ []))) (call_left _ (advance_fault k.before s.queue t log) s _ _ _) (advanced_next l t log)
  step_onward log s Close u c past l = nothing_more s.queue u c past l

  heard_onward : (log : ℕ) (t : Tally) (s : Opened A) (r : Result (Step A) RunFault) →
      Onward s.queue (heard_events k log s.queue r) (heard t s (and_then r (carried_out k log s.queue))).left.queue
  heard_onward log t s (Err f) = nothing_more s.queue
  heard_onward log t s (Ok step) = by (carried_out k log s.queue step) (step_onward log s step)
    where
      by : (e : Result _ RunFault) → Onward s.queue (step_events k log s.queue step) (effect_left e s).queue →
          Onward s.queue (step_events k log s.queue step) (heard t s e).left.queue
      by (Ok e) h = h
      by (Err f) h = h

  line_onward : (log : ℕ) (t : Tally) (s : Opened A) (f : Option RunFault) (r : Result (Step A) RunFault) →
      Onward s.queue (events_unless k f (heard_events k log s.queue r)) (unless f t s (heard t s (and_then r (carried_out k log s.queue)))).left.queue
  line_onward log t s None r = heard_onward log t s r
  line_onward log t s (Some f) r = nothing_more s.queue

  pub line_carries : (room log : ℕ) (t : Tally) (s : Opened A) (line : List ℕ) (q' : State A) → q' ≡ (open_line k room log t s line).left.queue →
      CarriesOn k s.queue (line_events k room log t s line) q'
  line_carries room log t s line q' e u c past l =
      let h = subst (Lived k.before u c (past ++ line_events k room log t s line)) (sym e)
      (line_onward log t s (unanswered room (length s.queue.pending) t) (step_in k s.closing s.queue.clock line) u c past l) in
      (h, claims_hold k.before o u c (past ++ line_events k room log t s line) q' h)
