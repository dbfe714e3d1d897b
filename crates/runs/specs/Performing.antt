-- A step as a call of the queue, but for what the run keeps. Assumes nothing.
--     closing_step step     the step asks for the run to be closed
--     forget e              what a line does, but for what the run keeps
use Rattle.std.specs.Prelude.{Bool, true, false, Ok, Err, Result}
use Rattle.runs.specs.declared.faults.RunFault.{RunFault}
use Rattle.runs.specs.declared.steps.Step.{Step}
use Rattle.runs.specs.declared.steps.Step.TheVariants.{Arm, Cancel, Advance, Close}
use Rattle.runs.specs.Replies.{Effect}

abbrev pub closing_step : {A : Type 0} → Step A → Bool
closing_step (Arm x) = false
closing_step (Cancel n) = false
closing_step (Advance t) = false
closing_step Close = true

abbrev pub forget : {S : Type 0} → Result (Effect S) RunFault → Result (Effect (Unit {0})) RunFault
forget (Ok e) = Ok (record { left = tt; wakes = e.wakes; firings = e.firings; log = e.log })
forget (Err f) = Err f
