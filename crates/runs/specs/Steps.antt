-- What a request asks of an open run. Assumes nothing.
--     step_of reads ahead clock q    the step that q asks for, or why it asks for none; `reads` gives the time of a plain form,
--                                    and `ahead` the time so many ticks on
use Rattle.std.specs.Prelude.{ℕ, cond, Some, None, Ok, Err, Option, Result, nat_lt, slice_index_or}
use Rattle.std.specs.Result.{result_map_both}
use Rattle.frames.specs.declared.request.Request.{Request}
use Rattle.frames.specs.declared.request.Request.TheVariants.{Open, Arm as ArmAt, Cancel as CancelOf, Advance as AdvanceTo, Close as CloseRun, ArmByPurpose}
use Rattle.heap_links.specs.declared.timer.Timer.{Timer}
use Rattle.times.specs.declared.faults.TimeFault.TheVariants.{NoSuchTime}
use Rattle.runs.specs.declared.faults.RunFault.{RunFault}
use Rattle.runs.specs.declared.faults.RunFault.TheVariants.{Time, OpenedAlready, UnknownPurpose}
use Rattle.runs.specs.declared.steps.Step.{Step}
use Rattle.runs.specs.declared.steps.Step.TheVariants.{Arm, Cancel, Advance, Close}
use Rattle.runs.specs.Purposes.{offsets_of}

module _ {A : Type 0} where
  abbrev pub timer : ℕ → A → A → Timer A
  timer n soft hard = record { number = n; soft = soft; hard = hard }

  -- a timer by its times, if both are there
  abbrev pub timer_of : ℕ → Option A → Option A → Result (Timer A) RunFault
  timer_of n None hard = Err (Time NoSuchTime)
  timer_of n (Some s) None = Err (Time NoSuchTime)
  timer_of n (Some s) (Some h) = Ok (timer n s h)

  abbrev pub advance_of : Option A → Result (Step A) RunFault
  advance_of None = Err (Time NoSuchTime)
  advance_of (Some t) = Ok (Advance t)

  -- a timer whose times lie as far ahead of the clock as its purpose says
  abbrev pub purposed : (ℕ → A) → ℕ → ℕ → Result (Timer A) RunFault
  purposed on n p =
      let o = slice_index_or offsets_of p (0, 0) in
      cond (nat_lt p 12) (Ok (timer n (on o.0) (on o.1))) (Err UnknownPurpose)

  abbrev arms : Result (Timer A) RunFault → Result (Step A) RunFault
  arms r = result_map_both Arm (λ f. f) r

  abbrev pub step_of : (ℕ → Option A) → (A → ℕ → A) → A → Request → Result (Step A) RunFault
  step_of reads ahead clock (Open kind device start) = Err OpenedAlready
  step_of reads ahead clock (ArmAt n soft hard) = arms (timer_of n (reads soft) (reads hard))
  step_of reads ahead clock (CancelOf n) = Ok (Cancel n)
  step_of reads ahead clock (AdvanceTo t) = advance_of (reads t)
  step_of reads ahead clock CloseRun = Ok Close
  step_of reads ahead clock (ArmByPurpose n p) = arms (purposed (ahead clock) n p)
