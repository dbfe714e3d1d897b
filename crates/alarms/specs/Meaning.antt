-- What an alarm means, as a clock and a due time, or none: what each call answers and leaves. Assumes nothing.
use Rattle.std.specs.Prelude.{◌≡◌, ℕ, ◌+◌, Bool, false, cond, Some, None, Ok, Err, Option, Result, nat_lt}
use Rattle.alarms.specs.declared.faults.AlarmFault.{AlarmFault}
use Rattle.alarms.specs.declared.faults.AlarmFault.TheVariants.{BeforeClock, BeyondReach}
use Rattle.alarms.specs.declared.faults.Passage.{Passage}
use Rattle.alarms.specs.declared.faults.Passage.TheVariants.{Rang, Arrived}

-- an answer, and the clock and the due time that are left
pub record Outcome (R A : Type 0) : Type 0 where
  pub answer : R
  pub clock : A
  pub due : Option A

-- a call came out so
pub record Gives {R A : Type 0} (o : Outcome R A) (answer : R) (clock : A) (due : Option A) : Type 0 where
  pub answered : answer ≡ o.answer
  pub clocked : clock ≡ o.clock
  pub timed : due ≡ o.due

abbrev pub refused : {R A : Type 0} → AlarmFault → A → Option A → Outcome (Result R AlarmFault) A
refused fault clock due = record { answer = Err fault; clock = clock; due = due }

abbrev pub accepted : {A : Type 0} → A → A → Outcome (Result (Unit {0}) AlarmFault) A
accepted clock t = record { answer = Ok tt; clock = clock; due = Some t }

abbrev pub rang : {A : Type 0} → A → Outcome (Result Passage AlarmFault) A
rang due = record { answer = Ok Rang; clock = due; due = None }

abbrev pub arrived : {A : Type 0} → A → Option A → Outcome (Result Passage AlarmFault) A
arrived t due = record { answer = Ok Arrived; clock = t; due = due }

module _ {A : Type 0} (before : A → A → Bool) where
  abbrev pub NotPast : A → Option A → Type 0
  NotPast clock None = Unit {0}
  NotPast clock (Some due) = before due clock ≡ false

  abbrev pub set_to : A → Option A → A → Outcome (Result (Unit {0}) AlarmFault) A
  set_to clock due t = cond (before t clock) (refused BeforeClock clock due) (accepted clock t)

  -- the same, for an alarm that reaches so many places past its clock
  abbrev pub set_within : (A → ℕ) → ℕ → A → Option A → A → Outcome (Result (Unit {0}) AlarmFault) A
  set_within place reach clock due t =
      cond (before t clock) (refused BeforeClock clock due)
      (cond (nat_lt (place clock + reach) (place t)) (refused BeyondReach clock due) (accepted clock t))

  abbrev pub onward : Option A → A → Outcome (Result Passage AlarmFault) A
  onward None t = arrived t None
  onward (Some due) t = cond (before due t) (rang due) (arrived t (Some due))

  abbrev pub pass_to : A → Option A → A → Outcome (Result Passage AlarmFault) A
  pass_to clock due t = cond (before t clock) (refused BeforeClock clock due) (onward due t)

  -- the same of a device, by the clock and the due time of its old and its new state
  module _ {S : Type 0} (clock : S → A) (due : S → Option A) (old new : S) where
    abbrev pub Sets : A → Result (Unit {0}) AlarmFault → Type 0
    Sets t answer = Gives (set_to (clock old) (due old) t) answer (clock new) (due new)

    abbrev pub SetsWithin : (A → ℕ) → ℕ → A → Result (Unit {0}) AlarmFault → Type 0
    SetsWithin place reach t answer = Gives (set_within place reach (clock old) (due old) t) answer (clock new) (due new)

    abbrev pub Passes : A → Result Passage AlarmFault → Type 0
    Passes t answer = Gives (pass_to (clock old) (due old) t) answer (clock new) (due new)

pub record Clears {S A : Type 0} (clock : S → A) (due : S → Option A) (old new : S) : Type 0 where
  pub clocked : clock new ≡ clock old
  pub timed : due new ≡ None
