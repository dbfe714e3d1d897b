-- A queue seen as a state: its timers, in whatever order they lie, listed by number. Assumes nothing.
--     view u xs c d          so many usable slots, the timers xs pending, and an alarm at clock c that is due at d
--     refusal_of r           the fault of an answer, or none
--     moved xs d o           31 if the alarm, due at d, is not due at the least hard time of xs, or else o
--     arm_refusal .. , cancel_refusal .. , advance_refusal ..    the first test that a call fails, of timers in any order
use Rattle.std.specs.Prelude.{ℕ, Bool, not, List, length, Some, None, Ok, Err, Option, Result, nat_le, nat_lt}
use Rattle.heap_links.specs.declared.timer.Timer.{Timer}
use Rattle.queue_rules.specs.declared.fault.QueueFault.{QueueFault}
use Rattle.queue_rules.specs.declared.fault.QueueFault.TheVariants.{AlarmMoved, HardBeforeSoft, SoftPassed, NumberPending, QueueFull, NotPending, AdvancePassed, LogShort}
use Rattle.queue_rules.specs.Lists.{passes, sorted}
use Rattle.queue_rules.specs.Timers.{numbered, by_number, least_hard}
use Rattle.queue_rules.specs.Calls.{State, given, same_due}

abbrev pub view : {A : Type 0} → ℕ → List (Timer A) → A → Option A → State A
view u xs c d = record { usable = u; pending = sorted by_number xs; clock = c; due = d }

abbrev pub refusal_of : {R : Type 0} → Result R QueueFault → Option QueueFault
refusal_of (Ok r) = None
refusal_of (Err f) = Some f

abbrev pub moved : {A : Type 0} → (A → A → Bool) → List (Timer A) → Option A → Option QueueFault → Option QueueFault
moved before xs d o = given (not (same_due before d (least_hard before xs))) AlarmMoved o

module _ {A : Type 0} (before : A → A → Bool) (u : ℕ) (xs : List (Timer A)) (c : A) (d : Option A) where
  abbrev pub arm_refusal : Timer A → Option QueueFault
  arm_refusal x =
      given (not (same_due before d (least_hard before xs))) AlarmMoved
      (given (before x.hard x.soft) HardBeforeSoft
      (given (before x.soft c) SoftPassed
      (given (passes (numbered x.number) xs) NumberPending
      (given (nat_le u (length xs)) QueueFull None))))

  abbrev pub cancel_refusal : ℕ → Option QueueFault
  cancel_refusal n =
      given (not (same_due before d (least_hard before xs))) AlarmMoved
      (given (not (passes (numbered n) xs)) NotPending None)

  abbrev pub advance_refusal : A → ℕ → Option QueueFault
  advance_refusal t room =
      given (not (same_due before d (least_hard before xs))) AlarmMoved
      (given (before t c) AdvancePassed
      (given (nat_lt room (length xs)) LogShort None))
