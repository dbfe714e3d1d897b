-- What each call of the queue answers, leaves and logs. Assumes nothing.
--     State             how many slots are usable, the pending timers in order of number, the alarm's clock and due time
--     Outcome           a call's answer, the state that it leaves, and what it logs
--     given b f o       the fault f if the test b holds, or else o
--     conclude o s ..   the outcome of a call on s: refused with o's fault, which leaves everything, or as given
--     settle s xs c     s with xs pending and the clock c, and the alarm due at the least hard time
--     as_left s         the alarm is due as the queue left it
use Rattle.std.specs.Prelude.{ℕ, min, Bool, true, false, cond, not, List, [], length, Some, None, Ok, Err, filter, Option, Result, nat_le, nat_lt}
use Rattle.heap_links.specs.declared.timer.Timer.{Timer}
use Rattle.queue_rules.specs.declared.firing.Firing.{Firing}
use Rattle.queue_rules.specs.declared.fault.QueueFault.{QueueFault}
use Rattle.queue_rules.specs.declared.fault.QueueFault.TheVariants.{AlarmMoved, HardBeforeSoft, SoftPassed, NumberPending, QueueFull, NotPending, AdvancePassed, LogShort}
use Rattle.queue_rules.specs.Lists.{passes, put}
use Rattle.queue_rules.specs.Timers.{numbered, by_number, same, least_hard}
use Rattle.queue_rules.specs.WakeUps.{walk}

pub record State (A : Type 0) : Type 0 where
  pub usable : ℕ
  pub pending : List (Timer A)
  pub clock : A
  pub due : Option A

pub record Outcome (R A : Type 0) : Type 0 where
  pub answer : Result R QueueFault
  pub left : State A
  pub logged : List (Firing A)

abbrev pub given : Bool → QueueFault → Option QueueFault → Option QueueFault
given b f o = cond b (Some f) o

abbrev pub conclude : {R A : Type 0} → Option QueueFault → State A → R → State A → List (Firing A) → Outcome R A
conclude (Some f) s r s' es = record { answer = Err f; left = s; logged = [] }
conclude None s r s' es = record { answer = Ok r; left = s'; logged = es }

-- how many of the slots lent are usable
abbrev pub usable_of : ℕ → ℕ
usable_of lent = min lent 4096

-- a queue that was just started over so many usable slots, with an alarm at this clock
abbrev pub started : {A : Type 0} → ℕ → A → State A
started u c = record { usable = u; pending = []; clock = c; due = None }

module _ {A : Type 0} (before : A → A → Bool) where
  abbrev pub same_due : Option A → Option A → Bool
  same_due None None = true
  same_due None (Some b) = false
  same_due (Some a) None = false
  same_due (Some a) (Some b) = same before a b

  abbrev pub as_left : State A → Bool
  as_left s = same_due s.due (least_hard before s.pending)

  abbrev pub settle : State A → List (Timer A) → A → State A
  settle s xs c = record { usable = s.usable; pending = xs; clock = c; due = least_hard before xs }

  abbrev pub arm_fault : State A → Timer A → Option QueueFault
  arm_fault s x =
      given (not (as_left s)) AlarmMoved
      (given (before x.hard x.soft) HardBeforeSoft
      (given (before x.soft s.clock) SoftPassed
      (given (passes (numbered x.number) s.pending) NumberPending
      (given (nat_le s.usable (length s.pending)) QueueFull None))))

  abbrev pub arming : State A → Timer A → Outcome (Unit {0}) A
  arming s x = conclude (arm_fault s x) s tt (settle s (put by_number x s.pending) s.clock) []

  abbrev pub cancel_fault : State A → ℕ → Option QueueFault
  cancel_fault s n =
      given (not (as_left s)) AlarmMoved
      (given (not (passes (numbered n) s.pending)) NotPending None)

  abbrev pub cancelling : State A → ℕ → Outcome (Unit {0}) A
  cancelling s n = conclude (cancel_fault s n) s tt (settle s (filter (λ x. not (numbered n x)) s.pending) s.clock) []

  abbrev pub advance_fault : State A → A → ℕ → Option QueueFault
  advance_fault s t room =
      given (not (as_left s)) AlarmMoved
      (given (before t s.clock) AdvancePassed
      (given (nat_lt room (length s.pending)) LogShort None))

  -- the answer is the pair of wake-ups and firings; room is the length of the log
  abbrev pub advancing : State A → A → ℕ → Outcome (ℕ × ℕ) A
  advancing s t room =
      let r = walk before t s.pending in
      conclude (advance_fault s t room) s (length r.wakes, length r.entries) (settle s r.pending t) r.entries
