-- The chain: a goal, and a short alarm that is due at or before it. Assumes nothing.
use Rattle.std.specs.Prelude.{◌≡◌, ℕ, ◌+◌, ◌-◌, ◌/◌, ◌≤◌, Bool, cond, Some, None, Ok, Err, Option, Result}
use Rattle.alarm_chains.specs.declared.chains.ChainedAlarm.{ChainedAlarm}
use Rattle.alarms.specs.declared.faults.AlarmFault.{AlarmFault}
use Rattle.alarms.specs.declared.faults.Passage.{Passage}
use Rattle.alarms.specs.declared.faults.Passage.TheVariants.{Rang, Arrived}

abbrev pub chain_clock : {A S : Type 0} → (S → A) → ChainedAlarm A S → A
chain_clock clock chain = clock chain.short

module _ {A : Type 0} (before : A → A → Bool) where
  -- the goal, while the short alarm is due at or before it
  abbrev pub goal_due : Option A → A → Option A
  goal_due None goal = None
  goal_due (Some stage) goal = cond (before goal stage) None (Some goal)

  abbrev pub chain_due : {S : Type 0} → (S → Option A) → ChainedAlarm A S → Option A
  chain_due due chain = goal_due (due chain.short) chain.goal

  -- what the short alarm is set to: the goal, or the furthest time that it reaches
  abbrev pub stage_to : A → A → A
  stage_to furthest goal = cond (before furthest goal) furthest goal

-- the ticks that the clock moved
abbrev pub moved : {A S : Type 0} → (A → ℕ) → (S → A) → S → S → ℕ
moved place clock old new = place (clock new) - place (clock old)

-- a pass, without its count of rings
abbrev pub uncounted : Result (Passage × ℕ) AlarmFault → Result Passage AlarmFault
uncounted (Ok (passage, rings)) = Ok passage
uncounted (Err fault) = Err fault

-- how often the short alarm rings while the clock moves so many ticks: at each full reach short of the end, and at the goal
abbrev pub rings : {A : Type 0} → ℕ → Option A → ℕ → Passage → ℕ
rings reach None ticks passage = 0
rings reach (Some goal) ticks Rang = (ticks - 1) / reach + 1
rings reach (Some goal) ticks Arrived = (ticks - 1) / reach

abbrev pub Counted : {A : Type 0} → ℕ → Option A → ℕ → Result (Passage × ℕ) AlarmFault → Type 0
Counted reach due ticks (Ok (passage, count)) = (count ≡ rings reach due ticks passage) × (count ≤ ticks / reach + 1)
Counted reach due ticks (Err fault) = Unit {0}
