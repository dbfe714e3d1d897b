-- Worked readings of the definitions, with two usable slots and a log of two entries. Assumes nothing.
--     timer n s h        the timer n from the time at s to that at h
--     after c qs         the queue after these requests, from the clock c
--     code r             the number by which an answer is reported: that of its fault, or 0
--     QueueReadings     what the queue answers, at a kind of time with the times `at n`
--     Readings           these at ticks and at day-ticks, and the tick after a day's last
use Rattle.std.specs.Prelude.{◌≡◌, ℕ, Bool, true, false, List, [], ◌∷◌, map, Ok, Err, Result}
use Rattle.std.specs.Option.{unwrap_or}
use Rattle.times.specs.Places.{capped}
use Rattle.times.specs.Ticks.{tick_before, tick_at, last_tick}
use Rattle.times.specs.DayTicks.{day_tick_before, day_tick_place, day_tick_of, day_tick_at, last_day_tick}
use Rattle.times.specs.declared.ticks.Tick.{Tick}
use Rattle.times.specs.declared.day_ticks.DayTick.{DayTick}
use Rattle.heap_links.specs.declared.timer.Timer.{Timer}
use Rattle.queue_rules.specs.declared.fault.QueueFault.{QueueFault}
use Rattle.queue_rules.specs.Faults.{numeral}
use Rattle.queue_rules.specs.Calls.{State, started, arming, cancelling, advancing}
use Rattle.queue_rules.specs.Listed.{Request, arm, cancel, advance, left_by}

abbrev pub code : {R : Type 0} → Result R QueueFault → ℕ
code (Ok r) = 0
code (Err f) = numeral f

module _ {A : Type 0} (before : A → A → Bool) (at : ℕ → A) where
  abbrev timer : ℕ → ℕ → ℕ → Timer A
  timer n s h = record { number = n; soft = at s; hard = at h }

  abbrev after : ℕ → List (Request A) → State A
  after c qs = left_by before (started 2 (at c)) (map (λ q. (q, 2)) qs)

  abbrev both : Timer A → Timer A → State A
  both x y = after 0 (arm x ∷ (arm y ∷ []))

  -- the wake-ups and firings of an advance, and the numbers, marks and wake times that it logs
  abbrev answers : State A → ℕ → Result (ℕ × ℕ) QueueFault
  answers s t = (advancing before s (at t) 2).answer

  abbrev logs : State A → ℕ → List (ℕ × Bool × A)
  logs s t = map (λ f. (f.number, f.mark, f.wake)) (advancing before s (at t) 2).logged

  pub record QueueReadings : Type 0 where
    -- a timer is due at its hard time, and fires when the clock passes it
    pub not_yet : answers (after 0 (arm (timer 1 0 0) ∷ [])) 0 ≡ Ok (0, 0)
    pub passed : answers (after 0 (arm (timer 1 0 0) ∷ [])) 1 ≡ Ok (1, 1)
    pub passed_at : logs (after 0 (arm (timer 1 0 0) ∷ [])) 1 ≡ (1, true, at 0) ∷ []
    -- windows that share a time have one wake-up, windows that do not have two
    pub touching : answers (both (timer 1 0 10) (timer 2 10 20)) 21 ≡ Ok (1, 2)
    pub touching_at : logs (both (timer 1 0 10) (timer 2 10 20)) 21 ≡ (1, true, at 10) ∷ ((2, false, at 10) ∷ [])
    pub apart : answers (both (timer 1 0 10) (timer 2 11 20)) 21 ≡ Ok (2, 2)
    -- the log goes by soft time, the mark by number among those whose hard time it is
    pub ordered : answers (both (timer 5 0 8) (timer 3 2 8)) 9 ≡ Ok (1, 2)
    pub marked : logs (both (timer 5 0 8) (timer 3 2 8)) 9 ≡ (5, false, at 8) ∷ ((3, true, at 8) ∷ [])
    pub marked_hard : logs (both (timer 1 0 20) (timer 2 5 10)) 11 ≡ (1, false, at 10) ∷ ((2, true, at 10) ∷ [])
    -- an advance takes the clock along
    pub clock_moves : (after 0 (advance (at 5) ∷ [])).clock ≡ at 5
    -- refusals, each beside what is just accepted
    pub hard_before_soft : code (arming before (after 0 []) (timer 1 5 4)).answer ≡ 0x32
    pub hard_at_soft : code (arming before (after 0 []) (timer 1 4 4)).answer ≡ 0
    pub soft_passed : code (arming before (after 10 []) (timer 1 9 20)).answer ≡ 0x33
    pub soft_now : code (arming before (after 10 []) (timer 1 10 20)).answer ≡ 0
    pub full : code (arming before (both (timer 1 0 10) (timer 2 0 10)) (timer 3 0 10)).answer ≡ 0x35
    pub freed : code (arming before (after 0 (arm (timer 1 0 10) ∷ (arm (timer 2 0 10) ∷ (cancel 2 ∷ [])))) (timer 3 0 10)).answer ≡ 0
    pub pending : code (arming before (after 0 (arm (timer 1 0 0) ∷ [])) (timer 1 1 1)).answer ≡ 0x34
    pub fired : code (arming before (after 0 (arm (timer 1 0 0) ∷ (advance (at 1) ∷ []))) (timer 1 1 1)).answer ≡ 0
    -- at its hard time a timer can still be cancelled, and then wakes nobody
    pub cancelled : code (cancelling before (after 0 (arm (timer 1 0 30) ∷ (advance (at 30) ∷ []))) 1).answer ≡ 0
    pub cancelled_quiet : answers (after 0 (arm (timer 1 0 30) ∷ (advance (at 30) ∷ (cancel 1 ∷ [])))) 31 ≡ Ok (0, 0)

abbrev tick : ℕ → Tick
tick n = unwrap_or (tick_at n) last_tick

abbrev day_tick : ℕ → ℕ → DayTick
day_tick day n = unwrap_or (day_tick_of day n) last_day_tick

abbrev pub Readings : Type 0
Readings =
    QueueReadings tick_before tick × QueueReadings day_tick_before (day_tick 7) ×
    (capped day_tick_place day_tick_at last_day_tick (day_tick 0 8639999) 1 ≡ day_tick 1 0)
