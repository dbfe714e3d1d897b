-- Histories that queues with a wrong rule would leave, and the claim that refuses each. Times are numbers. Assumes nothing.
--     halting        the walk goes in hard order and ends at the first timer whose soft time has not come: it wakes again for timer 3
--     eager          it wakes at each soft time
--     early          a wake-up fires a timer whose soft time has not come
--     haunted        the hard time of a cancelled timer wakes
--     hasty          the wake-up at t is served on arriving at t: a cancel at that tick comes too late
--     revenant       a cancelled timer is fired
--     WrongRulesRefused    none of these histories keeps the claims, each for the claim that is named; and the calls of the first
--                            leave one wake-up by the definitions of the queue
use Rattle.std.specs.Prelude.{◌≡◌, ℕ, Bool, true, false, List, [], ◌∷◌, map, nat_lt}
use Rattle.heap_links.specs.declared.timer.Timer.{Timer}
use Rattle.queue_rules.specs.declared.firing.Firing.{Firing}
use Rattle.queue_rules.specs.Calls.{started}
use Rattle.queue_rules.specs.Events.{armed, cancelled, advanced, Event, event}
use Rattle.queue_rules.specs.Listed.{Request, arm, cancel, advance, recorded}
use Rattle.queue_rules.specs.Histories.{wake_ups}
use Rattle.queue_rules.specs.Claims.{NoTimerMissed, NoShorterList, NothingElseLogged}

abbrev timer : ℕ → ℕ → ℕ → Timer ℕ
timer n s h = record { number = n; soft = s; hard = h }

-- x fired at w, with or without the mark
abbrev fired : Timer ℕ → Bool → ℕ → Firing ℕ
fired x m w = record { number = x.number; mark = m; wake = w; soft = x.soft; hard = x.hard }

abbrev arms : Timer ℕ → Event ℕ
arms x = event (armed true x) 0

abbrev goes : ℕ → ℕ → List (Firing ℕ) → ℕ → Event ℕ
goes t wakes fs n = event (advanced true t (wakes, n) fs) t

abbrev pub halting : List (Event ℕ)
halting =
    arms (timer 1 0 10) ∷ (arms (timer 2 11 20) ∷ (arms (timer 3 5 25) ∷
    (goes 15 1 (fired (timer 1 0 10) true 10 ∷ []) 1 ∷ (event (cancelled true 2) 15 ∷
    (goes 26 1 (fired (timer 3 5 25) true 25 ∷ []) 1 ∷ [])))))

abbrev pub eager : List (Event ℕ)
eager =
    arms (timer 1 0 10) ∷ (arms (timer 2 5 10) ∷
    (goes 11 2 (fired (timer 1 0 10) true 0 ∷ (fired (timer 2 5 10) true 5 ∷ [])) 2 ∷ []))

abbrev pub early : List (Event ℕ)
early =
    arms (timer 1 0 10) ∷ (arms (timer 2 15 20) ∷
    (goes 21 1 (fired (timer 1 0 10) true 10 ∷ (fired (timer 2 15 20) false 10 ∷ [])) 2 ∷ []))

abbrev pub haunted : List (Event ℕ)
haunted = arms (timer 1 0 10) ∷ (event (cancelled true 1) 0 ∷ (goes 11 1 [] 0 ∷ []))

abbrev pub hasty : List (Event ℕ)
hasty =
    arms (timer 1 0 30) ∷ (goes 30 1 (fired (timer 1 0 30) true 30 ∷ []) 1 ∷
    (event (cancelled false 1) 30 ∷ (goes 31 0 [] 0 ∷ [])))

abbrev pub revenant : List (Event ℕ)
revenant =
    arms (timer 1 0 10) ∷ (arms (timer 2 0 10) ∷ (event (cancelled true 2) 0 ∷
    (goes 11 1 (fired (timer 1 0 10) true 10 ∷ (fired (timer 2 0 10) false 10 ∷ [])) 2 ∷ [])))

-- the calls of the first history
abbrev calls : List (Request ℕ × ℕ)
calls =
    map (λ q. (q, 3))
    (arm (timer 1 0 10) ∷ (arm (timer 2 11 20) ∷ (arm (timer 3 5 25) ∷ (advance 15 ∷ (cancel 2 ∷ (advance 26 ∷ []))))))

abbrev pub WrongRulesRefused : Type 0
WrongRulesRefused =
    (wake_ups (recorded nat_lt (started 3 0) calls) ≡ 1) × (NoShorterList nat_lt 0 halting → ⊥) × (NoShorterList nat_lt 0 eager → ⊥) × (NoTimerMissed nat_lt 0 early → ⊥) ×
    (NoShorterList nat_lt 0 haunted → ⊥) × (NoShorterList nat_lt 0 hasty → ⊥) × (NothingElseLogged nat_lt revenant → ⊥)
