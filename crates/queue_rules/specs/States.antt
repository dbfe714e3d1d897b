-- What no list of calls can bring about in the state of the queue. Assumes nothing.
--     Standing s          the pending timers stand by rising number, at most one for each usable slot; each has its soft time not after its hard
--                         time, and its hard time not before the clock; and the alarm is due at the least hard time
--     StatesStand        every state that a list of calls leaves is like that, over as many usable slots as at the start
use Rattle.std.specs.Prelude.{◌≡◌, ℕ, ◌≤◌, Bool, true, false, List, length}
use Rattle.std.specs.List.{AllByRecursion}
use Rattle.queue_rules.specs.Lists.{Pairwise}
use Rattle.queue_rules.specs.Timers.{by_number, least_hard}
use Rattle.queue_rules.specs.Calls.{State}
use Rattle.queue_rules.specs.Events.{Event, Lived}

module _ {A : Type 0} (before : A → A → Bool) where
  pub record Standing (s : State A) : Type 0 where
    pub rising : Pairwise (λ x y. by_number x y ≡ true) s.pending
    pub few : length s.pending ≤ s.usable
    pub proper : AllByRecursion (λ x. before x.hard x.soft ≡ false) s.pending
    pub ahead : AllByRecursion (λ x. before x.hard s.clock ≡ false) s.pending
    pub due : s.due ≡ least_hard before s.pending

  abbrev pub StatesStand : Type 0
  StatesStand = (u : ℕ) (c : A) (es : List (Event A)) (s : State A) → Lived before u c es s → Standing s × (s.usable ≡ u)
