-- The textbook greedy for meeting windows with the fewest points. Assumes nothing.
--     met x w            w lies in the window of x
--     Greedy xs ws       ws are the greedy's points for the windows of xs: the first is the least of their right ends, and the others
--                        are the greedy's points for the windows that it does not meet
--     wake_times fs      the wake time of each marked entry: one for each wake-up, in order
--     WalkIsGreedy     the wake times of an advance to t are the greedy's points for the windows that end before t
use Rattle.std.specs.Prelude.{◌≡◌, Bool, false, not, ◌||◌, List, [], ◌∷◌, map, filter}
use Rattle.std.specs.List.{AllByRecursion}
use Rattle.heap_links.specs.declared.timer.Timer.{Timer}
use Rattle.queue_rules.specs.declared.firing.Firing.{Firing}
use Rattle.queue_rules.specs.Lists.{Any}
use Rattle.queue_rules.specs.WakeUps.{walk}

abbrev pub met : {A : Type 0} (before : A → A → Bool) → Timer A → A → Bool
met before x w = not (before w x.soft || before x.hard w)

pub data Greedy {A : Type 0} (before : A → A → Bool) : List (Timer A) → List A → Type 0 where
  all_met : Greedy before [] []
  next_point : {xs : List (Timer A)} {ws : List A} (w : A) →
      Any (λ x. x.hard ≡ w) xs → AllByRecursion (λ x. before x.hard w ≡ false) xs →
      Greedy before (filter (λ x. not (met before x w)) xs) ws →
      Greedy before xs (w ∷ ws)

abbrev pub wake_times : {A : Type 0} → List (Firing A) → List A
wake_times fs = map (λ f. f.wake) (filter (λ f. f.mark) fs)

abbrev pub WalkIsGreedy : {A : Type 0} → (A → A → Bool) → Type 0
WalkIsGreedy {A} before =
    (t : A) (xs : List (Timer A)) → AllByRecursion (λ x. before x.hard x.soft ≡ false) xs →
    Greedy before (filter (λ x. before x.hard t) xs) (walk before t xs).wakes
