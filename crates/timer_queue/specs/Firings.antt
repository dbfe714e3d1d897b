-- One wake-up over timers that lie in any order. Assumes nothing.
--     fired w m xs        the entries of a wake-up at w that the timer of number m forces
--     Fired ..            what firing left: those entries in the log from a place on, and the timers spared, in some order
use Rattle.std.specs.Prelude.{◌≡◌, ℕ, ◌+◌, Bool, List, map, length, Some, filter}
use Rattle.heap_links.specs.declared.timer.Timer.{Timer}
use Rattle.queue_rules.specs.declared.firing.Firing.{Firing}
use Rattle.queue_rules.specs.Lists.{Rearranged, sorted}
use Rattle.timer_queue.specs.Logs.{logged_at}
use Rattle.queue_rules.specs.Timers.{by_soft}
use Rattle.queue_rules.specs.WakeUps.{entry, ripe, spared}

module _ {A : Type 0} (before : A → A → Bool) where
  abbrev pub fired : A → ℕ → List (Timer A) → List (Firing A)
  fired w m xs = map (entry w (Some m)) (sorted (by_soft before) (filter (ripe before w) xs))

  pub record Fired (w : A) (m : ℕ) (xs ys : List (Timer A)) (at : ℕ) (old new : List (Firing A)) : Type 0 where
    pub log : new ≡ logged_at at old (fired w m xs)
    pub count : length ys + length (fired w m xs) ≡ length xs
    pub rest : Rearranged (spared before w xs) ys
