-- The wake-ups of an advance over timers that lie in any order. Assumes nothing.
--     ServedAll ..    what an advance to t over the timers xs left: its counts, its log, the timers ys, the alarm's clock and due time
use Rattle.std.specs.Prelude.{◌≡◌, ℕ, ◌+◌, Bool, false, List, length, Option}
use Rattle.std.specs.List.{AllByRecursion}
use Rattle.heap_links.specs.declared.timer.Timer.{Timer}
use Rattle.queue_rules.specs.declared.firing.Firing.{Firing}
use Rattle.queue_rules.specs.Lists.{Rearranged}
use Rattle.timer_queue.specs.Logs.{logged_at}
use Rattle.queue_rules.specs.Timers.{Distinct, least_hard}
use Rattle.queue_rules.specs.WakeUps.{walk}

pub record ServedAll {A : Type 0} (before : A → A → Bool) (t : A) (xs ys : List (Timer A)) (n : ℕ) (old new : List (Firing A)) (c : A) (d : Option A) : Type 0 where
  pub wakes : length (walk before t xs).wakes ≡ n
  pub log : new ≡ logged_at 0 old (walk before t xs).entries
  pub rest : Rearranged (walk before t xs).pending ys
  pub clock : c ≡ t
  pub due : d ≡ least_hard before ys
  pub distinct : Distinct ys
  pub proper : AllByRecursion (λ x. before x.hard x.soft ≡ false) ys

-- each of the timers xs was logged or is left
abbrev pub CountedAll : {A : Type 0} → (A → A → Bool) → A → List (Timer A) → List (Timer A) → Type 0
CountedAll before t xs ys = length ys + length (walk before t xs).entries ≡ length xs

-- xs are n timers as a queue keeps them, the alarm is due as it should be, and t is not before its clock
pub record Ready {A : Type 0} (before : A → A → Bool) (n : ℕ) (xs : List (Timer A)) (c : A) (d : Option A) (t : A) : Type 0 where
  pub distinct : Distinct xs
  pub proper : AllByRecursion (λ x. before x.hard x.soft ≡ false) xs
  pub held : length xs ≡ n
  pub due : d ≡ least_hard before xs
  pub clock : before t c ≡ false
