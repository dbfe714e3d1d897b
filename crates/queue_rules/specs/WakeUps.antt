-- A wake-up, and the wake-ups of an advance. Assumes nothing.
--     ripe w x            x may fire at w: its soft time is not after w
--     spared w xs         the timers that a wake-up at w leaves pending: those that are not ripe
--     bearer w xs         the number that carries the mark of a wake-up at w: the lowest of those whose hard time is w
--     entry w m x         the log entry of x, fired at w, where m carries the mark
--     wake-up w xs        the log of a wake-up at w: an entry for each ripe timer, by soft time and then by number
--     Served              the times of some wake-ups, their log, and the timers that are still pending
--     serve_from ..       nothing, if no hard time is before t; else a wake-up at the least one, w, and then the rest
--     serve n t xs        while some hard time is before t, a wake-up at the least one; at most n of them
--     walk t xs           the wake-ups of an advance to t: the same with room for as many as there are timers
--     WalkGoesOn        that is room enough: an advance is nothing, or a wake-up and then an advance over what it spares
use Rattle.std.specs.Prelude.{◌≡◌, ℕ, zero, suc, Bool, false, cond, not, List, [], ◌∷◌, ◌++◌, map, length, Some, None, filter, Option, ◌==◌, nat_lt}
use Rattle.std.specs.List.{AllByRecursion}
use Rattle.heap_links.specs.declared.timer.Timer.{Timer}
use Rattle.queue_rules.specs.declared.firing.Firing.{Firing}
use Rattle.queue_rules.specs.Lists.{least, sorted}
use Rattle.queue_rules.specs.Timers.{same, by_soft, least_hard}

abbrev pub names : Option ℕ → ℕ → Bool
names None n = false
names (Some m) n = m == n

abbrev pub entry : {A : Type 0} → A → Option ℕ → Timer A → Firing A
entry w m x = record { number = x.number; mark = names m x.number; wake = w; soft = x.soft; hard = x.hard }

pub record Served (A : Type 0) : Type 0 where
  pub wakes : List A
  pub entries : List (Firing A)
  pub pending : List (Timer A)

-- no wake-up
abbrev pub still : {A : Type 0} → List (Timer A) → Served A
still xs = record { wakes = []; entries = []; pending = xs }

module _ {A : Type 0} (before : A → A → Bool) where
  abbrev pub ripe : A → Timer A → Bool
  ripe w x = not (before w x.soft)

  abbrev pub spared : A → List (Timer A) → List (Timer A)
  spared w xs = filter (λ x. not (ripe w x)) xs

  abbrev pub bearer : A → List (Timer A) → Option ℕ
  bearer w xs = least nat_lt (map (λ x. x.number) (filter (λ x. same before x.hard w) xs))

  abbrev pub wake_up : A → List (Timer A) → List (Firing A)
  wake_up w xs = map (entry w (bearer w xs)) (sorted (by_soft before) (filter (ripe w) xs))

  -- a wake-up at w, and then r
  abbrev pub after : A → List (Timer A) → Served A → Served A
  after w xs r = record { wakes = w ∷ r.wakes; entries = wake_up w xs ++ r.entries; pending = r.pending }

  abbrev pub serve_from : (List (Timer A) → Served A) → A → List (Timer A) → Option A → Served A
  serve_from rest t xs None = still xs
  serve_from rest t xs (Some w) = cond (before w t) (after w xs (rest (spared w xs))) (still xs)

  abbrev pub serve : ℕ → A → List (Timer A) → Served A
  serve zero t xs = still xs
  serve (suc n) t xs = serve_from (serve n t) t xs (least_hard before xs)

  abbrev pub walk : A → List (Timer A) → Served A
  walk t xs = serve (length xs) t xs

  abbrev pub WalkGoesOn : Type 0
  WalkGoesOn =
      (t : A) (xs : List (Timer A)) → AllByRecursion (λ x. before x.hard x.soft ≡ false) xs →
      walk t xs ≡ serve_from (walk t) t xs (least_hard before xs)
