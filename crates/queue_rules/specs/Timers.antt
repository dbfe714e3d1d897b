-- Timers, their windows, and the orders that they are listed in. Assumes nothing.
--     timed n s h           the timer of number n with the soft time s and the hard time h
--     numbered n x          x has the number n
--     by_number x y         x has the lower number
--     Distinct xs           no two timers have one number
--     same a b              a and b are one time: neither is before the other
--     Inside soft hard t    t is a time from soft to hard, both ends included
--     by-soft x y           x comes first by soft time, and where that is one time, by number
--     least_hard xs         the least hard time of the timers, if there is one
use Rattle.std.specs.Prelude.{◌≡◌, ℕ, Bool, false, not, ◌&&◌, ◌||◌, List, map, Option, ◌==◌, nat_lt}
use Rattle.heap_links.specs.declared.timer.Timer.{Timer}
use Rattle.std.proofs.Props.{props}
use Rattle.queue_rules.specs.Lists.{Pairwise, Pairwise-prop, least}

module _ {A : Type 0} where
  abbrev pub timed : ℕ → A → A → Timer A
  timed n s h = record { number = n; soft = s; hard = h }

  abbrev pub numbered : ℕ → Timer A → Bool
  numbered n x = x.number == n

  abbrev pub by_number : Timer A → Timer A → Bool
  by_number x y = nat_lt x.number y.number

  abbrev pub Distinct : List (Timer A) → Type 0
  Distinct = Pairwise (λ x y. (x.number == y.number) ≡ false)

  pub Distinct-prop : (xs : List (Timer A)) → IsProp (Distinct xs)
  Distinct-prop = Pairwise-prop _ (λ x y. Prim.hlevel props)

module _ {A : Type 0} (before : A → A → Bool) where
  abbrev pub same : A → A → Bool
  same a b = not (before a b || before b a)

  abbrev pub Inside : A → A → A → Type 0
  Inside soft hard t = (before t soft ≡ false) × (before hard t ≡ false)

  abbrev pub by_soft : Timer A → Timer A → Bool
  by_soft x y = before x.soft y.soft || (same x.soft y.soft && by_number x y)

  abbrev pub least_hard : List (Timer A) → Option A
  least_hard xs = least before (map (λ x. x.hard) xs)
