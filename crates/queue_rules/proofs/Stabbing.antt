-- Windows that lie one after the other share no time, and need a time each.
use Rattle.std.proofs.Common.{◌≡◌, ◌≤◌, Bool, true, List, [], ◌∷◌, length, filter, arith}
use Rattle.std.specs.List.{AllByRecursion}
use Rattle.std.proofs.ByRecursion.{All-weaker}
use Rattle.std.proofs.lemmas.Bool.{both_ways}
use Rattle.queue_rules.specs.declared.firing.Firing.{Firing}
use Rattle.times.specs.Order.{StrictOrder}
use Rattle.queue_rules.specs.Lists.{Any, Pairwise}
use Rattle.queue_rules.specs.Timers.{Inside}
use Rattle.queue_rules.specs.Claims.{Apart}
use Rattle.queue_rules.proofs.Elements.{any_weaker, any_kept, all_both, kept_shorter}
use Rattle.queue_rules.proofs.Orders.{lt_le, le_lt}

module _ {A : Type 0} (before : A → A → Bool) (o : StrictOrder before) where
  -- the window of f ends before that of g begins
  abbrev pub Over : Firing A → Firing A → Type 0
  Over f g = before f.hard g.soft ≡ true

  pub over_apart : (f g : Firing A) → Over f g → Apart before f g
  over_apart f g h t i j = both_ways (before t g.soft) j.0 (le_lt before o t f.hard g.soft i.1 h)

  -- some time of ts lies in the window of f
  abbrev pub Stabbed : List A → Firing A → Type 0
  Stabbed ts f = Any (Inside before f.soft f.hard) ts

  -- a window that begins after h is stabbed by a time after h
  later_times : (h : A) (ts : List A) (g : Firing A) → before h g.soft ≡ true → Stabbed ts g → Stabbed (filter (before h) ts) g
  later_times h ts g l s = any_kept (before h) (Inside before g.soft g.hard) (λ t i. lt_le before o h g.soft t l i.0) ts s

  pub needs_each : (fs : List (Firing A)) (ts : List A) → Pairwise Over fs → AllByRecursion (Stabbed ts) fs → length fs ≤ length ts
  needs_each [] ts p s = omega arith
  needs_each (f ∷ fs) ts p s =
      let rest = filter (before f.hard) ts in
      let fewer = kept_shorter (before f.hard) ts (any_weaker (λ t i. i.1) ts s.0) in
      let more = needs_each fs rest p.1
      (All-weaker (λ g. Over f g × Stabbed ts g) (Stabbed rest) (λ g h. later_times f.hard ts g h.0 h.1) fs
      (all_both (Over f) (Stabbed ts) fs p.0 s.1)) in
      omega arith
