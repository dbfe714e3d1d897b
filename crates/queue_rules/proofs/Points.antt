-- The wake times of an advance are the textbook greedy's points.
use Rattle.std.proofs.Common.{◌≡◌, Bool, true, false, not, ◌||◌, List, [], ◌∷◌, filter, sym, refl, ap, ◌∙◌, subst}
use Rattle.std.specs.List.{AllByRecursion}
use Rattle.std.proofs.ByRecursion.{All-weaker, all_kept_by}
use Rattle.heap_links.specs.declared.timer.Timer.{Timer}
use Rattle.times.specs.Order.{StrictOrder}
use Rattle.queue_rules.specs.WakeUps.{Served, ripe, spared}
use Rattle.queue_rules.specs.Greedy.{met, Greedy, all_met, next_point, WalkIsGreedy}
use Rattle.queue_rules.proofs.Elements.{any_kept, none_kept, kept_like, kept_either_order}
use Rattle.queue_rules.proofs.Waking.{Next, Proper}
use Rattle.queue_rules.proofs.Going.{along_walk}

module _ {A : Type 0} (before : A → A → Bool) (o : StrictOrder before) (t : A) where
  -- the windows that end before t
  abbrev ending : List (Timer A) → List (Timer A)
  ending = filter (λ x. before x.hard t)

  none_ending : (xs : List (Timer A)) → AllByRecursion (λ x. before x.hard t ≡ false) xs → Greedy before (ending xs) []
  none_ending xs a = subst (λ l. Greedy before l []) (sym (none_kept (λ x. before x.hard t) xs a)) all_met

  -- where no window ends before w, those that w does not meet are those that are not ripe
  unmet : (w : A) (xs : List (Timer A)) → AllByRecursion (λ x. before x.hard w ≡ false) xs →
      ending (spared before w xs) ≡ filter (λ x. not (met before x w)) (ending xs)
  unmet w xs a =
      ap ending (kept_like (λ x. not (ripe before w x)) (λ x. not (met before x w)) xs
      (All-weaker (λ x. before x.hard w ≡ false) (λ x. not (ripe before w x) ≡ not (met before x w)) (λ x e. late x (before w x.soft) e) xs a)) ∙
      kept_either_order (λ x. before x.hard t) (λ x. not (met before x w)) xs
    where
      late : (x : Timer A) (b : Bool) → before x.hard w ≡ false → not (not b) ≡ not (not (b || before x.hard w))
      late x true e = refl
      late x false e = ap (λ b. not (not b)) (sym e)

  point : (w : A) (xs : List (Timer A)) (r : Served A) → Proper before o xs → Next before o xs w → before w t ≡ true →
      Greedy before (ending (spared before w xs)) r.wakes → Greedy before (ending xs) (w ∷ r.wakes)
  point w xs r proper next soon rest =
      next_point w
      (any_kept (λ x. before x.hard t) (λ x. x.hard ≡ w) (λ x h. ap (λ z. before z t) h ∙ soon) xs next.stands)
      (all_kept_by (λ x. before x.hard t) (λ x. before x.hard w ≡ false) xs next.bounds)
      (subst (λ l. Greedy before l r.wakes) (unmet w xs next.bounds) rest)

pub walk_is_greedy : {A : Type 0} (before : A → A → Bool) → StrictOrder before → WalkIsGreedy before
walk_is_greedy before o t xs proper = along_walk before o t (λ ys r. Greedy before (ending before o t ys) r.wakes) (none_ending before o t) (point before o t) xs proper
