-- The order of a heap: by a time of the timers, and where that is one time, by number. Assumes nothing.
--     sooner before time x y     x comes before y
--     precedes .. ts i j         the timer of slot i comes before that of slot j; a timer before none
use Rattle.std.specs.Prelude.{ℕ, Bool, true, false, not, ◌&&◌, ◌||◌, List, Some, None, Option, nat_lt}
use Rattle.std.specs.List.{slice_get}
use Rattle.heap_links.specs.declared.timer.Timer.{Timer}

abbrev pub ahead : {X : Type 0} → (X → X → Bool) → Option X → Option X → Bool
ahead lt (Some x) (Some y) = lt x y
ahead lt (Some x) None = true
ahead lt None y = false

module _ {A : Type 0} (before : A → A → Bool) (time : Timer A → A) where
  abbrev pub sooner : Timer A → Timer A → Bool
  sooner x y =
      before (time x) (time y) || (not (before (time x) (time y) || before (time y) (time x)) && nat_lt x.number y.number)

  abbrev pub precedes : List (Timer A) → ℕ → ℕ → Bool
  precedes ts i j = ahead sooner (slice_get ts i) (slice_get ts j)
