-- The ticks to a time to be set, within a device's reach. Assumes nothing.
use Rattle.std.specs.Prelude.{◌≡◌, ℕ, ◌+◌, ◌≤◌, Bool, Some, Ok, Err, Option, Result}
use Rattle.times.specs.Places.{later}
use Rattle.alarms.specs.Meaning.{accepted, refused, set_within}
use Rattle.alarms.specs.declared.faults.AlarmFault.{AlarmFault}

module _ {A : Type 0} (before : A → A → Bool) where
  -- t is so many ticks past the clock, and can be set whatever was due before
  pub record Near (place : A → ℕ) (at : ℕ → Option A) (reach : ℕ) (clock t : A) (ticks : ℕ) : Type 0 where
    pub exact : place clock + ticks ≡ place t
    pub there : later place at clock ticks ≡ Some t
    pub near : ticks ≤ reach
    pub settable : (due : Option A) → set_within before place reach clock due t ≡ accepted clock t

  abbrev pub TicksWithin : (A → ℕ) → (ℕ → Option A) → ℕ → A → A → Result ℕ AlarmFault → Type 0
  TicksWithin place at reach clock t (Err fault) = (due : Option A) → set_within before place reach clock due t ≡ refused fault clock due
  TicksWithin place at reach clock t (Ok ticks) = Near place at reach clock t ticks
