-- A number of ticks to go, as a due time: none where it leads past the last time. Assumes nothing.
use Rattle.std.specs.Prelude.{ℕ, Some, None, Option}
use Rattle.times.specs.Places.{later}

abbrev pub due_in : {A : Type 0} → (A → ℕ) → (ℕ → Option A) → A → Option ℕ → Option A
due_in place at clock None = None
due_in place at clock (Some ticks) = later place at clock ticks
