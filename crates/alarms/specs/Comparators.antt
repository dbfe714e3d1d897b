-- A compare time, as a due time: none where it is before the clock. Assumes nothing.
use Rattle.std.specs.Prelude.{Bool, cond, Some, None, Option}

abbrev pub compare_due : {A : Type 0} → (A → A → Bool) → A → Option A → Option A
compare_due before clock None = None
compare_due before clock (Some t) = cond (before t clock) None (Some t)
