-- Places: the numbers by which times are measured. Assumes nothing.
use Rattle.std.specs.Prelude.{◌≡◌, ℕ, ◌+◌, ◌^◌, ◌<◌, ◌≤◌, Bool, Some, None, Option, nat_lt}
use Rattle.std.specs.Option.{unwrap_or}

-- the order of the places
abbrev pub earlier : {A : Type 0} → (A → ℕ) → A → A → Bool
earlier place a b = nat_lt (place a) (place b)

-- the time n ticks later than a, if there is one
abbrev pub later : {A : Type 0} → (A → ℕ) → (ℕ → Option A) → A → ℕ → Option A
later place at a n = at (place a + n)

-- the time n ticks later than a, or the last time where there is none
abbrev pub capped : {A : Type 0} → (A → ℕ) → (ℕ → Option A) → A → A → ℕ → A
capped place at last a n = unwrap_or (later place at a n) last

-- each time has a place, and each place up to that of the last time has a time: `at n` is the time at place n
pub record Places {A : Type 0} (place : A → ℕ) (at : ℕ → Option A) (last : A) : Type 0 where
  pub found : (n : ℕ) (a : A) → at n ≡ Some a → place a ≡ n
  pub past : (n : ℕ) → at n ≡ None → place last < n
  pub bounded : (a : A) → place a ≤ place last
  pub fits : place last < 2 ^ 64

-- `before` is the order of the places
pub record Agrees {A : Type 0} (before : A → A → Bool) (place : A → ℕ) : Type 0 where
  pub ordered : (a b : A) → before a b ≡ earlier place a b
