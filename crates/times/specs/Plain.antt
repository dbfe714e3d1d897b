-- Plain forms: each time has one number, which reads back as that time. Assumes nothing.
use Rattle.std.specs.Prelude.{◌≡◌, ℕ, Some, Option}

-- a number that reads as no time is the plain form of none
pub record PlainForm {A : Type 0} (plain : A → ℕ) (reads : ℕ → Option A) : Type 0 where
  pub back : (a : A) → reads (plain a) ≡ Some a
  pub only : (n : ℕ) (a : A) → reads n ≡ Some a → plain a ≡ n
