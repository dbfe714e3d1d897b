-- A strict order, as a test: is a before b? Assumes nothing.
use Rattle.std.specs.Prelude.{◌≡◌, Bool, true, false}

pub record StrictOrder {A : Type 0} (before : A → A → Bool) : Type 0 where
  -- nothing is before itself
  pub irreflexive : (a : A) → before a a ≡ false
  pub transitive : (a b c : A) → before a b ≡ true → before b c ≡ true → before a c ≡ true
  -- two, neither before the other, are the same
  pub connected : (a b : A) → before a b ≡ false → before b a ≡ false → a ≡ b
