-- What a value that exists only where a test passes tells of the test, and the other way round. Assumes nothing.
use Rattle.std.specs.Prelude.{◌≡◌, ℕ, Bool, true, false, Some, None, refl}
use Rattle.std.proofs.Common.{ap, arith}
use Rattle.std.proofs.lemmas.Bool.{true≢false, false≢true}
use Rattle.times.specs.Tested.{tested}

module _ {A : Type 0} where
  pub tested_is : (b : Bool) (make : b ≡ true → A) (a : A) → b ≡ true → ((e : b ≡ true) → make e ≡ a) → tested b make ≡ Some a
  tested_is true make a e h = ap Some (h refl)
  tested_is false make a e h = absurd (false≢true e)

  pub tested_not : (b : Bool) (make : b ≡ true → A) → b ≡ false → tested b make ≡ None
  tested_not true make e = absurd (true≢false e)
  tested_not false make e = refl

  pub from_some : (b : Bool) (make : b ≡ true → A) (a : A) → tested b make ≡ Some a → (e : b ≡ true) × (make e ≡ a)
  from_some true make a e = (refl, cc)
  from_some false make a e = let z : ◌≡◌ {A = ℕ} 0 1 = cc in absurd (omega arith)

  pub from_none : (b : Bool) (make : b ≡ true → A) → tested b make ≡ None → b ≡ false
  from_none true make e = let z : ◌≡◌ {A = ℕ} 0 1 = cc in absurd (omega arith)
  from_none false make e = refl
