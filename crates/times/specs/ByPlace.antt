-- An order by places is strict, where each time has a place of its own. Assumes nothing.
use Rattle.std.specs.Prelude.{◌≡◌, ℕ}
use Rattle.std.proofs.Common.{arith}
use Rattle.std.proofs.lemmas.Bool.{ltb-true, ltb-false, lt-ltb, le-ltb}
use Rattle.times.specs.Order.{StrictOrder}
use Rattle.times.specs.Places.{earlier}

pub by_place : {A : Type 0} (place : A → ℕ) → ((a b : A) → place a ≡ place b → a ≡ b) → StrictOrder (earlier place)
by_place place one = record {
  irreflexive = λ a. le-ltb (place a) (place a) (omega arith);
  transitive = λ a b c h k. lt-ltb (place a) (place c) (omega (arith, ltb-true (place a) (place b) h, ltb-true (place b) (place c) k));
  connected = λ a b h k. one a b (omega (arith, ltb-false (place a) (place b) h, ltb-false (place b) (place a) k));
}
