-- What places tell of times, at any measured kind. Assumes nothing.
use Rattle.std.proofs.Common.{◌≡◌, ℕ, ◌<◌, ◌≤◌, Bool, true, false, Some, None, Option, sym, refl, ap, ◌∙◌, arith}
use Rattle.std.proofs.lemmas.Bool.{ltb-true, ltb-false, lt-ltb, le-ltb}
use Rattle.times.specs.Order.{StrictOrder}
use Rattle.times.specs.Places.{Agrees, Places}

-- a kind of time with places, as a proof wants it
pub record Measure {A : Type 0} (before : A → A → Bool) (place : A → ℕ) (at : ℕ → Option A) (last : A) : Type 0 where
  pub order : StrictOrder before
  pub agrees : Agrees before place
  pub places : Places place at last

pub measure : {A : Type 0} {before : A → A → Bool} {place : A → ℕ} {at : ℕ → Option A} {last : A} → StrictOrder before → Agrees before place → Places place at last → Measure before place at last
measure order agrees places = record { order = order; agrees = agrees; places = places }

module _ {A : Type 0} {before : A → A → Bool} {place : A → ℕ} {at : ℕ → Option A} {last : A} (m : Measure before place at last) where
  pub before_place : (a b : A) → before a b ≡ true → place a < place b
  before_place a b e = ltb-true (place a) (place b) (sym (m.agrees.ordered a b) ∙ e)

  pub not_before_place : (a b : A) → before a b ≡ false → place b ≤ place a
  not_before_place a b e = ltb-false (place a) (place b) (sym (m.agrees.ordered a b) ∙ e)

  pub place_before : (a b : A) → place a < place b → before a b ≡ true
  place_before a b h = m.agrees.ordered a b ∙ lt-ltb (place a) (place b) h

  pub place_not_before : (a b : A) → place b ≤ place a → before a b ≡ false
  place_not_before a b h = m.agrees.ordered a b ∙ le-ltb (place a) (place b) h

  pub same_place : (a b : A) → place a ≡ place b → a ≡ b
  same_place a b e = m.order.connected a b (place_not_before a b (omega arith)) (place_not_before b a (omega arith))

  -- the time at a time's place is that time
  pub at_place : (n : ℕ) (a : A) → place a ≡ n → at n ≡ Some a
  at_place n a e = found_at (at n) refl
    where
      found_at : (x : Option A) → at n ≡ x → x ≡ Some a
      found_at None none = absurd (omega (arith, m.places.past n none, m.places.bounded a))
      found_at (Some b) some = ap Some (same_place b a (m.places.found n b some ∙ sym e))
