-- The first of the pending timers, and a search by number. Assumes nothing.
--     First .. x xs              x stands in xs, and nothing in xs comes before it
--     Top .. n xs r              r is the slot at the top of a heap of n pending slots and its timer, or none if there are none
--     FirstIsLeast             the first timer's time is not after any, and of those at that time it has the lowest number
--     NoneByThen               if the first by soft time is after w, every soft time is
--     Found number n xs r        r is a pending slot with that number, or none if no pending timer has it
use Rattle.std.specs.Prelude.{◌≡◌, ℕ, ◌<◌, ◌≤◌, Bool, true, false, List, length, Some, None, Option, ◌==◌}
use Rattle.std.specs.List.{AllByRecursion, slice_get}
use Rattle.heap_links.specs.declared.slots.Link.{Link}
use Rattle.heap_links.specs.declared.slots.Slot.{Slot}
use Rattle.heap_links.specs.declared.timer.Timer.{Timer}
use Rattle.heap_links.specs.Columns.{timers, slot_at, place_of}
use Rattle.slot_heaps.specs.Pending.{by_hard, listed, Among}
use Rattle.key_heaps.specs.Sifts.{Heaped}
use Rattle.key_heaps.specs.Sooner.{sooner}

-- slot i is pending and holds the timer x
pub record Holds {A : Type 0} (n : ℕ) (xs : List (Slot A)) (i : ℕ) (x : Timer A) : Type 0 where
  pub within : i < length xs
  pub pending : place_of by_hard xs i < n
  pub timer : slice_get (timers xs) i ≡ Some x

pub record First {A : Type 0} (before : A → A → Bool) (time : Timer A → A) (x : Timer A) (xs : List (Timer A)) : Type 0 where
  pub stands : Among x xs
  pub least : AllByRecursion (λ y. sooner before time y x ≡ false) xs

module _ {A : Type 0} (before : A → A → Bool) (time : Timer A → A) (link : Slot A → Link) where
  abbrev pub Top : ℕ → List (Slot A) → Option (ℕ × Timer A) → Type 0
  Top n xs None = n ≡ 0
  Top n xs (Some r) = Holds n xs r.0 r.1 × (r.0 ≡ slot_at link xs 0) × (Heaped before time link xs n → First before time r.1 (listed n xs))

abbrev pub Found : {A : Type 0} → ℕ → ℕ → List (Slot A) → Option ℕ → Type 0
Found {A} number n xs None = AllByRecursion (λ x. (x.number == number) ≡ false) (listed n xs)
Found {A} number n xs (Some i) = (x : Timer A) × Holds n xs i x × (x.number ≡ number) × Among x (listed n xs)

module _ {A : Type 0} (before : A → A → Bool) where
  abbrev pub FirstIsLeast : Type 0
  FirstIsLeast =
      (time : Timer A → A) (x : Timer A) (xs : List (Timer A)) → First before time x xs →
      AllByRecursion (λ y. (before (time y) (time x) ≡ false) × (time y ≡ time x → x.number ≤ y.number)) xs

  abbrev pub NoneByThen : Type 0
  NoneByThen =
      (time : Timer A → A) (x : Timer A) (xs : List (Timer A)) (w : A) → First before time x xs →
      before w (time x) ≡ true → AllByRecursion (λ y. before w (time y) ≡ true) xs
