-- Which slots are pending, and the timers that they hold. Assumes nothing.
--     pending, Marked        of one heap: its slots, and one more or one less of them
--     listed n xs            the timers of the pending slots, in order of the slots
--     Standing n xs          both heaps are linked and hold the same n slots
--     Filled slot t xs ys    the slot holds the timer t, and nothing else changed
--     Inserted x xs ys       ys is xs with x put in at one place
--     Among x ys             x stands in ys
use Rattle.std.specs.Prelude.{◌≡◌, ℕ, ◌≤◌, List, ◌∷◌, ◌++◌, map, length, filter, nat_lt, slice_set}
use Rattle.heap_links.specs.declared.slots.Link.{Link}
use Rattle.heap_links.specs.declared.slots.Slot.{Slot}
use Rattle.heap_links.specs.declared.timer.Timer.{Timer}
use Rattle.heap_links.specs.Columns.{timers}
use Rattle.heap_links.specs.Links.{Linked}
pub use Rattle.key_heaps.specs.Members.{pending, Marked}

module _ {A : Type 0} where
  abbrev pub by_hard : Slot A → Link
  by_hard s = s.hard

  abbrev pub by_soft : Slot A → Link
  by_soft s = s.soft

  abbrev pub listed : ℕ → List (Slot A) → List (Timer A)
  listed n xs = timers (filter (λ s. nat_lt s.hard.place n) xs)

  abbrev pub Standing : ℕ → List (Slot A) → Type 0
  Standing n xs =
      (length xs ≤ 4096) × (n ≤ length xs) × Linked by_hard xs × Linked by_soft xs × (pending by_hard n xs ≡ pending by_soft n xs)

pub record Filled {A : Type 0} (slot : ℕ) (t : Timer A) (xs ys : List (Slot A)) : Type 0 where
  pub timers : timers ys ≡ slice_set (timers xs) slot t
  pub hard : map by_hard ys ≡ map by_hard xs
  pub soft : map by_soft ys ≡ map by_soft xs

pub record Inserted {X : Type 0} (x : X) (xs ys : List X) : Type 0 where
  pub before : List X
  pub after : List X
  pub was : xs ≡ before ++ after
  pub is : ys ≡ before ++ (x ∷ after)

abbrev pub Among : {X : Type 0} → X → List X → Type 0
Among {X} x ys = (xs : List X) × Inserted x xs ys
