-- The slots as columns: their timers, and for each heap its links. Assumes nothing.
--     timers xs           the timers of the slots
--     ats, places         the two halves of a heap's links
--     slot_at link xs p   the slot at place p of the heap
--     place_of link xs i  the place of slot i
--     Kept other xs ys    from xs to ys only one heap's links changed: timers and the other heap's links are as they were
use Rattle.std.specs.Prelude.{◌≡◌, ℕ, List, map, slice_index}
use Rattle.heap_links.specs.declared.slots.Link.{Link}
use Rattle.heap_links.specs.declared.slots.Slot.{Slot}
use Rattle.heap_links.specs.declared.timer.Timer.{Timer}

abbrev pub timers : {A : Type 0} → List (Slot A) → List (Timer A)
timers xs = map (λ s. s.timer) xs

module _ {A : Type 0} (link : Slot A → Link) where
  abbrev pub ats : List (Slot A) → List ℕ
  ats xs = map (λ l. l.at) (map link xs)

  abbrev pub places : List (Slot A) → List ℕ
  places xs = map (λ l. l.place) (map link xs)

  abbrev pub slot_at : List (Slot A) → ℕ → ℕ
  slot_at xs p = slice_index (ats xs) p

  abbrev pub place_of : List (Slot A) → ℕ → ℕ
  place_of xs i = slice_index (places xs) i

pub record Kept {A : Type 0} (other : Slot A → Link) (xs ys : List (Slot A)) : Type 0 where
  pub timers : timers ys ≡ timers xs
  pub others : map other ys ≡ map other xs
