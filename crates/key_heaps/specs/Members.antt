-- Which slots a heap holds. Assumes nothing.
--     pending link n xs      for each slot, whether its place in the heap is below n
--     Marked .. slot b m n   one heap's links moved so that of m places n are left in use, and the slot is pending as b tells
use Rattle.std.specs.Prelude.{◌≡◌, ℕ, Bool, List, map, nat_lt, slice_set}
use Rattle.heap_links.specs.declared.slots.Link.{Link}
use Rattle.heap_links.specs.declared.slots.Slot.{Slot}
use Rattle.heap_links.specs.Columns.{places, Kept}
use Rattle.heap_links.specs.Links.{Linked}

abbrev pub pending : {A : Type 0} → (Slot A → Link) → ℕ → List (Slot A) → List Bool
pending link n xs = map (λ p. nat_lt p n) (places link xs)

pub record Marked {A : Type 0} (link other : Slot A → Link) (slot : ℕ) (b : Bool) (m n : ℕ) (xs ys : List (Slot A)) : Type 0 where
  pub linked : Linked link ys
  pub marks : pending link n ys ≡ slice_set (pending link m xs) slot b
  pub kept : Kept other xs ys
