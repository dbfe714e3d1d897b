-- The links of one heap: its places and the slots point at each other. Assumes nothing.
--     Inverse n a b         below n, b leads back from where a leads
--     Linked link xs        places and slots point at each other, below the number of slots
--     Straight link n xs    below n, slot k stands at place k
--     Swapped a b p q       b is a with its values at p and q exchanged
--     Moved .. n xs ys      the heap's links were moved among the places below n, and nothing else
use Rattle.std.specs.Prelude.{◌≡◌, ℕ, ◌<◌, ◌≤◌, List, length, ◌≢◌}
use Rattle.heap_links.specs.declared.slots.Link.{Link}
use Rattle.heap_links.specs.declared.slots.Slot.{Slot}
use Rattle.heap_links.specs.Columns.{slot_at, place_of, Kept}

abbrev pub Inverse : ℕ → (ℕ → ℕ) → (ℕ → ℕ) → Type 0
Inverse n a b = (k : ℕ) → k < n → (a k < n) × (b (a k) ≡ k)

abbrev pub Paired : ℕ → (ℕ → ℕ) → (ℕ → ℕ) → Type 0
Paired n a b = Inverse n a b × Inverse n b a

abbrev pub Linked : {A : Type 0} → (Slot A → Link) → List (Slot A) → Type 0
Linked link xs = Paired (length xs) (slot_at link xs) (place_of link xs)

abbrev pub Straight : {A : Type 0} → (Slot A → Link) → ℕ → List (Slot A) → Type 0
Straight link n xs = (k : ℕ) → k < n → (slot_at link xs k ≡ k) × (place_of link xs k ≡ k)

pub record Swapped (a b : ℕ → ℕ) (p q : ℕ) : Type 0 where
  pub here : b p ≡ a q
  pub there : b q ≡ a p
  pub rest : (k : ℕ) → (k ≢ p) → (k ≢ q) → b k ≡ a k

pub record Moved {A : Type 0} (link other : Slot A → Link) (n : ℕ) (xs ys : List (Slot A)) : Type 0 where
  pub linked : Linked link ys
  pub rest : (k : ℕ) → n ≤ k → slot_at link ys k ≡ slot_at link xs k
  pub kept : Kept other xs ys
