-- What a sift makes of a heap with a gap at place j; a and b are the slots by place before and after it. Assumes nothing.
--     Rises, Sinks      the slot at j goes up, or down: a heap, if it was one below j, or above j
--     Mends             the slot at j goes where it belongs: a heap
--     Heaped ..         the first n places are a heap
--     BothHeaped        the first n places are a heap by hard time, and one by soft time
use Rattle.std.specs.Prelude.{ℕ, ◌<◌, Bool, List}
use Rattle.heap_links.specs.declared.slots.Link.{Link}
use Rattle.heap_links.specs.declared.slots.Slot.{Slot}
use Rattle.heap_links.specs.declared.timer.Timer.{Timer}
use Rattle.heap_links.specs.Columns.{timers, slot_at}
use Rattle.key_heaps.specs.HeapOrder.{Ordered, Gap, Under, Over}
use Rattle.key_heaps.specs.Sooner.{precedes}

module _ (lt : ℕ → ℕ → Bool) (a : ℕ → ℕ) (j : ℕ) where
  abbrev pub Rises : (ℕ → ℕ) → Type 0
  Rises b = (n : ℕ) → j < n → Gap lt a j n → Under lt a j n → Ordered lt b n

  abbrev pub Sinks : ℕ → (ℕ → ℕ) → Type 0
  Sinks n b = Gap lt a j n → Over lt a j → Ordered lt b n

  abbrev pub Mends : ℕ → (ℕ → ℕ) → Type 0
  Mends n b = Gap lt a j n → Ordered lt b n

abbrev pub order : {A : Type 0} → (A → A → Bool) → (Timer A → A) → List (Slot A) → ℕ → ℕ → Bool
order before time xs = precedes before time (timers xs)

abbrev pub Heaped : {A : Type 0} → (A → A → Bool) → (Timer A → A) → (Slot A → Link) → List (Slot A) → ℕ → Type 0
Heaped before time link xs n = Ordered (order before time xs) (slot_at link xs) n

abbrev pub BothHeaped : {A : Type 0} → (A → A → Bool) → ℕ → List (Slot A) → Type 0
BothHeaped before n xs =
    Heaped before (λ t. t.hard) (λ s. s.hard) xs n × Heaped before (λ t. t.soft) (λ s. s.soft) xs n
