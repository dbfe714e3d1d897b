-- Heap order, by places: lt is an order of the slots, a p the slot at place p. Assumes nothing.
--     Child p k              place k is a child of place p
--     Ordered lt a n         no slot at a place below n comes before the one at its parent
--     Gap lt a j n           the same of all places but j, and past j from its children to its parent
--     Under lt a j n         no slot at a child of j comes before the one at j
--     Over lt a j            the slot at j does not come before the one at its parent
--     Rising lt a j r        r tells whether the slot at j comes before the one at its parent
--     FirstChild lt a j n r  r is the child of j below n that no other comes before, or none if there is no child
use Rattle.std.specs.Prelude.{◌≡◌, ℕ, ◌+◌, ◌-◌, ◌*◌, ◌/◌, ◌<◌, ◌≤◌, Bool, true, false, Some, None, Option, ◌≢◌}

pub record Child (p k : ℕ) : Type 0 where
  pub low : p * 2 + 1 ≤ k
  pub high : k ≤ p * 2 + 2

module _ (lt : ℕ → ℕ → Bool) (a : ℕ → ℕ) where
  abbrev pub Ordered : ℕ → Type 0
  Ordered n = (p k : ℕ) → Child p k → k < n → lt (a k) (a p) ≡ false

  pub record Gap (j n : ℕ) : Type 0 where
    pub away : (p k : ℕ) → Child p k → k < n → (p ≢ j) → (k ≢ j) → lt (a k) (a p) ≡ false
    pub past : (p k : ℕ) → Child p j → Child j k → k < n → lt (a k) (a p) ≡ false

  abbrev pub Under : ℕ → ℕ → Type 0
  Under j n = (k : ℕ) → Child j k → k < n → lt (a k) (a j) ≡ false

  abbrev pub Over : ℕ → Type 0
  Over j = (p : ℕ) → Child p j → lt (a j) (a p) ≡ false

  abbrev pub Rising : ℕ → Bool → Type 0
  Rising j true = (0 < j) × (lt (a j) (a ((j - 1) / 2)) ≡ true)
  Rising j false = Over j

  abbrev pub FirstChild : ℕ → ℕ → Option ℕ → Type 0
  FirstChild j n None = n ≤ j * 2 + 1
  FirstChild j n (Some c) = Child j c × (c < n) × ((k : ℕ) → Child j k → k < n → lt (a k) (a c) ≡ false)
